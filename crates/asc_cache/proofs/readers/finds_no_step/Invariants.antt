-- So it is with those so far.
use Rattle.std.proofs.Common.{◌≡◌, ◌<◌, ℕ, slice_index_or, None}
use Rattle.asc_model.specs.State.{State}
use Rattle.asc_cache.specs.Cache.{ShardReader, found_by}
use Rattle.asc_cache.proofs.readers.finds_no_step.Given as goal

abbrev pub invariant-loop-reader : goal.invariant-loop-reader
invariant-loop-reader l = (s : State) (k : ℕ) (d : ShardReader) → k < l.reader-index → found_by s 0 (slice_index_or l.readers k d) ≡ None
