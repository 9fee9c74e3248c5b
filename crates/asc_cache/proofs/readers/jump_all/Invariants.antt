use Rattle.std.proofs.Common.{◌≡◌, ◌<◌, ◌≤◌, ℕ, slice_index_or, None}
use Rattle.asc_cache.specs.Cache.{ShardReader}
use Rattle.asc_cache.specs.Cache.{IsLater, found_by}
use Rattle.asc_cache.proofs.readers.jump_all.Given as goal

abbrev pub invariant-loop-i : goal.invariant-loop-i
invariant-loop-i g l = record {
  rest : (k : ℕ) (d : ShardReader) → l.i ≤ k → slice_index_or l.readers k d ≡ slice_index_or l.initial.readers k d;
  done : (k : ℕ) (d : ShardReader) → k < l.i → IsLater (slice_index_or l.initial.readers k d) (slice_index_or l.readers k d);
  none : (k : ℕ) (d : ShardReader) → k < l.i → found_by l.initial.state l.left (slice_index_or l.readers k d) ≡ None;
  state : l.state ≡ l.initial.state;
}
