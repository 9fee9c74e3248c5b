use Rattle.std.proofs.Common.{◌<◌, ℕ, get_or}
use Rattle.asc_model.specs.Entry.{Entry}
use Rattle.asc_model.specs.EntryFile.{IsSavable}
use Rattle.asc_run_tests.proofs.save.may_be_written.Given as goal

-- the first entries may be written
abbrev pub invariant-loop-i : goal.invariant-loop-i
invariant-loop-i g l = (k : ℕ) (d : Entry) → k < l.i → IsSavable l.fn.shape (get_or l.content.held k d)
