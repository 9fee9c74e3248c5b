use Rattle.std.proofs.Common.{◌≡◌, ◌+◌, List, All, length}
use Rattle.asc_cache.specs.Cache.{ShardReader}
use Rattle.asc_model.specs.Tally.{no_jobs}
use Rattle.asc_live.specs.Crew.{HasBoundsOf, IsWriterOf}
use Rattle.asc_live.proofs.open_crew.workers_of.Given as goal

abbrev pub invariant-loop-writer : goal.invariant-loop-writer
invariant-loop-writer g l =
    (length l.writers.items ≡ length l.flags.items)
    × (length l.workers.items + length l.writers.items ≡ length l.initial.writers.items)
    × All (λ w. w.tally ≡ no_jobs) l.workers.items
    × All (HasBoundsOf l.initial.shape l.initial.guessing) l.workers.items
    × ((readers : List ShardReader) → All (IsWriterOf readers) l.initial.writers.items
    → All (IsWriterOf readers) l.writers.items × All (λ w. IsWriterOf readers w.writer) l.workers.items)

abbrev pub decreases-loop-writer : goal.decreases-loop-writer
decreases-loop-writer g l = length l.writers.items
