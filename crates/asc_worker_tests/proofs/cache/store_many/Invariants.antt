use Rattle.std.proofs.Common.{◌≡◌}
use Rattle.asc_worker_tests.proofs.cache.store_many.Given as goal

abbrev pub invariant-loop : goal.invariant-loop
invariant-loop g l = (l.writer.shard ≡ l.initial.writer.shard) × (l.writer.index ≡ l.initial.writer.index)

abbrev pub invariant-loop-entry : goal.invariant-loop-entry
invariant-loop-entry g l = (l.writer.shard ≡ l.initial.writer.shard) × (l.writer.index ≡ l.initial.writer.index)
