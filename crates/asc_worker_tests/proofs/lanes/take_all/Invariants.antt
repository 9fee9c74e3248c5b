use Rattle.std.proofs.Common.{◌≡◌}
use Rattle.asc_worker_tests.proofs.lanes.take_all.Given as goal

abbrev pub invariant-loop-at : goal.invariant-loop-at
invariant-loop-at g l = l.lanes.shape ≡ l.initial.lanes.shape
