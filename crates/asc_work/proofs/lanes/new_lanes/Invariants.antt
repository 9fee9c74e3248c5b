use Rattle.std.proofs.Common.{◌≡◌, All, length, replicate}
use Rattle.asc_work.specs.Lanes.{IsLane, ran_by}
use Rattle.asc_work.proofs.lanes.new_lanes.Given as goal

abbrev pub invariant-loop : goal.invariant-loop
invariant-loop l = (length l.made.items ≡ l.counter) × All (IsLane l.fn.shape l.lanes) l.made.items × (ran_by l.made.items ≡ replicate l.counter 0)
