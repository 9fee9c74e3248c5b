-- Wherever it began, the program has come as far as plain execution, and stood at the address so often.
use Rattle.std.proofs.Common.{◌≡◌, ◌-◌, ◌≤◌, ◌<◌, ℕ, List}
use Rattle.asc_model.specs.State.{State}
use Rattle.asc_calls.specs.World.{World, outside_of, world_in}
use Rattle.asc_inspect.specs.Standing.{IsOnWay}
use Rattle.asc_inspect.proofs.visit.Visitor.come_on.Given as goal

abbrev pub invariant-loop-self : goal.invariant-loop-self
invariant-loop-self g l = record {
  way : (start : World) (seen : List (ℕ × State)) → IsOnWay l.pc l.fn.self.visits seen start
      (world_in l.fn.self.process.state l.fn.self.process.calls (outside_of l.fn.devices l.fn.steps)) l.fn.self.process.count
      → IsOnWay l.pc l.self.visits seen start
      (world_in l.self.process.state l.self.process.calls (outside_of l.devices l.steps)) l.self.process.count;
  within : l.self.process.count ≤ l.limit;
  few : l.self.visits ≤ l.self.process.count;
  before : l.self.visits < l.visit;
  faults : l.devices.told.faults ≡ l.fn.devices.told.faults;
}

abbrev pub decreases-loop-self : goal.decreases-loop-self
decreases-loop-self g l = l.limit - l.self.process.count
