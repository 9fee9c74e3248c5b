-- The program has come as far as plain execution, in as many steps.
use Rattle.std.proofs.Common.{◌≡◌, ◌-◌, ◌≤◌}
use Rattle.asc_calls.specs.World.{outside_of, world_in}
use Rattle.asc_inspect.specs.Registers.{ComesTo}
use Rattle.asc_inspect.proofs.registers.come.Given as goal

abbrev pub invariant-loop-process : goal.invariant-loop-process
invariant-loop-process g l = record {
  way : ComesTo l.process.count
      (world_in l.fn.process.state l.fn.process.calls (outside_of l.fn.devices l.fn.steps))
      (world_in l.process.state l.process.calls (outside_of l.devices l.steps));
  within : l.process.count ≤ l.last;
  faults : l.devices.told.faults ≡ l.fn.devices.told.faults;
}

abbrev pub decreases-loop-process : goal.decreases-loop-process
decreases-loop-process g l = l.last - l.process.count
