-- The program has come as far as plain execution in as many steps, and its addresses so far are noted.
use Rattle.std.proofs.Common.{◌≡◌, ◌-◌, ◌≤◌, length, vec_capacity}
use Rattle.asc_calls.specs.World.{faults, outside_of, world_in}
use Rattle.asc_run.specs.Visits.{profile_of}
use Rattle.asc_run.specs.Way.{Reaches}
use Rattle.asc_run.proofs.Profiled.{AreNumbered}
use Rattle.asc_run.proofs.process.Process.note.Given as goal

abbrev pub invariant-loop-self : goal.invariant-loop-self
invariant-loop-self g l = record {
  way : Reaches (λ run. l.notes.items ≡ profile_of run l.self.count) l.fn.self.calls.low l.fn.self.calls.high l.fn.self.state
      (world_in l.fn.self.state l.fn.self.calls (outside_of l.fn.devices l.fn.steps))
      (world_in l.self.state l.self.calls (outside_of l.devices l.steps)) l.self.count 0;
  within : l.self.count ≤ l.stop;
  long : length l.notes.items ≡ l.self.count;
  numbered : AreNumbered l.notes.items;
  capacity : l.stop ≤ vec_capacity l.notes;
  kept : vec_capacity l.notes ≡ vec_capacity l.fn.notes;
  faults : l.devices.told.faults
      ≡ l.fn.devices.told.faults;
}

abbrev pub decreases-loop-self : goal.decreases-loop-self
decreases-loop-self g l = l.stop - l.self.count
