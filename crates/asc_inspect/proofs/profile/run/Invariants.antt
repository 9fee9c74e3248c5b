-- The program has come as far as plain execution, and its counts so far are noted.
use Rattle.std.proofs.Common.{◌≡◌, ℕ, ◌-◌, ◌<◌, ◌≤◌, min, length, slice_index_or, vec_capacity}
use Rattle.asc_calls.specs.World.{outside_of, world_in}
use Rattle.asc_run.specs.Way.{Reaches}
use Rattle.asc_run.proofs.Profiled.{AreNumbered}
use Rattle.asc_inspect.specs.Profile.{no_meetings}
use Rattle.asc_inspect.proofs.Profiling.{IsWatched}
use Rattle.asc_inspect.proofs.profile.run.Given as goal

abbrev pub invariant-loop-process : goal.invariant-loop-process
invariant-loop-process g l = record {
  way : Reaches (IsWatched l.fn.notes.base l.fn.notes.profile l.notes.table.items l.notes.list.items l.back l.process.count)
      l.fn.process.calls.low l.fn.process.calls.high l.fn.process.state
      (world_in l.fn.process.state l.fn.process.calls (outside_of l.fn.devices l.fn.steps))
      (world_in l.process.state l.process.calls (outside_of l.devices l.steps)) l.process.count 0;
  within : l.process.count ≤ l.limit;
  base : l.notes.base ≡ l.fn.notes.base;
  profile : l.notes.profile ≡ l.fn.notes.profile;
  words : length l.notes.table.items ≡ length l.fn.notes.table.items;
  few : (k : ℕ) → k < length l.notes.table.items → (slice_index_or l.notes.table.items k no_meetings).times ≤ l.process.count;
  long : length l.notes.list.items ≡ min l.fn.notes.profile l.process.count;
  numbered : AreNumbered l.notes.list.items;
  room : l.fn.notes.profile ≤ vec_capacity l.notes.list;
  faults : l.devices.told.faults ≡ l.fn.devices.told.faults;
}

abbrev pub decreases-loop-process : goal.decreases-loop-process
decreases-loop-process g l = l.limit - l.process.count
