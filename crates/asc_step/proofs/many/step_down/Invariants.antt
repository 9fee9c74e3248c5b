-- So many steps were done, and none of them lowered the pc.
use Rattle.std.proofs.Common.{◌≡◌, ◌+◌, ◌-◌, ◌≤◌}
use Rattle.asc_model.specs.Machine.{view_of}
use Rattle.asc_model.specs.Plain.{plain}
use Rattle.asc_model.specs.Step.{Went}
use Rattle.asc_step.specs.Step.{Climbs}
use Rattle.asc_step.proofs.many.step_down.Given as goal

abbrev pub invariant-loop-done : goal.invariant-loop-done
invariant-loop-done g l = record {
  goes : plain l.done l.fn.state ≡ Went l.state;
  climbs : Climbs l.fn.state (l.done + 1);
  from : l.from ≡ (view_of l.state).pc;
  counted : l.steps ≡ l.fn.steps + l.done;
  most : l.done ≤ l.fn.most;
}

abbrev pub decreases-loop-done : goal.decreases-loop-done
decreases-loop-done g l = l.most - l.done
