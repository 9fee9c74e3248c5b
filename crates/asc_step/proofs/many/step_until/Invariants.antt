-- So many steps were done, and none of them led to the pc.
use Rattle.std.proofs.Common.{◌≡◌, ◌+◌, ◌-◌, ◌≤◌}
use Rattle.asc_model.specs.Plain.{plain}
use Rattle.asc_model.specs.Step.{Went}
use Rattle.asc_step.specs.Step.{PassesBy}
use Rattle.asc_step.proofs.many.step_until.Given as goal

abbrev pub invariant-loop-done : goal.invariant-loop-done
invariant-loop-done g l = record {
  goes : plain l.done l.fn.state ≡ Went l.state;
  passes : PassesBy l.fn.state l.pc (l.done + 1);
  counted : l.steps ≡ l.fn.steps + l.done;
  most : l.done ≤ l.fn.most;
}

abbrev pub decreases-loop-done : goal.decreases-loop-done
decreases-loop-done g l = l.most - l.done
