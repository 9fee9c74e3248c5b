-- So many steps were done.
use Rattle.std.proofs.Common.{◌≡◌, ◌+◌, ◌-◌, ◌≤◌}
use Rattle.asc_model.specs.Plain.{plain}
use Rattle.asc_model.specs.Step.{Went}
use Rattle.asc_step.proofs.many.step_many.Given as goal

abbrev pub invariant-loop-count : goal.invariant-loop-count
invariant-loop-count g l = record {
  goes : plain l.count l.fn.state ≡ Went l.state;
  counted : l.steps ≡ l.fn.steps + l.count;
  most : l.count ≤ l.fn.most;
}

abbrev pub decreases-loop-count : goal.decreases-loop-count
decreases-loop-count g l = l.most - l.count
