-- A step that goes on leads one step further.
use Rattle.std.proofs.Common.{◌+◌, sym, ap, ◌∙◌, arith}
use Rattle.asc_model.proofs.PlainSteps.{plain-zero, plain_steps_keep_states}
use Rattle.asc_step.specs.Step.{counted_steps}
use Rattle.asc_step.proofs.Passed.{plain-more}
use Rattle.asc_step.proofs.many.step_many.Goals as goal

pub loop-count-init : goal.loop-count-init
loop-count-init g c = record { goes = plain-zero c.args.state.now; counted = omega arith; most = omega arith }

pub loop-count-preserved : goal.loop-count-preserved
loop-count-preserved g c = record {
  goes = plain-more c.loop-count.count c.args.state.now c.loop-count.state _ _ c.loop-count.invariant.goes c.in-Went.is c.step_of.ensures.step.answer c.step_of.ensures.step.state;
  counted = c.step_of.ensures.counter
      ∙ ap (λ answer. c.loop-count.steps + counted_steps answer) c.in-Went.is
      ∙ omega (arith, c.loop-count.invariant.counted);
  most = omega (arith, c.loop-count-test.true);
}

pub step_of-requires-clause-shape : goal.step_of-requires-clause-shape
step_of-requires-clause-shape g c =
    let kept = plain_steps_keep_states c.loop-count.count c.args.state.now c.loop-count.state in
    c.shape-shape.ensures.shape ∙ sym (kept c.shape-shape.ensures.state c.loop-count.invariant.goes).1
