-- A step that goes on leads one step further, and one behind which the loop goes on did not lead to the pc.
use Rattle.std.proofs.Common.{◌+◌, sym, ap, ◌∙◌, arith}
use Rattle.asc_model.proofs.PlainSteps.{plain-zero, plain_steps_keep_states}
use Rattle.asc_step.specs.Step.{counted_steps}
use Rattle.asc_step.proofs.Passed.{plain-more, PassesBy-more}
use Rattle.asc_step.proofs.many.step_until.Goals as goal

pub loop-done-init : goal.loop-done-init
loop-done-init g c = record {
  goes = plain-zero c.args.state.now;
  passes = λ k least below after goes at. omega (arith, least, below);
  counted = omega arith;
  most = omega arith;
}

pub step_of-requires-clause-shape : goal.step_of-requires-clause-shape
step_of-requires-clause-shape g c =
    let kept = plain_steps_keep_states c.loop-done.done c.args.state.now c.loop-done.state in
    c.shape-shape.ensures.shape ∙ sym (kept c.shape-shape.ensures.state c.loop-done.invariant.goes).1

pub loop-done-preserved : goal.loop-done-preserved
loop-done-preserved g c =
    let goes = plain-more c.loop-done.done c.args.state.now c.loop-done.state _ _ c.loop-done.invariant.goes c.in-Went.is c.step_of.ensures.step.answer c.step_of.ensures.step.state in
    record {
      goes = goes;
      passes = PassesBy-more c.args.state.now c.step_of.new.bytes c.args.pc (c.loop-done.done + 1) c.loop-done.invariant.passes goes (λ at. c.if-pc.false (c.pc.ensures ∙ at));
      counted = c.step_of.ensures.counter
          ∙ ap (λ answer. c.loop-done.steps + counted_steps answer) c.in-Went.is
          ∙ omega (arith, c.loop-done.invariant.counted);
      most = omega (arith, c.loop-done-test.true);
    }

pub returns-then-pc-clause-goes : goal.returns-then-pc-clause-goes
returns-then-pc-clause-goes g c =
    plain-more c.loop-done.done c.args.state.now c.loop-done.state _ _ c.loop-done.invariant.goes c.in-Went.is c.step_of.ensures.step.answer c.step_of.ensures.step.state
