-- A step that goes on leads one step further, and one behind which the loop goes on did not lower the pc.
use Rattle.std.proofs.Common.{◌≤◌, ◌+◌, sym, ap, ◌∙◌, arith}
use Rattle.asc_model.proofs.PlainSteps.{plain-zero, plain_steps_keep_states}
use Rattle.asc_step.specs.Step.{counted_steps}
use Rattle.asc_step.proofs.Passed.{plain-more, Climbs-more, Lowers-more}
use Rattle.asc_step.proofs.many.step_down.Goals as goal

pub loop-done-init : goal.loop-done-init
loop-done-init g c = record {
  goes = plain-zero c.args.state.now;
  climbs = λ k below first last at_first at_last. omega (arith, below);
  from = c.pc-from.ensures;
  counted = omega arith;
  most = omega arith;
}

pub step_of-requires-clause-shape : goal.step_of-requires-clause-shape
step_of-requires-clause-shape g c =
    let kept = plain_steps_keep_states c.loop-done.done c.args.state.now c.loop-done.state in
    c.shape-shape.ensures.shape ∙ sym (kept c.shape-shape.ensures.state c.loop-done.invariant.goes).1

pub loop-done-preserved : goal.loop-done-preserved
loop-done-preserved g c =
    let goes = plain-more c.loop-done.done c.args.state.now c.loop-done.state _ _ c.loop-done.invariant.goes c.in-Went.is c.step_of.ensures.step.answer c.step_of.ensures.step.state in
    let up : c.loop-done.from ≤ c.pc-pc.result = omega (arith, c.if-pc-from.false) in
    record {
      goes = goes;
      climbs = Climbs-more c.args.state.now c.loop-done.state c.step_of.new.bytes c.loop-done.done c.loop-done.invariant.climbs c.loop-done.invariant.goes goes
          (omega (arith, up, c.loop-done.invariant.from, c.pc-pc.ensures));
      from = c.pc-pc.ensures;
      counted = c.step_of.ensures.counter
          ∙ ap (λ answer. c.loop-done.steps + counted_steps answer) c.in-Went.is
          ∙ omega (arith, c.loop-done.invariant.counted);
      most = omega (arith, c.loop-done-test.true);
    }

pub returns-then-pc-from-clause-goes : goal.returns-then-pc-from-clause-goes
returns-then-pc-from-clause-goes g c =
    plain-more c.loop-done.done c.args.state.now c.loop-done.state _ _ c.loop-done.invariant.goes c.in-Went.is c.step_of.ensures.step.answer c.step_of.ensures.step.state

pub returns-then-pc-from-clause-down : goal.returns-then-pc-from-clause-down
returns-then-pc-from-clause-down g c _ =
    let goes = plain-more c.loop-done.done c.args.state.now c.loop-done.state _ _ c.loop-done.invariant.goes c.in-Went.is c.step_of.ensures.step.answer c.step_of.ensures.step.state in
    Lowers-more c.args.state.now c.loop-done.state c.step_of.new.bytes c.loop-done.done c.loop-done.invariant.goes goes
    (omega (arith, c.if-pc-from.true, c.loop-done.invariant.from, c.pc-pc.ensures))
