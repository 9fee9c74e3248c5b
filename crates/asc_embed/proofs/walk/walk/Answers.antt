-- Steps that lead on behind others.
use Rattle.std.proofs.Common.{◌≡◌, ℕ, ◌+◌, refl, ◌∙◌, subst, lit≤, arith}
use Rattle.asc_model.specs.State.{State}
use Rattle.asc_model.specs.Step.{Went}
use Rattle.asc_model.specs.Plain.{plain}
use Rattle.asc_model.proofs.PlainSteps.{plain-zero, plain_steps_join}
use Rattle.asc_embed.proofs.walk.walk.Goals.{then-pc-stop+in-None+in_ok-keep-in-None, else-pc-stop}
use Rattle.asc_embed.proofs.walk.walk.Goals as goal

-- m steps and then n, where both are so many in all
further : (m n total : ℕ) (s between after : State) → plain m s ≡ Went between → plain n between ≡ Went after → total ≡ m + n
    → plain total s ≡ Went after
further m n total s between after first second all = rw all (plain_steps_join m n s between first ∙ second)

pub loop-visit-init : goal.loop-visit-init
loop-visit-init g c = record {
  few = lit≤ tt;
  goes = λ _. plain-zero c.args.state.now;
  counter = omega arith;
}

pub loop-visit-preserved-in-Some : goal.loop-visit-preserved-in-Some
loop-visit-preserved-in-Some g c =
    let before = c.loop-visit in
    let sum = c.saturating_add-jumped.ensures in
    record {
      few = before.invariant.few;
      goes = λ below. further (before.executed + before.jumped) c.in-Some.n (before.executed + c.saturating_add-jumped.result) _ _ _
          (before.invariant.goes (omega (arith, below, sum))) c.in-Some.ensures.some (omega (arith, below, sum));
      counter = before.invariant.counter;
    }

pub returns-then-ne-clause-goes : goal.returns-then-ne-clause-goes
returns-then-ne-clause-goes g c = λ below.
    let before = c.loop-visit in
    let n = c.step_until-n.result.0 in
    let stays : c.if-pc-stop.state ≡ before.state = elim c.if-pc-stop.branch [
      | then-pc-stop+in-None+in_ok-keep-in-None w ↦ w.state-is ∙ w.in-None.ensures.none refl
      | else-pc-stop w ↦ w.state-is
    ] in
    further (before.executed + before.jumped) n (before.executed + n + before.jumped) _ before.state _
    (before.invariant.goes below)
    (subst (λ (s : State). plain n s ≡ Went c.step_until-n.new.state) stays c.step_until-n.ensures.goes) (omega arith)

pub loop-visit-preserved : goal.loop-visit-preserved
loop-visit-preserved g c =
    let before = c.loop-visit in
    let n = c.step_until-n.result.0 in
    let stays : c.if-pc-stop.state ≡ before.state = elim c.if-pc-stop.branch [
      | then-pc-stop+in-None+in_ok-keep-in-None w ↦ w.state-is ∙ w.in-None.ensures.none refl
      | else-pc-stop w ↦ w.state-is
    ] in
    let few = before.invariant.few in
    let most = c.step_until-n.ensures.most in
    let counted = c.step_until-n.ensures.counter in
    let counter = before.invariant.counter in
    record {
      few = omega (arith, few, most);
      goes = λ below. further (before.executed + before.jumped) n (before.executed + n + before.jumped) _ before.state _
          (before.invariant.goes below)
          (subst (λ (s : State). plain n s ≡ Went c.step_until-n.new.state) stays c.step_until-n.ensures.goes) (omega arith);
      counter = omega (arith, counted, counter);
    }
