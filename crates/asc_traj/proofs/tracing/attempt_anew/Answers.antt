-- An attempt keeps what a tracer is, and one that ends is taken back.
use Rattle.std.proofs.Common.{◌≡◌, ◌≤◌, length, Some, IsSome, sym, ap, subst, ◌∙◌, arith}
use Rattle.std.specs.Option.{is_some}
use Rattle.std.proofs.lemmas.Bool.Decides.{nat_tests}
use Rattle.std.proofs.lemmas.Grind.{common_steps}
use Rattle.asc_model.specs.declared.why.Why.{Why}
use Rattle.asc_model.specs.Step.{next}
use Rattle.asc_model.specs.Reach.{why_no_step}
use Rattle.asc_depvec.specs.Tracer.{face_of, undone}
use Rattle.asc_traj.specs.Inside.{why_of}
use Rattle.asc_traj.proofs.Attempts.{limits-step, back-face, back-count, why_of-stepped, same_tracing}
use Rattle.asc_traj.proofs.tracing.attempt_anew.Goals.{After-why_of}
use Rattle.asc_traj.proofs.tracing.attempt_anew.Goals as goal

ends : (c : After-why_of) → c.why_of.result ≡ why_no_step (next c.args.tracer.now.state)
ends c = c.why_of.ensures ∙ ap why_of c.step_anew.ensures.answer ∙ why_of-stepped (next c.args.tracer.now.state)

some : (c : After-why_of) (why : Why) → c.why_of.result ≡ Some why → IsSome (why_no_step (next c.args.tracer.now.state))
some c why is = ap is_some (sym (ends c) ∙ is)

pub undo-requires : goal.undo-requires
undo-requires c = grind (arith, common_steps, nat_tests, back-count)

pub returns-in-None : goal.returns-in-None
returns-in-None c = grind (arith, common_steps, nat_tests, limits-step)

pub returns-in-Some : goal.returns-in-Some
returns-in-Some c = grind (arith, common_steps, nat_tests, back-face, limits-step, same_tracing)
