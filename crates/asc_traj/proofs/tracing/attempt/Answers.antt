-- A step of a settled word goes on, or changes nothing, and is then tried anew.
use Rattle.std.proofs.Common.{◌≡◌, ◌≤◌, Bool, Some, None, if◌then◌else◌, sym, ap, subst, ◌∙◌}
use Rattle.std.proofs.lemmas.Bool.{false≢true}
use Rattle.asc_model.specs.declared.limits.TheConstants.{STEP_ROOM}
use Rattle.asc_model.specs.Step.{next}
use Rattle.asc_model.specs.Reach.{why_no_step}
use Rattle.asc_shape.specs.Face.{room_of}
use Rattle.asc_step.specs.Step.{face_after}
use Rattle.asc_depvec.specs.Tracer.{Tracing, face_of}
use Rattle.asc_traj.specs.Inside.{why_of}
use Rattle.asc_traj.proofs.Attempts.{limits-step, why_of-stepped, unchanged}
use Rattle.asc_traj.proofs.tracing.attempt.Goals.{Else-step_settled}
use Rattle.asc_traj.proofs.tracing.attempt.Goals as goal

pub returns-then-step_settled : goal.returns-then-step_settled
returns-then-step_settled g c =
    let t = c.args.tracer.now in
    let did = c.step_settled.ensures.went c.if-step_settled.true in
    let limits = limits-step t c.step_settled.new.bytes c.requires.room did.places in
    record {
      ends = ap (λ (b : Bool). if b then None else Some c.args.why.now) c.if-step_settled.true ∙ ap why_of did.answer ∙ why_of-stepped (next t.state);
      goes = λ _. did.places;
      back = λ is. absurd (false≢true (sym is ∙ c.if-step_settled.true));
      shape = limits.0;
      cap = limits.1;
    }

same : (g : _) (c : Else-step_settled g) → c.step_settled.new.bytes ≡ c.args.tracer.now
same g c = unchanged c.args.tracer.now c.step_settled.new.bytes c.requires.room (c.step_settled.ensures.stays c.if-step_settled.false)

pub attempt_anew-requires : goal.attempt_anew-requires
attempt_anew-requires g c = record { room = subst (λ (t : Tracing). STEP_ROOM ≤ room_of (face_of t).marks) (sym (same g (goal.at.attempt_anew-requires g c).Else-step_settled)) c.requires.room }

pub returns-else-step_settled : goal.returns-else-step_settled
returns-else-step_settled g c =
    let same = same g (goal.at.returns-else-step_settled g c).Else-step_settled in
    let tried = c.attempt_anew.ensures in
    record {
      ends = tried.ends ∙ ap (λ (t : Tracing). why_no_step (next t.state)) same;
      goes = λ is. tried.goes is ∙ ap (λ (t : Tracing). face_after (face_of t)) same;
      back = λ is. tried.back is ∙ same;
      shape = tried.shape ∙ ap (λ (t : Tracing). t.shape) same;
      cap = tried.cap ∙ ap (λ (t : Tracing). t.cap) same;
    }
