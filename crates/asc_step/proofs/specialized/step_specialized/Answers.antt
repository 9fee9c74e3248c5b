use Rattle.std.proofs.Common.{ap, sym, ◌∙◌, arith, subst}
use Rattle.asc_model.specs.Shape.{Shape}
use Rattle.asc_model.specs.State.{State, IsState}
use Rattle.asc_step.proofs.Effects.{at_fetched, effect_of_version}
use Rattle.asc_step.proofs.Rooms.{room_after_word}
use Rattle.asc_step.proofs.Steps.{step_unfetched, fetched, step_fetched, step_illegal}
use Rattle.asc_step.proofs.specialized.step_specialized.Goals as goal

pub returns-in-Some : goal.returns-in-Some
returns-in-Some g c =
    let pc = c.read_word-pc.ensures in
    step_unfetched _ _ _ _ _ _ c.shape.ensures.state c.shape.ensures.marks c.requires.shape pc.value c.in-Some.ensures c.fault.ensures pc.face

pub read_word-word-requires-clause-room : goal.read_word-word-requires-clause-room
read_word-word-requires-clause-room g c = omega (arith, room_after_word _ _ 0 c.read_word-pc.ensures.face)

pub execute_specialized-requires-clause-room : goal.execute_specialized-requires-clause-room
execute_specialized-requires-clause-room g c = omega (arith, room_after_word _ _ 0 c.read_word-pc.ensures.face, room_after_word _ _ _ c.read_word-word.ensures.face)

pub execute_specialized-requires-clause-at : goal.execute_specialized-requires-clause-at
execute_specialized-requires-clause-at g c =
    at_fetched _ _ _ _ _ c.shape.ensures.state c.shape.ensures.marks c.read_word-pc.ensures.value c.read_word-pc.ensures.face c.read_word-word.ensures.face

pub execute_specialized-requires-clause-version : goal.execute_specialized-requires-clause-version
execute_specialized-requires-clause-version g c =
    let same = c.read_word-word.ensures.state ∙ c.read_word-pc.ensures.state in
    effect_of_version _ _ _ _ (subst IsState (sym same) c.shape.ensures.state)
    (c.has_atomics.ensures ∙ c.version.ensures ∙ ap (λ (x : Shape). x.version) (c.requires.shape ∙ ap (λ (s : State). s.shape) (sym same)))
    c.in-Some-decode.ensures.instruction

pub returns-in-Some-decode : goal.returns-in-Some-decode
returns-in-Some-decode g c =
    let pc = c.read_word-pc.ensures in
    let word = c.read_word-word.ensures in
    let known = fetched _ _ _ _ _ _ _ _ _ c.shape.ensures.state c.shape.ensures.marks c.requires.shape pc.value pc.face
    c.in_default.ensures c.place_of.ensures word.value word.face (c.has_atomics.ensures ∙ c.version.ensures) c.in-Some-decode.ensures.instruction in
    step_fetched _ _ _ _ _ _ known _ _ c.execute_specialized.ensures.answer c.execute_specialized.ensures.face

pub returns-in-None : goal.returns-in-None
returns-in-None g c =
    let pc = c.read_word-pc.ensures in
    let word = c.read_word-word.ensures in
    let known = fetched _ _ _ _ _ _ _ _ _ c.shape.ensures.state c.shape.ensures.marks c.requires.shape pc.value pc.face
    c.in_default.ensures c.place_of.ensures word.value word.face (c.has_atomics.ensures ∙ c.version.ensures) c.in-None.ensures.instruction in
    step_illegal _ _ _ _ _ known _ c.fault-in-None.ensures
