use Rattle.std.proofs.Common.{ap, refl, subst, sym, ◌%◌, ◌∙◌, arith}
use Rattle.asc_model.specs.Shape.{Shape}
use Rattle.asc_model.specs.declared.version.Version.{Version}
use Rattle.asc_model.specs.Instruction.{decode}
use Rattle.asc_model.specs.State.{State}
use Rattle.asc_shape.specs.Face.{Face}
use Rattle.asc_step.specs.Step.{Attempts}
use Rattle.asc_step.proofs.Effects.{at_fetched}
use Rattle.asc_step.proofs.Rooms.{room_after_word}
use Rattle.asc_step.proofs.Settling.{went_from, went_settled}
use Rattle.asc_step.proofs.Steps.{step_unfetched, fetched, step_fetched, word_fetched}
use Rattle.asc_step.proofs.stepping.step_anew.Goals as goal

pub returns-in-Some : goal.returns-in-Some
returns-in-Some g c =
    let pc = c.read_word-pc.ensures in
    step_unfetched _ _ _ _ _ _ c.shape-shape.ensures.state c.shape-shape.ensures.marks c.shape-shape.ensures.shape pc.value c.in-Some.ensures c.fault.ensures pc.face

pub read_word-word-requires-clause-room : goal.read_word-word-requires-clause-room
read_word-word-requires-clause-room g c = omega (arith, room_after_word _ _ 0 c.read_word-pc.ensures.face)

pub execute_fetched-stepped-requires-clause-room : goal.execute_fetched-stepped-requires-clause-room
execute_fetched-stepped-requires-clause-room g c = omega (arith, room_after_word _ _ 0 c.read_word-pc.ensures.face, room_after_word _ _ _ c.read_word-word.ensures.face)

pub execute_fetched-stepped-requires-clause-at : goal.execute_fetched-stepped-requires-clause-at
execute_fetched-stepped-requires-clause-at g c =
    at_fetched _ _ _ _ _ c.shape-shape.ensures.state c.shape-shape.ensures.marks c.read_word-pc.ensures.value c.read_word-pc.ensures.face c.read_word-word.ensures.face

pub execute_fetched-stepped-requires-clause-word : goal.execute_fetched-stepped-requires-clause-word
execute_fetched-stepped-requires-clause-word g c =
    let pc = c.read_word-pc.ensures in
    let word = c.read_word-word.ensures in
    let known = fetched _ _ _ _ _ _ _ _ _ c.shape-shape.ensures.state c.shape-shape.ensures.marks c.shape-shape.ensures.shape pc.value pc.face
    c.in_default.ensures c.place_of-place.ensures word.value word.face refl refl in
    word_fetched _ _ _ _ _ _ known

pub settle-requires-clause-place : goal.settle-requires-clause-place
settle-requires-clause-place g c =
    let pc = c.read_word-pc.ensures in
    let word = c.read_word-word.ensures in
    let same = ap (λ (s : State). s.shape.version) (word.state ∙ pc.state) ∙ sym (ap (λ (x : Shape). x.version) c.shape-shape.ensures.shape) in
    let known = fetched _ _ _ _ _ _ _ _ _ c.shape-shape.ensures.state c.shape-shape.ensures.marks c.shape-shape.ensures.shape pc.value pc.face
    c.in_default.ensures c.place_of-place.ensures word.value word.face refl (ap (λ (v : Version). decode v c.read_word-word.result) same) in
    let did = step_fetched _ _ _ _ _ _ known _ _ c.execute_fetched-stepped.ensures.answer c.execute_fetched-stepped.ensures.face in
    let from = went_from _ _ c.shape-shape.result _ _ c.shape-shape.ensures.state c.shape-shape.ensures.shape pc.value did c.in-Went.is in
    omega (arith, c.place_of-place.ensures, from.within)

pub settle-requires-clause-aligned : goal.settle-requires-clause-aligned
settle-requires-clause-aligned g c =
    let pc = c.read_word-pc.ensures in
    let word = c.read_word-word.ensures in
    let same = ap (λ (s : State). s.shape.version) (word.state ∙ pc.state) ∙ sym (ap (λ (x : Shape). x.version) c.shape-shape.ensures.shape) in
    let known = fetched _ _ _ _ _ _ _ _ _ c.shape-shape.ensures.state c.shape-shape.ensures.marks c.shape-shape.ensures.shape pc.value pc.face
    c.in_default.ensures c.place_of-place.ensures word.value word.face refl (ap (λ (v : Version). decode v c.read_word-word.result) same) in
    let did = step_fetched _ _ _ _ _ _ known _ _ c.execute_fetched-stepped.ensures.answer c.execute_fetched-stepped.ensures.face in
    let from = went_from _ _ c.shape-shape.result _ _ c.shape-shape.ensures.state c.shape-shape.ensures.shape pc.value did c.in-Went.is in
    ap (λ k. k % 4) c.place_of-place.ensures ∙ from.aligned

pub settle-requires-clause-settled : goal.settle-requires-clause-settled
settle-requires-clause-settled g c =
    let pc = c.read_word-pc.ensures in
    let word = c.read_word-word.ensures in
    let same = ap (λ (s : State). s.shape.version) (word.state ∙ pc.state) ∙ sym (ap (λ (x : Shape). x.version) c.shape-shape.ensures.shape) in
    let known = fetched _ _ _ _ _ _ _ _ _ c.shape-shape.ensures.state c.shape-shape.ensures.marks c.shape-shape.ensures.shape pc.value pc.face
    c.in_default.ensures c.place_of-place.ensures word.value word.face refl (ap (λ (v : Version). decode v c.read_word-word.result) same) in
    let did = step_fetched _ _ _ _ _ _ known _ _ c.execute_fetched-stepped.ensures.answer c.execute_fetched-stepped.ensures.face in
    went_settled _ _ c.shape-shape.result c.read_word-pc.result c.place_of-place.result _ c.shape-shape.ensures.state c.shape-shape.ensures.marks c.shape-shape.ensures.shape pc.value
    c.place_of-place.ensures did c.in-Went.is

pub returns-in-Went : goal.returns-in-Went
returns-in-Went g c =
    let pc = c.read_word-pc.ensures in
    let word = c.read_word-word.ensures in
    let same = ap (λ (s : State). s.shape.version) (word.state ∙ pc.state) ∙ sym (ap (λ (x : Shape). x.version) c.shape-shape.ensures.shape) in
    let known = fetched _ _ _ _ _ _ _ _ _ c.shape-shape.ensures.state c.shape-shape.ensures.marks c.shape-shape.ensures.shape pc.value pc.face
    c.in_default.ensures c.place_of-place.ensures word.value word.face refl (ap (λ (v : Version). decode v c.read_word-word.result) same) in
    let did = step_fetched _ _ _ _ _ _ known _ _ c.execute_fetched-stepped.ensures.answer c.execute_fetched-stepped.ensures.face in
    subst (λ (face : Face). Attempts (g.B.Bytes.face c.args.bytes.now) face c.execute_fetched-stepped.result) (sym c.settle.ensures) did

pub returns-in_default-rare : goal.returns-in_default-rare
returns-in_default-rare g c =
    let pc = c.read_word-pc.ensures in
    let word = c.read_word-word.ensures in
    let same = ap (λ (s : State). s.shape.version) (word.state ∙ pc.state) ∙ sym (ap (λ (x : Shape). x.version) c.shape-shape.ensures.shape) in
    let known = fetched _ _ _ _ _ _ _ _ _ c.shape-shape.ensures.state c.shape-shape.ensures.marks c.shape-shape.ensures.shape pc.value pc.face
    c.in_default.ensures c.place_of-place.ensures word.value word.face refl (ap (λ (v : Version). decode v c.read_word-word.result) same) in
    step_fetched _ _ _ _ _ _ known _ _ c.execute_fetched-stepped.ensures.answer c.execute_fetched-stepped.ensures.face
