use Rattle.std.proofs.Common.{ap, refl, sym, ◌∙◌, arith}
use Rattle.asc_model.specs.Shape.{Shape}
use Rattle.asc_model.specs.declared.version.Version.{Version}
use Rattle.asc_model.specs.Instruction.{decode}
use Rattle.asc_model.specs.State.{State}
use Rattle.asc_step.proofs.Effects.{at_fetched, shape_reads}
use Rattle.asc_step.proofs.Rooms.{room_after_word}
use Rattle.asc_step.proofs.Settling.{runs_fetched, settled_pc}
use Rattle.asc_step.proofs.Staying.{stays_unless}
use Rattle.asc_step.proofs.Steps.{fetched, step_fetched, word_fetched}
use Rattle.asc_step.proofs.Touches.{state_after_reads}
use Rattle.asc_step.proofs.stepping.step_settled.Goals as goal

pub execute_fetched-requires-clause-shape : goal.execute_fetched-requires-clause-shape
execute_fetched-requires-clause-shape g c = c.requires.shape ∙ sym (shape_reads _ _ _ c.get_touched-word.ensures.face)

pub execute_fetched-requires-clause-at : goal.execute_fetched-requires-clause-at
execute_fetched-requires-clause-at g c =
    at_fetched _ _ _ _ _ c.shape.ensures.state c.shape.ensures.marks c.peek_pc-pc.ensures (settled_pc _ _ (c.is_settled.ensures c.if-not-is_settled.false)) c.get_touched-word.ensures.face

pub execute_fetched-requires-clause-word : goal.execute_fetched-requires-clause-word
execute_fetched-requires-clause-word g c =
    let word = c.get_touched-word.ensures in
    let known = fetched _ _ _ _ _ _ _ _ _ c.shape.ensures.state c.shape.ensures.marks c.requires.shape c.peek_pc-pc.ensures (settled_pc _ _ (c.is_settled.ensures c.if-not-is_settled.false))
    c.in_default.ensures c.place_of-place.ensures word.word word.face refl refl in
    word_fetched _ _ _ _ _ _ known

pub execute_fetched-requires-clause-settled : goal.execute_fetched-requires-clause-settled
execute_fetched-requires-clause-settled g c = λ i decoded.
    let word = c.get_touched-word.ensures in
    let same = ap (λ (s : State). s.shape.version) (state_after_reads _ _ _ word.face) ∙ sym (ap (λ (x : Shape). x.version) c.requires.shape) in
    runs_fetched _ _ c.args.shape c.place_of-place.result _ _ c.requires.shape (c.is_settled.ensures c.if-not-is_settled.false) word.word word.face
    (decoded ∙ ap (λ (v : Version). decode v c.get_touched-word.result) same)

pub execute_fetched-requires-clause-room : goal.execute_fetched-requires-clause-room
execute_fetched-requires-clause-room g c = omega (arith, room_after_word _ _ _ c.get_touched-word.ensures.face)

pub returns-in-Went-clause-went : goal.returns-in-Went-clause-went
returns-in-Went-clause-went g c = λ _.
    let word = c.get_touched-word.ensures in
    let same = ap (λ (s : State). s.shape.version) (state_after_reads _ _ _ word.face) ∙ sym (ap (λ (x : Shape). x.version) c.requires.shape) in
    let known = fetched _ _ _ _ _ _ _ _ _ c.shape.ensures.state c.shape.ensures.marks c.requires.shape c.peek_pc-pc.ensures (settled_pc _ _ (c.is_settled.ensures c.if-not-is_settled.false))
    c.in_default.ensures c.place_of-place.ensures word.word word.face refl (ap (λ (v : Version). decode v c.get_touched-word.result) same) in
    step_fetched _ _ _ _ _ _ known _ _ (sym c.in-Went.is ∙ c.execute_fetched.ensures.answer) c.execute_fetched.ensures.face

pub returns-in_default-execute_fetched : goal.returns-in_default-execute_fetched
returns-in_default-execute_fetched g c =
    let word = c.get_touched-word.ensures in
    let done = c.execute_fetched.ensures in
    record {
      went = λ e. absurd (cc);
      stays = λ _. stays_unless _ _ _ _ _ _ (c.is_settled.ensures c.if-not-is_settled.false) word.word word.face done.answer done.face c.in_default-execute_fetched.not-Went;
    }
