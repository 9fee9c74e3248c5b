use Rattle.std.proofs.Common.{Option, ap, ◌∙◌}
use Rattle.asc_isa.proofs.Frequent.{likely-decode}
use Rattle.asc_model.specs.Shape.{Shape}
use Rattle.asc_model.specs.declared.instruction.Instr.{Instr}
use Rattle.asc_model.specs.Machine.{view_of}
use Rattle.asc_model.specs.Places.{operand_places}
use Rattle.asc_model.specs.Step.{outcome_of_word}
use Rattle.asc_shape.specs.Face.{Face}
use Rattle.asc_step.specs.Execute.{answer_of, face_after_outcome}
use Rattle.asc_step.proofs.Effects.{effect_of_version}
use Rattle.asc_step.proofs.stepping.execute_fetched.Goals as goal

pub execute_likely-requires-clause-version : goal.execute_likely-requires-clause-version
execute_likely-requires-clause-version g c =
    effect_of_version _ _ _ _ c.requires.at.state (ap (λ (x : Shape). x.version) c.requires.shape)
    (likely-decode c.args.shape.version _ _ c.in-Some.ensures.instruction)

pub execute_likely-requires-clause-settled : goal.execute_likely-requires-clause-settled
execute_likely-requires-clause-settled g c =
    c.requires.settled c.in-Some.instruction (likely-decode (g.B.Bytes.face c.args.bytes.now).state.shape.version _ _ c.in-Some.ensures.instruction)

pub returns-in-Some-clause-answer : goal.returns-in-Some-clause-answer
returns-in-Some-clause-answer g c =
    let s = (g.B.Bytes.face c.args.bytes.now).state in
    c.execute_likely.ensures.answer
    ∙ ap (λ (i : Option Instr). answer_of (outcome_of_word s.shape (view_of s) i)) (likely-decode s.shape.version _ _ c.in-Some.ensures.instruction)

pub returns-in-Some-clause-face : goal.returns-in-Some-clause-face
returns-in-Some-clause-face g c =
    let f : Face = g.B.Bytes.face c.args.bytes.now in
    let s = f.state in
    c.execute_likely.ensures.face
    ∙ ap (λ (i : Option Instr). face_after_outcome f (operand_places s.shape (view_of s) i) (outcome_of_word s.shape (view_of s) i))
    (likely-decode s.shape.version _ _ c.in-Some.ensures.instruction)
