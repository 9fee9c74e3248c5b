use Rattle.std.proofs.Common.{◌≡◌, [], Option, None, ap, sym, ◌∙◌, subst}
use Rattle.asc_model.specs.Shape.{Shape}
use Rattle.asc_model.specs.declared.version.Version.{Version}
use Rattle.asc_model.specs.declared.instruction.Instr.{Instr}
use Rattle.asc_model.specs.Instruction.{decode}
use Rattle.asc_model.specs.Machine.{view_of}
use Rattle.asc_model.specs.Places.{operand_places}
use Rattle.asc_model.specs.Step.{outcome_of_word}
use Rattle.asc_shape.specs.Face.{Face, face_after_reads}
use Rattle.asc_step.proofs.Touches.{face_after_reads-nil, face_after_puts-nil}
use Rattle.asc_step.specs.Execute.{face_after_outcome}
use Rattle.asc_step.proofs.Effects.{effect_of_version}
use Rattle.asc_step.proofs.stepping.execute_word.Goals as goal

pub execute-requires-clause-version : goal.execute-requires-clause-version
execute-requires-clause-version g c =
    effect_of_version _ _ _ _ c.requires.at.state
    (c.has_atomics.ensures ∙ c.version.ensures ∙ ap (λ (x : Shape). x.version) c.shape-shape.ensures.shape)
    c.in-Some.ensures.instruction

pub returns-in-None-clause-face : goal.returns-in-None-clause-face
returns-in-None-clause-face g c =
    let f : Face = g.B.Bytes.face c.args.bytes.now in
    let none : None ≡ decode f.state.shape.version c.args.word = c.in-None.ensures.instruction
    ∙ ap (λ (v : Version). decode v c.args.word) (c.has_atomics.ensures ∙ c.version.ensures ∙ ap (λ (x : Shape). x.version) c.shape-shape.ensures.shape) in
    subst (λ (i : Option Instr). f ≡ face_after_outcome f (operand_places f.state.shape (view_of f.state) i) (outcome_of_word f.state.shape (view_of f.state) i)) none
    (sym (face_after_puts-nil (face_after_reads f []) ∙ face_after_reads-nil f))
