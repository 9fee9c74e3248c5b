-- A settled word changes nothing where the program does not go on: all that is read was touched, and nothing is put.
use Rattle.std.proofs.Common.{◌≡◌, ℕ, Bool, true, false, not, ◌&&◌, List, [], ◌++◌, Option, Some, None, if◌then◌else◌, refl, sym, ap, ◌∙◌}
use Rattle.asc_model.specs.declared.instruction.Instr.{Instr}
use Rattle.asc_model.specs.Shape.{Shape, holds}
use Rattle.asc_model.specs.Number.{word_at}
use Rattle.asc_model.specs.Machine.{Machine, view_of}
use Rattle.asc_model.specs.Effect.{Effect, Set, Load, Store, Jump, LoadReserved, StoreConditional, Modify, GuestCall, Breakpoint}
use Rattle.asc_model.specs.Instruction.{decode, rd_of, rs1_of, rs2_of}
use Rattle.asc_model.specs.Step.{Outcome, Went, Call, Faulted, is_aligned, effect_of, outcome_of, outcome_of_word}
use Rattle.asc_model.specs.Places.{places_from, register_places, data_places, operand_places, cells_of_outcome}
use Rattle.asc_shape.specs.Face.{Face, face_after_reads}
use Rattle.asc_shape.specs.Settled.{AreSettled, IsSettled}
use Rattle.asc_shape.proofs.Faces.{face_after_reads-append}
use Rattle.asc_shape.proofs.Settled.{reads_touched}
use Rattle.asc_step.specs.declared.stepped.Stepped.{Stepped}
use Rattle.asc_step.specs.declared.stepped.Stepped.TheVariants as answers
use Rattle.asc_step.specs.Execute.{answer_of, face_after_outcome}
use Rattle.asc_step.proofs.Touches.{puts_none, reads_none}

-- an outcome that does not go on writes nothing
no_cells : (shape : Shape) (o : Outcome) → (answer_of o ≡ answers.Went → ⊥) → cells_of_outcome shape o ≡ []
no_cells shape (Went list) other = absurd (other refl)
no_cells shape Call other = refl
no_cells shape (Faulted fault) other = refl

-- and an effect of such an outcome loads nothing
by_test : (b : Bool) (goes fails : Outcome) (places : List ℕ) → answer_of goes ≡ answers.Went → (answer_of (if b then goes else fails) ≡ answers.Went → ⊥) → (if b then places else []) ≡ []
by_test true goes fails places went other = absurd (other went)
by_test false goes fails places went other = refl

by_tests : (a b : Bool) (goes fails misses : Outcome) (places : List ℕ) → answer_of goes ≡ answers.Went → (answer_of (if not a then misses else (if b then goes else fails)) ≡ answers.Went → ⊥)
    → (if a && b then places else []) ≡ []
by_tests true b goes fails misses places went other = by_test b goes fails places went other
by_tests false b goes fails misses places went other = refl

no_data : (shape : Shape) (m : Machine) (rd : ℕ) (e : Effect) → (answer_of (outcome_of shape m rd e) ≡ answers.Went → ⊥) → data_places shape e ≡ []
no_data shape m rd (Set value) other = refl
no_data shape m rd (Load n signed address) other = by_test (holds shape address n) _ _ _ refl other
no_data shape m rd (Store n address value) other = refl
no_data shape m rd (Jump target) other = refl
no_data shape m rd (LoadReserved address) other = by_tests (is_aligned address) (holds shape address 4) _ _ _ _ refl other
no_data shape m rd (StoreConditional address value) other = by_tests (is_aligned address) (holds shape address 4) _ _ _ _ refl other
no_data shape m rd (Modify address change) other = by_tests (is_aligned address) (holds shape address 4) _ _ _ _ refl other
no_data shape m rd GuestCall other = refl
no_data shape m rd Breakpoint other = refl

-- reads of settled registers change nothing
reads_registers : (f : Face) (i : Instr) (data_read : List ℕ) → AreSettled f.marks i → data_read ≡ [] → face_after_reads f (register_places (rs1_of i) ++ register_places (rs2_of i) ++ data_read) ≡ f
reads_registers f i data_read settled none =
    let a = register_places (rs1_of i) in
    let b = register_places (rs2_of i) in
    face_after_reads-append f (a ++ b) data_read
    ∙ ap (λ (x : Face). face_after_reads x data_read) (face_after_reads-append f a b ∙ ap (λ (x : Face). face_after_reads x b) (reads_touched f a settled.first) ∙ reads_touched f b settled.second)
    ∙ reads_none f data_read none

-- what a settled word leaves where it does not go on
stays : (f : Face) (o : Option Instr) → ((i : Instr) → o ≡ Some i → AreSettled f.marks i) → (answer_of (outcome_of_word f.state.shape (view_of f.state) o) ≡ answers.Went → ⊥)
    → face_after_outcome f (operand_places f.state.shape (view_of f.state) o) (outcome_of_word f.state.shape (view_of f.state) o) ≡ f
stays f None settled other = puts_none (face_after_reads f []) [] refl ∙ reads_none f [] refl
stays f (Some i) settled other =
    let s = f.state in
    let m = view_of s in
    puts_none _ _ (no_cells s.shape (outcome_of s.shape m (rd_of i) (effect_of m i)) other)
    ∙ reads_registers f i (data_places s.shape (effect_of m i)) (settled i refl) (no_data s.shape m (rd_of i) (effect_of m i) other)

-- the same once the word is fetched
pub stays_unless : (f f2 g : Face) (place word : ℕ) (answer : Stepped) → IsSettled f place → word ≡ word_at f.state.bytes place → f2 ≡ face_after_reads f (places_from place 4)
    → answer ≡ answer_of (outcome_of_word f2.state.shape (view_of f2.state) (decode f2.state.shape.version word))
    → g ≡ face_after_outcome f2 (operand_places f2.state.shape (view_of f2.state) (decode f2.state.shape.version word)) (outcome_of_word f2.state.shape (view_of f2.state) (decode f2.state.shape.version word))
    → (answer ≡ answers.Went → ⊥) → g ≡ f
stays_unless f f2 g place word answer settled read e2 a e other =
    let same : f2 ≡ f = e2 ∙ reads_touched f (places_from place 4) settled.word in
    let answered = a ∙ ap (λ (x : Face). answer_of (outcome_of_word x.state.shape (view_of x.state) (decode x.state.shape.version word))) same in
    e
    ∙ ap (λ (x : Face). face_after_outcome x (operand_places x.state.shape (view_of x.state) (decode x.state.shape.version word)) (outcome_of_word x.state.shape (view_of x.state) (decode x.state.shape.version word))) same
    ∙ stays f (decode f.state.shape.version word) (λ i is. settled.registers i (ap (decode f.state.shape.version) (sym read) ∙ is)) (λ went. other (answered ∙ went))
