-- What carrying out an instruction comes to.
use Rattle.std.specs.Prelude.{◌≡◌, ℕ, Bool, true, not, List, Option, Some, None, if◌then◌else◌}
use Rattle.std.specs.List.{flat_map}
use Rattle.asc_model.specs.declared.fault.FaultKind.{FaultKind}
use Rattle.asc_model.specs.declared.version.Version.{Version}
use Rattle.asc_model.specs.declared.instruction.Instr.{Instr}
use Rattle.asc_model.specs.declared.version.Version.TheVariants.{Two}
use Rattle.asc_model.specs.Shape.{Shape, holds}
use Rattle.asc_model.specs.State.{IsState}
use Rattle.asc_model.specs.Machine.{Change, view_of}
use Rattle.asc_model.specs.Effect.{Effect, Set, Load, Store, Jump, LoadReserved, StoreConditional, Modify, GuestCall, Breakpoint}
use Rattle.asc_model.specs.Step.{Outcome, Went, Call, Faulted, is_aligned, outcome_of}
use Rattle.asc_model.specs.Places.{places_from, register_places, data_places, cells_of, cells_of_outcome}
use Rattle.asc_shape.specs.Face.{Face, Marks, face_after_reads, face_after_puts, untouched_count}
use Rattle.asc_shape.specs.Settled.{AreSettled, unwritten_count}
use Rattle.asc_step.specs.declared.stepped.Stepped.{Stepped}
use Rattle.asc_step.specs.declared.stepped.Stepped.TheVariants as answers

-- why the word at an address cannot be reached: its alignment is tested first, and then whether it is in memory
abbrev pub word_fault : Shape → ℕ → (misaligned outside : FaultKind) → Option FaultKind
word_fault shape address misaligned outside =
    if not (is_aligned address) then Some misaligned
    else (if not (holds shape address 4) then Some outside else None)

-- the answer of an outcome
abbrev pub answer_of : Outcome → Stepped
answer_of (Went list) = answers.Went
answer_of Call = answers.Call
answer_of (Faulted fault) = answers.Faulted fault

-- the face after these places are read and an outcome's cells are put
abbrev pub face_after_outcome : Face → List ℕ → Outcome → Face
face_after_outcome f places outcome =
    face_after_puts (face_after_reads f places) (cells_of_outcome f.state.shape outcome)

-- from one face to the other, changes of the machine were put, the first one first
abbrev pub Puts : Face → Face → List Change → Type 0
Puts f g list = g ≡ face_after_puts f (flat_map (cells_of f.state.shape) list)

-- a store-conditional, which reads the reservation, is of version Two; nothing is asked of other effects
abbrev pub IsOfVersion : Version → Effect → Type 0
IsOfVersion version (StoreConditional address value) = version ≡ Two
IsOfVersion version (LoadReserved address) = Unit {0}
IsOfVersion version (Modify address change) = Unit {0}
IsOfVersion version (Set value) = Unit {0}
IsOfVersion version (Load n signed address) = Unit {0}
IsOfVersion version (Store n address value) = Unit {0}
IsOfVersion version (Jump target) = Unit {0}
IsOfVersion version GuestCall = Unit {0}
IsOfVersion version Breakpoint = Unit {0}

-- where the first says yes, the pc and a destination are written
abbrev pub PutsSettled : Bool → Marks → (rd : ℕ) → Type 0
PutsSettled settled marks rd = settled ≡ true
    → (unwritten_count marks (places_from 0 4) ≡ 0) × (unwritten_count marks (register_places rd) ≡ 0)

-- where the first says yes, the pc is written and the registers of an instruction are settled
abbrev pub RunsSettled : Bool → Marks → Instr → Type 0
RunsSettled settled marks i = settled ≡ true
    → (unwritten_count marks (places_from 0 4) ≡ 0) × AreSettled marks i

-- An instruction at this pc was fetched: the face is a state's, and the places of the pc are touched.
pub record AtInstruction (f : Face) (at : ℕ) : Type 0 where
  pub state : IsState f.state
  pub pc : at ≡ (view_of f.state).pc
  pub touched : untouched_count f.marks (places_from 0 4) ≡ 0

-- From one face to the other, an effect was carried out, and this was answered: all that it reads was read, and then
-- what it comes to was put.
pub record Finishes (f g : Face) (rd : ℕ) (effect : Effect) (answered : Stepped) : Type 0 where
  pub answer : answered ≡ answer_of (outcome_of f.state.shape (view_of f.state) rd effect)
  pub face : g ≡ face_after_outcome f (data_places f.state.shape effect)
      (outcome_of f.state.shape (view_of f.state) rd effect)
