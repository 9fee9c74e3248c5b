-- What a step answers, and what it leaves.
use Rattle.std.specs.Prelude.{◌≡◌, ◌≢◌, ℕ, ◌+◌, ◌-◌, ◌≤◌, ◌<◌}
use Rattle.asc_model.specs.declared.limits.TheConstants.{STEP_ROOM}
use Rattle.asc_model.specs.State.{State}
use Rattle.asc_model.specs.Machine.{view_of}
use Rattle.asc_model.specs.Plain.{plain}
use Rattle.asc_model.specs.Places.{places_read, writes}
use Rattle.asc_model.specs.Step.{Next, Went, Call, Faulted, next}
use Rattle.asc_shape.specs.Face.{Face, face_after_reads, face_after_puts, room_of}
use Rattle.asc_step.specs.declared.stepped.Stepped.{Stepped}
use Rattle.asc_step.specs.declared.stepped.Stepped.TheVariants as answers

-- the answer of a step
abbrev pub stepped_of : Next → Stepped
stepped_of (Went after) = answers.Went
stepped_of Call = answers.Call
stepped_of (Faulted fault) = answers.Faulted fault

-- the state after a step: a step that calls or faults leaves it
abbrev pub state_after_step : Next → State → State
state_after_step (Went state) before = state
state_after_step Call before = before
state_after_step (Faulted fault) before = before

-- the face after a step: the places read, in order, and then the places written
abbrev pub face_after : Face → Face
face_after f = face_after_puts (face_after_reads f (places_read f.state)) (writes f.state)

-- From one face to the other, a step was attempted, and this was answered.
pub record Attempts (f g : Face) (answered : Stepped) : Type 0 where
  pub answer : answered ≡ stepped_of (next f.state)
  pub state : g.state ≡ state_after_step (next f.state) f.state
  -- the places read, in order, and then the places written
  pub places : g ≡ face_after f
  -- room for at most 32 places is used
  pub room : room_of f.marks ≤ room_of g.marks + STEP_ROOM

-- how many steps an answer counts
abbrev pub counted_steps : Stepped → ℕ
counted_steps answers.Went = 1
counted_steps answers.Call = 0
counted_steps (answers.Faulted fault) = 0

-- of so many steps of a state, none but the last leads to this pc
abbrev pub PassesBy : State → (pc count : ℕ) → Type 0
PassesBy s pc count =
    (k : ℕ) → 0 < k → k < count → (after : State) → plain k s ≡ Went after → (view_of after).pc ≢ pc

-- of so many steps of a state, none but the last lowers the pc
abbrev pub Climbs : State → (count : ℕ) → Type 0
Climbs s count = (k : ℕ) → k + 1 < count → (before after : State) → plain k s ≡ Went before → plain (k + 1) s ≡ Went after
    → (view_of before).pc ≤ (view_of after).pc

-- of so many steps of a state, of which there are some, the last lowers the pc
abbrev pub Lowers : State → (count : ℕ) → Type 0
Lowers s count = (0 < count) × ((before after : State) → plain (count - 1) s ≡ Went before → plain count s ≡ Went after
    → (view_of after).pc < (view_of before).pc)
