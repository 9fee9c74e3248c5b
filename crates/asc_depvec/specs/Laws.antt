-- The laws of tracers, which the functions of `laws.rt` stand for.
use Rattle.std.specs.Prelude.{◌≡◌, ℕ, ◌<◌, ◌≤◌, List, All, suc, length, map, slice_index}
use Rattle.asc_model.specs.State.{State}
use Rattle.asc_model.specs.declared.status.Status.TheVariants.{Untouched}
use Rattle.asc_model.specs.Step.{Went, next}
use Rattle.asc_model.specs.Plain.{plain}
use Rattle.asc_model.specs.Places.{places_read, writes}
use Rattle.asc_shape.specs.Face.{FitPlaces, status_at, face_after_reads, face_after_puts}
use Rattle.asc_depvec.specs.Tracer.{Tracing, cap_of, face_of, undone, start_of_face}
use Rattle.asc_depvec.specs.Dependency.{status_of}

-- Reads, and nothing else since then, that are taken back leave what code saw before.
abbrev pub ReadsAreUndone : Type 0
ReadsAreUndone = (before now : Tracing) (places : List ℕ) → face_of now ≡ face_after_reads (face_of before) places
    → face_of (undone now (length before.touched)) ≡ face_of before

-- where a tracer started stays the same through reads and then puts of places of its state
abbrev pub StartsStay : Type 0
StartsStay = (t : Tracing) (places : List ℕ) (cells : List (ℕ × ℕ))
    → FitPlaces (length t.state.bytes) (face_of t).marks
    → All (λ place. place < length t.state.bytes) places
    → All (λ place. place < length t.state.bytes) (map (λ cell. cell.0) cells)
    → start_of_face (face_after_puts (face_after_reads (face_of t) places) cells) ≡ start_of_face (face_of t)

-- Reads and then puts of a tracer that may touch a place keep its shape and its cap. So calls that tell only the face,
-- as those of `Bytes` do, keep both.
abbrev pub LimitsStay : Type 0
LimitsStay = (before now : Tracing) (places : List ℕ) (cells : List (ℕ × ℕ)) → 1 ≤ cap_of before
    → face_of now ≡ face_after_puts (face_after_reads (face_of before) places) cells
    → (now.shape ≡ before.shape) × (now.cap ≡ before.cap)

-- what a tracer tells of its start: each touched place is listed with the byte that stood there, and an untouched place
-- holds it still
pub record TellsStart (t : Tracing) : Type 0 where
  pub touched : All (λ noted. slice_index (start_of_face (face_of t)).bytes noted.0 ≡ noted.1) t.touched
  pub untouched : (place : ℕ) → status_at t.statuses place ≡ Untouched
      → slice_index (start_of_face (face_of t)).bytes place ≡ slice_index t.state.bytes place

abbrev pub StartsAreTold : Type 0
StartsAreTold = (t : Tracing) → FitPlaces (length t.state.bytes) (face_of t).marks → TellsStart t

-- the statuses of a tracer are those of n steps of a state
abbrev pub HasStatusesOf : ℕ → State → Tracing → Type 0
HasStatusesOf n start t =
    (place : ℕ) → place < length t.state.bytes → status_at t.statuses place ≡ status_of n start place

-- A tracer that stands where n steps of a state lead, with their statuses, has after one step more, which goes on,
-- those of n + 1 steps.
abbrev pub StatusesFollow : Type 0
StatusesFollow = (n : ℕ) (start after : State) (t later : Tracing) → plain n start ≡ Went t.state
    → next t.state ≡ Went after → FitPlaces (length t.state.bytes) (face_of t).marks
    → HasStatusesOf n start t
    → face_of later ≡ face_after_puts (face_after_reads (face_of t) (places_read t.state)) (writes t.state)
    → HasStatusesOf (suc n) start later

-- after no steps each place is untouched
abbrev pub NoStatuses : Type 0
NoStatuses = (start : State) (place : ℕ) → status_of 0 start place ≡ Untouched
