-- What a tracer is to contracts: a state that tells how each of its places was touched.
use Rattle.std.specs.List.{list_any}
use Rattle.std.specs.Prelude.{◌≡◌, ℕ, ◌+◌, ◌*◌, ◌/◌, ◌%◌, ◌<◌, ◌≤◌, ◌==◌, Bool, not, filter, List, [], ◌∷◌, ◌++◌, length, take, drop, replicate, slice_set, if◌then◌else◌}
use Rattle.asc_depvec.specs.declared.tracer.TheConstants.{MOST_CAP}
use Rattle.asc_model.specs.declared.status.Status.{Status}
use Rattle.asc_model.specs.declared.status.Status.TheVariants.{Untouched}
use Rattle.asc_model.specs.Shape.{Shape, length_of, is_same_shape}
use Rattle.asc_model.specs.State.{State}
use Rattle.asc_model.specs.Places.{bytes_after, places_from}
use Rattle.asc_shape.specs.Face.{Face, Marks, Untold, Told, is_untouched, status_at}

-- The shape that it was made with, at most how many places may be touched, the state, the status of each place of it,
-- and each touched place with its byte before its first touch, in the order of those touches.
pub record Tracing : Type 0 where
  pub shape : Shape
  pub cap : ℕ
  pub state : State
  pub statuses : List Status
  pub touched : List (ℕ × ℕ)

-- What holds of every tracer: no more is touched than may be, and the state is of the tracer's shape.
pub record IsTracing (t : Tracing) : Type 0 where
  pub cap : t.cap ≤ MOST_CAP
  pub room : length t.touched ≤ t.cap
  pub own : 0 < length t.touched → t.state.shape ≡ t.shape
  pub same : t.state.shape ≡ t.shape

-- At most how many places of the state may be touched. None may be while the state has another shape than that which
-- the tracer was made with.
abbrev pub cap_of : Tracing → ℕ
cap_of t = if is_same_shape t.state.shape t.shape then t.cap else 0

-- what code sees of it through `Bytes`
abbrev pub face_of : Tracing → Face
face_of t = record { state = t.state; marks = Told (cap_of t) t.statuses t.touched }

-- a tracer of this state, nothing of it touched
abbrev pub fresh : Shape → (cap : ℕ) → State → Tracing
fresh shape cap state = record {
  shape = shape;
  cap = cap;
  state = state;
  statuses = replicate (length_of state.shape) Untouched;
  touched = [];
}

-- the n places from a place on have this status
abbrev pub HaveStatus : List Status → Status → (place n : ℕ) → Type 0
HaveStatus statuses status place n = (k : ℕ) → place ≤ k → k < place + n → status_at statuses k ≡ status

-- statuses with the places of a list untouched again
abbrev pub untouch : List Status → List (ℕ × ℕ) → List Status
untouch statuses [] = statuses
untouch statuses (noted ∷ rest) = slice_set (untouch statuses rest) noted.0 Untouched

-- The touched places behind the first `count` taken back: the list is cut there, and each place cut off is
-- Untouched again and has the byte from before its first touch. No other byte and no other status changes.
abbrev pub undone : Tracing → (count : ℕ) → Tracing
undone t count = record t {
  state = record t.state { bytes = bytes_after t.state.bytes (drop count t.touched) };
  statuses = untouch t.statuses (drop count t.touched);
  touched = take count t.touched;
}

-- The places of an item of the list of touched places: where it is odd those of a word, and else one.
abbrev pub places_of_item : ℕ → List ℕ
places_of_item item = if item % 2 == 1 then places_from (item / 2) 4 else item / 2 ∷ []

abbrev pub places_of : List ℕ → List ℕ
places_of [] = []
places_of (item ∷ items) = places_of_item item ++ places_of items

-- the places that are told to be touched, each with its byte before its first touch
abbrev pub touched_of : Marks → List (ℕ × ℕ)
touched_of Untold = []
touched_of (Told cap statuses touched) = touched

-- where a tracer started: its state with the first byte of each touched place put back
abbrev pub start_of_face : Face → State
start_of_face f = record f.state { bytes = bytes_after f.state.bytes (touched_of f.marks) }

-- whether one of the four places of a word is touched
abbrev pub is_touched_word : List Status → (word : ℕ) → Bool
is_touched_word statuses word = list_any (λ place. not (is_untouched (status_at statuses place))) (places_from (4 * word) 4)

-- the words with a touched place, rising
abbrev pub touched_words : Tracing → List ℕ
touched_words t = filter (is_touched_word t.statuses) (places_from 0 (length t.statuses / 4))
