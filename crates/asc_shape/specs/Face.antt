-- What code sees of a state through `Bytes`: the state, and where that is told, how each place was touched.
use Rattle.std.specs.Prelude.{◌≡◌, ℕ, ◌-◌, ◌^◌, List, [], ◌∷◌, ◌++◌, Bool, true, false, ◌==◌, length, slice_index, slice_index_or, slice_set, count_by, if◌then◌else◌}
use Rattle.asc_model.specs.declared.status.Status.{Status}
use Rattle.asc_model.specs.declared.status.Status.TheVariants.{Untouched, Read, Written, ReadWritten}
use Rattle.asc_model.specs.State.{State}

-- How places were touched, where that is told: at most how many may be, and the status of each place. Each touched place
-- is listed with its byte before its first touch, in the order of those touches.
pub data Marks : Type 0 where
  Untold : Marks
  Told : (cap : ℕ) (statuses : List Status) (touched : List (ℕ × ℕ)) → Marks

pub record Face : Type 0 where
  pub state : State
  pub marks : Marks

abbrev pub status_at : List Status → ℕ → Status
status_at statuses place = slice_index_or statuses place Untouched

abbrev pub is_untouched : Status → Bool
is_untouched Untouched = true
is_untouched Read = false
is_untouched Written = false
is_untouched ReadWritten = false

-- a read of an untouched place makes it Read, and changes no other status
abbrev pub status_after_read : Status → Status
status_after_read Untouched = Read
status_after_read Read = Read
status_after_read Written = Written
status_after_read ReadWritten = ReadWritten

-- a write makes Untouched into Written and Read into ReadWritten
abbrev pub status_after_write : Status → Status
status_after_write Untouched = Written
status_after_write Read = ReadWritten
status_after_write Written = Written
status_after_write ReadWritten = ReadWritten

-- the marks after a touch of a place that held this byte
abbrev pub marks_after : (Status → Status) → Marks → ℕ → ℕ → Marks
marks_after after_change Untold place byte = Untold
marks_after after_change (Told cap statuses touched) place byte = let status = status_at statuses place in
    Told cap (slice_set statuses place (after_change status))
    (if is_untouched status then touched ++ (place, byte) ∷ [] else touched)

-- the face after a read of a place
unfoldable pub face_after_read : Face → ℕ → Face
face_after_read f place = record f {
  marks = marks_after status_after_read f.marks place (slice_index f.state.bytes place);
}

-- the face after a byte was put at a place
unfoldable pub face_after_put : Face → ℕ → ℕ → Face
face_after_put f place byte = record {
  state = record f.state { bytes = slice_set f.state.bytes place byte };
  marks = marks_after status_after_write f.marks place (slice_index f.state.bytes place);
}

-- reads one after another
unfoldable pub face_after_reads : Face → List ℕ → Face
face_after_reads f [] = f
face_after_reads f (place ∷ places) = face_after_reads (face_after_read f place) places

-- puts one after another, each a place and its new byte
unfoldable pub face_after_puts : Face → List (ℕ × ℕ) → Face
face_after_puts f [] = f
face_after_puts f (cell ∷ cells) = face_after_puts (face_after_put f cell.0 cell.1) cells

-- how many of the places are told to be untouched
unfoldable pub untouched_count : Marks → List ℕ → ℕ
untouched_count Untold places = 0
untouched_count (Told cap statuses touched) places = count_by (λ place. is_untouched (status_at statuses place)) places

-- Marks of this many places, where they are told: each place has a status, and those that are touched are listed once
-- each, and no others.
abbrev pub FitPlaces : ℕ → Marks → Type 0
FitPlaces places Untold = Unit {0}
FitPlaces places (Told cap statuses touched) = (length statuses ≡ places)
    × ((place : ℕ) → count_by (λ noted. noted.0 == place) touched
    ≡ (if is_untouched (status_at statuses place) then 0 else 1))

-- How many more places may be touched. Where marks are not told there is no end of room, and its number is the greatest
-- of 64 bits.
abbrev pub room_of : Marks → ℕ
room_of Untold = 2 ^ 64 - 1
room_of (Told cap statuses touched) = cap - length touched
