-- How a tracer's fields stand for a tracer, and words of private contracts.
use Rattle.std.specs.Prelude.{◌≡◌, ℕ, zero, suc, ◌+◌, ◌*◌, ◌/◌, ◌%◌, ◌^◌, ◌<◌, ◌≤◌, Bool, true, false, ◌==◌, ◌&&◌, ◌||◌, nat_lt, List, [], ◌∷◌, length, map, slice_index, slice_set, All, vec_capacity, if◌then◌else◌}
use Rattle.std.specs.Int.{bit_at}
use Rattle.asc_depvec.specs.declared.tracer.TheConstants.{MOST_CAP}
use Rattle.asc_model.specs.declared.status.Status.{Status}
use Rattle.asc_model.specs.declared.status.Status.TheVariants.{Untouched, Read, Written, ReadWritten}
use Rattle.asc_model.specs.Shape.{length_of}
use Rattle.asc_model.specs.State.{IsState}
use Rattle.asc_model.specs.DependencyVector.{is_among}
use Rattle.asc_shape.specs.Face.{Face, Told, FitPlaces, status_at, is_untouched, status_after_write}
use Rattle.asc_shape.specs.Settled.{IsSettled}
use Rattle.asc_depvec.specs.declared.tracer.Tracer.TheInside.{Inside}
use Rattle.asc_depvec.specs.Tracer.{Tracing, face_of, places_of}

-- the mark of a place of a settled word of code, which was only read
abbrev pub settled_mark : ℕ
settled_mark = 130

-- the status that a mark tells
abbrev pub status_of : ℕ → Status
status_of mark = if mark == 3 then Untouched
    else (if (mark == 2) || (mark == settled_mark) then Read
    else (if mark == 4 then Written else ReadWritten))

abbrev pub statuses_of : List ℕ → List Status
statuses_of marks = map status_of marks

-- the bytes of a start at the untouched places, and others at the touched ones
abbrev pub mixed : (start bytes : List ℕ) → List Status → List ℕ
mixed (first ∷ start) (byte ∷ bytes) (status ∷ statuses) =
    (if is_untouched status then first else byte) ∷ mixed start bytes statuses
mixed start bytes statuses = []

-- whether a word's bit is among bits of a block that are still to be set
abbrev pub is_bit_of : (block bits word : ℕ) → Bool
is_bit_of block bits word = (word / 64 == block) && (bit_at bits (word % 64) == 1)

-- places, each with its byte
abbrev pub noted : List ℕ → List ℕ → List (ℕ × ℕ)
noted bytes [] = []
noted bytes (place ∷ places) = (place, slice_index bytes place) ∷ noted bytes places

-- An untouched place has the start's byte. What else stands for it in memory is of no account.
abbrev pub tracing_of : Inside → Tracing
tracing_of t = record {
  shape = t.shape;
  cap = t.cap;
  state = record { shape = t.shape; bytes = mixed t.start.bytes t.bytes.items (statuses_of t.marks.items) };
  statuses = statuses_of t.marks.items;
  touched = noted t.start.bytes (places_of t.touched.items);
}

-- whether the start's byte stands in memory too: where a place was only read, and for the four of the pc also where it is
-- untouched
abbrev pub is_kept : (place : ℕ) → Status → Bool
is_kept place Untouched = nat_lt place 4
is_kept place Read = true
is_kept place Written = false
is_kept place ReadWritten = false

abbrev pub Keeps : (start bytes : List ℕ) → List Status → Type 0
Keeps start bytes statuses = (place : ℕ) → is_kept place (status_at statuses place) ≡ true → slice_index bytes place ≡ slice_index start place

-- the four places from a place on have this mark
abbrev pub HaveMark : List ℕ → (mark place : ℕ) → Type 0
HaveMark marks mark place = (k : ℕ) → place ≤ k → k < place + 4 → slice_index marks k ≡ mark

-- each word of code whose marks say that it is settled is so
abbrev pub TellSettled : Face → List ℕ → Type 0
TellSettled f marks = (place : ℕ) → place % 4 ≡ 0 → HaveMark marks settled_mark place → IsSettled f place

-- no place has the mark of a settled word that did not have it before
abbrev pub TellNoMore : (before after : List ℕ) → Type 0
TellNoMore before after = (k : ℕ) → slice_index after k ≡ settled_mark → slice_index before k ≡ settled_mark

-- each place with that mark is one of these
abbrev pub TellAmong : List ℕ → List ℕ → Type 0
TellAmong marks places = (k : ℕ) → slice_index marks k ≡ settled_mark → is_among k places ≡ true

-- marks once the four places from a place on have this one
abbrev pub marked : List ℕ → (place mark : ℕ) → List ℕ
marked marks place mark =
    slice_set (slice_set (slice_set (slice_set marks place mark) (place + 1) mark) (place + 2) mark) (place + 3) mark

pub record IsTracer (t : Inside) : Type 0 where
  pub cap : t.cap ≤ MOST_CAP
  pub own : t.start.shape ≡ t.shape
  pub start : IsState t.start
  pub size : length t.bytes.items ≡ length_of t.shape
  pub room : length (places_of t.touched.items) ≤ t.cap
  pub filled : t.touched.cap ≡ t.cap
  pub places : FitPlaces (length_of t.shape)
      (Told 0 (statuses_of t.marks.items) (noted t.start.bytes (places_of t.touched.items)))
  pub kept : Keeps t.start.bytes t.bytes.items (statuses_of t.marks.items)
  pub settled : TellSettled (face_of (tracing_of t)) t.marks.items
  pub blocks : length_of t.shape ≤ 256 * length t.blocks.items
  pub groups : length t.blocks.items ≡ 64 * length t.groups.items
  pub few_blocks : length t.blocks.items ≤ 2 ^ 24
  pub clear : (block : ℕ) → slice_index t.blocks.items block ≡ 0
  pub clear_groups : (group : ℕ) → slice_index t.groups.items group ≡ 0
  pub none_used : t.used.items ≡ []
  pub room_used : length t.groups.items ≤ vec_capacity t.used

-- the statuses of all places of a list are those of places that were written
abbrev pub AreWritten : List Status → List ℕ → Type 0
AreWritten statuses places = All (λ place. status_after_write (status_at statuses place) ≡ status_at statuses place
    × is_untouched (status_at statuses place) ≡ false) places

-- the statuses once the n places from a place on have this one
abbrev pub with_statuses : List Status → (place : ℕ) → Status → (n : ℕ) → List Status
with_statuses statuses place status zero = statuses
with_statuses statuses place status (suc n) = with_statuses (slice_set statuses place status) (place + 1) status n

-- the statuses once these places are untouched again
abbrev pub without : List Status → List ℕ → List Status
without statuses [] = statuses
without statuses (place ∷ places) = slice_set (without statuses places) place Untouched

-- the bytes once these places have the start's again
abbrev pub given : (start bytes places : List ℕ) → List ℕ
given start bytes [] = bytes
given start bytes (place ∷ places) = slice_set (given start bytes places) place (slice_index start place)
