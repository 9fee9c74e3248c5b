-- Words of private contracts.
use Rattle.std.specs.Prelude.{◌≡◌, ℕ, ◌+◌, ◌-◌, ◌*◌, ◌%◌, ◌^◌, ◌≤◌, ◌==◌, nat_lt, if◌then◌else◌, Bool, true, false, List, ◌++◌, All, map, filter, flat_map, slice_index, vec_capacity, vec_len, Option, Some, None}
use Rattle.asc_model.specs.declared.limits.TheConstants.{STEP_ROOM}
use Rattle.asc_model.specs.declared.why.Why.{Why}
use Rattle.asc_model.specs.declared.why.Why.TheVariants as whys
use Rattle.asc_model.specs.declared.status.Status.{Status}
use Rattle.asc_model.specs.declared.status.Status.TheVariants.{Untouched, Read, Written, ReadWritten}
use Rattle.asc_model.specs.State.{State}
use Rattle.asc_model.specs.Reach.{Bounds, IsReach}
use Rattle.asc_shape.specs.Face.{room_of, status_at}
use Rattle.asc_depvec.specs.Tracer.{Tracing, face_of}
use Rattle.asc_model.specs.Places.{places_from}
use Rattle.asc_traj.specs.Parts.{IsPart, all_cells}
use Rattle.asc_traj.specs.declared.entry.Halves.{Halves}
use Rattle.asc_traj.specs.Trace.{CountsAnswer, MayStop, StandsFor, is_stopped, origin_of}
use Rattle.asc_step.specs.declared.stepped.Stepped.{Stepped}
use Rattle.asc_step.specs.declared.stepped.Stepped.TheVariants.{Went, Call, Faulted}

-- why a step was not taken
abbrev pub why_of : Stepped → Option Why
why_of Went = None
why_of Call = Some whys.Call
why_of (Faulted fault) = Some (whys.Fault fault)

-- A trace of a guess within bounds took n steps of a tracer, and ended for this reason. The count of yes answers of its halt
-- was so many before, and is so many now.
pub record HasTraced (bounds : Bounds) (guess : State) (n : ℕ) (why : Why) (before now : ℕ) (t : Tracing) : Type 0 where
  pub stands : StandsFor n t
  pub start : origin_of t ≡ guess
  pub reach : is_stopped why ≡ false → IsReach bounds guess n why
  pub stopped : is_stopped why ≡ true → MayStop bounds guess n
  pub halt : CountsAnswer before now (is_stopped why)
  pub cap : t.cap ≡ bounds.cap

-- the bound of steps or places that is met first where so many steps are left
abbrev pub met : (left : ℕ) → Tracing → Option Why
met left t = if left == 0 then Some whys.Span
    else (if nat_lt (room_of (face_of t).marks) STEP_ROOM then Some whys.Room else None)

-- After so many steps of a span, so many are sure: there is room for those that are not yet taken.
pub record AreSure (all steps sure free : ℕ) : Type 0 where
  pub least : steps ≤ sure
  pub most : sure ≤ all
  pub room : STEP_ROOM * (sure - steps) ≤ free

-- a count of laps, once a state is counted that stands at the pc of laps or does not
abbrev pub counted : (laps : ℕ) → Bool → ℕ
counted laps there = if there then (laps + 1) % 2 ^ 64 else laps

-- whether a place was read before it was written
abbrev pub is_read_first : Status → Bool
is_read_first Untouched = false
is_read_first Read = true
is_read_first Written = false
is_read_first ReadWritten = true

-- whether a place was written
abbrev pub is_written : Status → Bool
is_written Untouched = false
is_written Read = false
is_written Written = true
is_written ReadWritten = true

-- those of cells whose places were read first
abbrev pub read_first : Tracing → List (ℕ × ℕ) → List (ℕ × ℕ)
read_first t cells = filter (λ cell. is_read_first (status_at t.statuses cell.0)) cells

-- those of cells whose places were written, each with the byte that it has now
abbrev pub written : Tracing → List (ℕ × ℕ) → List (ℕ × ℕ)
written t cells = map (λ cell. (cell.0, slice_index t.state.bytes cell.0)) (filter (λ cell. is_written (status_at t.statuses cell.0)) cells)

-- places, each with its byte where a tracer started
abbrev pub started : Tracing → List ℕ → List (ℕ × ℕ)
started t places = map (λ place. (place, slice_index (origin_of t).bytes place)) places

-- and each with its byte now
abbrev pub now_at : Tracing → List ℕ → List (ℕ × ℕ)
now_at t places = map (λ place. (place, slice_index t.state.bytes place)) places

-- the places of words
abbrev pub places_of_words : List ℕ → List ℕ
places_of_words words = flat_map (λ word. places_from (4 * word) 4) words

-- both lists are of parts
pub record AreHalves (halves : Halves) : Type 0 where
  pub reads : All IsPart halves.reads.items
  pub writes : All IsPart halves.writes.items

-- both grew by so many parts at most, in the memory that they had
pub record HasGrown (most : ℕ) (old new : Halves) : Type 0 where
  pub few_reads : vec_len new.reads ≤ vec_len old.reads + most
  pub few_writes : vec_len new.writes ≤ vec_len old.writes + most
  pub room_reads : vec_capacity new.reads ≡ vec_capacity old.reads
  pub room_writes : vec_capacity new.writes ≡ vec_capacity old.writes

-- two lists with these places behind them: those that were read first, and those that were written
pub record HasSplit (t : Tracing) (places : List ℕ) (old new : Halves) : Type 0 where
  pub reads : all_cells new.reads.items ≡ all_cells old.reads.items ++ read_first t (started t places)
  pub writes : all_cells new.writes.items ≡ all_cells old.writes.items ++ written t (started t places)

-- the mask of four bytes
abbrev pub bit_of : Bool → ℕ
bit_of true = 1
bit_of false = 0

abbrev pub mask_of : (a b c d : Bool) → ℕ
mask_of a b c d = bit_of a + 2 * bit_of b + 4 * bit_of c + 8 * bit_of d

-- the mask of the four places from one on whose statuses pass a test
abbrev pub mask_at : (Status → Bool) → List Status → (place : ℕ) → ℕ
mask_at q statuses place = mask_of (q (status_at statuses place)) (q (status_at statuses (place + 1)))
    (q (status_at statuses (place + 2))) (q (status_at statuses (place + 3)))
