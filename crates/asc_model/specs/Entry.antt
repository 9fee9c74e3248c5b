-- Entries of a trajectory cache: what steps read first, and what they leave (Waterland and others, "ASC:
-- Automatically Scalable Computation", ASPLOS 2014).
use Rattle.std.specs.Prelude.{◌≡◌, ℕ, ◌^◌, ◌<◌, ◌≤◌, List, All, map, filter, length, replicate, slice_index, Option, Some, None}
use Rattle.std.specs.List.Sorted.{IsStrictlyIncreasing}
use Rattle.asc_model.specs.Shape.{Shape, IsShape, length_of}
use Rattle.asc_model.specs.State.{State, IsState}
use Rattle.asc_model.specs.Step.{Went, Call, Faulted}
use Rattle.asc_model.specs.Plain.{plain}
use Rattle.asc_model.specs.Places.{places_from, bytes_after}
use Rattle.asc_model.specs.DependencyVector.{is_among, first_reads, written_in}

-- an entry of steps: the bytes that they read first, and those that they leave, each with its place
pub record Entry : Type 0 where
  pub shape : Shape
  pub reads : List (ℕ × ℕ)
  pub writes : List (ℕ × ℕ)
  pub steps : ℕ

-- bytes of a state of this shape, each with its place, in rising order of place
pub record IsListing (shape : Shape) (cells : List (ℕ × ℕ)) : Type 0 where
  pub rise : IsStrictlyIncreasing (map (λ cell. cell.0) cells)
  pub places : All (λ cell. cell.0 < length_of shape) cells
  pub bytes : All (λ cell. cell.1 < 2 ^ 8) cells

pub record IsEntry (e : Entry) : Type 0 where
  pub shape : IsShape e.shape
  pub reads : IsListing e.shape e.reads
  pub writes : IsListing e.shape e.writes
  pub steps : 1 ≤ e.steps

-- An entry matches a state of its shape that has each byte of its reads.
pub record Matches (e : Entry) (s : State) : Type 0 where
  pub shape : s.shape ≡ e.shape
  pub reads : All (λ cell. slice_index s.bytes cell.0 ≡ cell.1) e.reads

-- the state with an entry's writes in place
abbrev pub put_entry : Entry → State → State
put_entry e s = record s { bytes = bytes_after s.bytes e.writes }

-- An entry holds everywhere: from every state that it matches its steps, plainly run, go on to that state with its
-- writes in place.
abbrev pub HoldsEverywhere : Entry → Type 0
HoldsEverywhere e = (s : State) → IsState s → Matches e s → plain e.steps s ≡ Went (put_entry e s)

-- the places of a state that are among these, rising, each with its byte
abbrev pub cells_among : List ℕ → State → List (ℕ × ℕ)
cells_among places s = map (λ place. (place, slice_index s.bytes place))
    (filter (λ place. is_among place places) (places_from 0 (length s.bytes)))

-- the entry of n steps of a state, at least 1, where they all go on: the places that they read first, with the bytes
-- of that state, and the places that they write, with the bytes of the state to which they lead
unfoldable pub entry_of : ℕ → State → Option Entry
entry_of n s = elim (plain n s) [
  | Went after ↦ Some (record {
    shape = s.shape;
    reads = cells_among (first_reads n s) s;
    writes = cells_among (written_in n s) after;
    steps = n;
  })
  | Call ↦ None
  | Faulted fault ↦ None
]

-- the state of an entry's shape that has its reads, and 0 at all other places
abbrev pub own_start : Entry → State
own_start e = record { shape = e.shape; bytes = bytes_after (replicate (length_of e.shape) 0) e.reads }

-- An entry is its own: it is the entry of its steps from there.
abbrev pub IsCanonical : Entry → Type 0
IsCanonical e = entry_of e.steps (own_start e) ≡ Some e

-- an entry that holds everywhere and is its own
pub record IsTrueEntry (e : Entry) : Type 0 where
  pub entry : IsEntry e
  pub everywhere : HoldsEverywhere e
  pub own : IsCanonical e
