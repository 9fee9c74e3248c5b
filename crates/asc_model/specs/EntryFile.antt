-- The file of saved entries: its bytes, and what the bytes of any file mean. Its numbers are little-endian.
use Rattle.std.specs.Prelude.{◌≡◌, ℕ, zero, suc, ◌+◌, ◌*◌, ◌≤◌, Bool, true, false, not, ◌==◌, ◌&&◌, ◌||◌, nat_eq, nat_lt, nat_le, List, [], ◌∷◌, ◌++◌, All, map, length, drop, slice_index, Some, None, Result, Ok, Err, if◌then◌else◌}
use Rattle.std.specs.List.{flat_map, list_all, starts_with}
use lib.Pointwise.{pointwise}
use Rattle.asc_model.specs.declared.limits.TheConstants.{MOST_ENTRIES, MOST_ENTRY_STEPS, MOST_PLACES}
use Rattle.asc_model.specs.declared.version.Version.{Version}
use Rattle.asc_model.specs.declared.version.Version.TheVariants.{One, Two}
use Rattle.asc_model.specs.declared.save_fault.SaveFault.{SaveFault}
use Rattle.asc_model.specs.declared.save_fault.SaveFault.TheVariants as faults
use Rattle.asc_model.specs.Shape.{Shape, IsShape, is_base, is_size, length_of}
use Rattle.asc_model.specs.Number.{bytes_of, number_at, word_at}
use Rattle.asc_model.specs.Case.{Case, ◌if◌, first_fault}
use Rattle.asc_model.specs.Entry.{Entry, IsEntry, entry_of, own_start}

-- ---- the bytes of entries

-- ASCE
abbrev pub magic : List ℕ
magic = 0x41 ∷ 0x53 ∷ 0x43 ∷ 0x45 ∷ []

abbrev pub format : ℕ
format = 1

abbrev pub machine_number : Version → ℕ
machine_number One = 1
machine_number Two = 2

abbrev pub header_bytes : Shape → (count : ℕ) → List ℕ
header_bytes shape count = magic ++ format ∷ machine_number shape.version ∷ 0 ∷ 0
    ∷ bytes_of 4 shape.base ++ bytes_of 4 shape.size ++ bytes_of 4 count

-- a place and its byte
abbrev pub cell_bytes : ℕ × ℕ → List ℕ
cell_bytes cell = bytes_of 4 cell.0 ++ cell.1 ∷ []

-- steps, the numbers of reads and of writes, the reads, the writes
abbrev pub entry_bytes : Entry → List ℕ
entry_bytes e = bytes_of 8 e.steps ++ bytes_of 4 (length e.reads) ++ bytes_of 4 (length e.writes)
    ++ flat_map cell_bytes e.reads ++ flat_map cell_bytes e.writes

-- the file of entries of a shape
unfoldable pub entry_file : Shape → List Entry → List ℕ
entry_file shape entries = header_bytes shape (length entries) ++ flat_map entry_bytes entries

-- ---- what a file may hold

-- an entry of a shape that a file may hold
pub record IsSavable (shape : Shape) (e : Entry) : Type 0 where
  pub same : e.shape ≡ shape
  pub entry : IsEntry e
  pub steps : e.steps ≤ MOST_ENTRY_STEPS
  pub reads : length e.reads ≤ MOST_PLACES
  pub writes : length e.writes ≤ MOST_PLACES

-- entries of a shape that one file may hold
pub record AreSavable (shape : Shape) (entries : List Entry) : Type 0 where
  pub good : IsShape shape
  pub count : length entries ≤ MOST_ENTRIES
  pub each : All (IsSavable shape) entries

-- ---- what the bytes of a file mean

abbrev pub header_size : ℕ
header_size = 20

abbrev pub shape_in : List ℕ → Shape
shape_in file = record {
  base = word_at file 8;
  size = word_at file 12;
  version = if slice_index file 5 == 1 then One else Two;
}

-- how many entries a header tells of
abbrev pub count_in : List ℕ → ℕ
count_in file = word_at file 16

abbrev pub header_cases : List ℕ → List (Case SaveFault)
header_cases file =
    (faults.Short if nat_lt (length file) header_size)
    ∷ (faults.Magic if not (starts_with nat_eq file magic))
    ∷ (faults.Version if not (slice_index file 4 == format))
    ∷ (faults.Machine if not ((slice_index file 5 == 1) || (slice_index file 5 == 2))
    || not (slice_index file 6 == 0) || not (slice_index file 7 == 0))
    ∷ (faults.Shape if not (is_base (word_at file 8) (word_at file 12)) || not (is_size (word_at file 12)))
    ∷ (faults.Count if nat_lt MOST_ENTRIES (count_in file))
    ∷ []

-- An entry at the front of bytes has three parts: its steps and counts, its reads, and its writes.
abbrev pub counts_size : ℕ
counts_size = 16

abbrev pub cell_size : ℕ
cell_size = 5

abbrev pub steps_in : List ℕ → ℕ
steps_in bytes = number_at 8 bytes 0

abbrev pub read_count : List ℕ → ℕ
read_count bytes = word_at bytes 8

abbrev pub write_count : List ℕ → ℕ
write_count bytes = word_at bytes 12

abbrev pub reads_end : List ℕ → ℕ
reads_end bytes = counts_size + cell_size * read_count bytes

abbrev pub writes_end : List ℕ → ℕ
writes_end bytes = reads_end bytes + cell_size * write_count bytes

-- n places with their bytes
abbrev pub cells_in : (n : ℕ) → List ℕ → List (ℕ × ℕ)
cells_in zero bytes = []
cells_in (suc n) bytes = (word_at bytes 0, slice_index bytes 4) ∷ cells_in n (drop cell_size bytes)

abbrev pub reads_in : List ℕ → List (ℕ × ℕ)
reads_in bytes = cells_in (read_count bytes) (drop counts_size bytes)

abbrev pub writes_in : List ℕ → List (ℕ × ℕ)
writes_in bytes = cells_in (write_count bytes) (drop (reads_end bytes) bytes)

-- whether the steps or a count are out of bounds
abbrev pub is_out_of_bounds : List ℕ → Bool
is_out_of_bounds bytes = (steps_in bytes == 0) || nat_lt MOST_ENTRY_STEPS (steps_in bytes)
    || nat_lt MOST_PLACES (read_count bytes) || nat_lt MOST_PLACES (write_count bytes)

-- whether places rise, the first of them being at least this one
abbrev pub rise_from : ℕ → List ℕ → Bool
rise_from least [] = true
rise_from least (place ∷ places) = nat_le least place && rise_from (place + 1) places

abbrev pub is_listing : Shape → List (ℕ × ℕ) → Bool
is_listing shape cells = let places = map (λ cell. cell.0) cells in
    rise_from 0 places && list_all (λ place. nat_lt place (length_of shape)) places

-- the faults of entry i, each part being there as a whole before it is tested
abbrev pub entry_cases : Shape → (i : ℕ) → List ℕ → List (Case SaveFault)
entry_cases shape i bytes =
    (faults.Short if nat_lt (length bytes) counts_size)
    ∷ (faults.Entry i if is_out_of_bounds bytes)
    ∷ (faults.Short if nat_lt (length bytes) (reads_end bytes))
    ∷ (faults.Entry i if not (is_listing shape (reads_in bytes)))
    ∷ (faults.Short if nat_lt (length bytes) (writes_end bytes))
    ∷ (faults.Entry i if not (is_listing shape (writes_in bytes)))
    ∷ []

-- the faults of n entries, the first of which is entry i, and of what is behind them
abbrev pub entries_cases : Shape → (i n : ℕ) → List ℕ → List (Case SaveFault)
entries_cases shape i zero bytes = (faults.Long if nat_lt 0 (length bytes)) ∷ []
entries_cases shape i (suc n) bytes =
    entry_cases shape i bytes ++ entries_cases shape (i + 1) n (drop (writes_end bytes) bytes)

abbrev pub entry_in : Shape → List ℕ → Entry
entry_in shape bytes = record {
  shape = shape;
  reads = reads_in bytes;
  writes = writes_in bytes;
  steps = steps_in bytes;
}

-- n entries, one after another
abbrev pub entries_in : Shape → (n : ℕ) → List ℕ → List Entry
entries_in shape zero bytes = []
entries_in shape (suc n) bytes = entry_in shape bytes ∷ entries_in shape n (drop (writes_end bytes) bytes)

-- whether two lists of places and bytes are the same
abbrev pub are_same_cells : (cells others : List (ℕ × ℕ)) → Bool
are_same_cells cells others = pointwise (λ a b. (a.0 == b.0) && (a.1 == b.1)) cells others

-- The test of IsCanonical. The entry that tracing gives has its shape and its steps.
unfoldable pub is_canonical : Entry → Bool
is_canonical e = elim (entry_of e.steps (own_start e)) [
  | Some made ↦ are_same_cells made.reads e.reads && are_same_cells made.writes e.writes
  | None ↦ false
]

-- the faults of entries, from entry i on, that are not their own
abbrev pub own_cases : (i : ℕ) → List Entry → List (Case SaveFault)
own_cases i [] = []
own_cases i (e ∷ entries) = (faults.Untrue i if not (is_canonical e)) ∷ own_cases (i + 1) entries

-- a shape, and entries of it
pub record Saved : Type 0 where
  pub shape : Shape
  pub entries : List Entry

-- what a file lists
abbrev pub listed_in : List ℕ → Saved
listed_in file = record {
  shape = shape_in file;
  entries = entries_in (shape_in file) (count_in file) (drop header_size file);
}

abbrev pub file_cases : List ℕ → List (Case SaveFault)
file_cases file = header_cases file
    ++ entries_cases (shape_in file) 0 (count_in file) (drop header_size file)
    ++ own_cases 0 (listed_in file).entries

-- what a file means: its first fault, or what it lists
unfoldable pub saved_of : List ℕ → Result Saved SaveFault
saved_of file = elim (first_fault (file_cases file)) [ Some fault ↦ Err fault | None ↦ Ok (listed_in file) ]
