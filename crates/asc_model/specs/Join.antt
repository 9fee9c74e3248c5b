-- Two entries joined into one: the steps of the first, and then those of the second.
use Rattle.std.specs.Prelude.{ℕ, ◌+◌, Bool, true, ◌==◌, ◌&&◌, nat_le, List, length, Option, Some, None, if◌then◌else◌}
use Rattle.std.specs.List.{filter_map, list_all}
use Rattle.std.specs.Map.{lookup}
use Rattle.std.specs.Option.{is_some, option_map, option_or}
use Rattle.asc_model.specs.Shape.{Shape, is_same_shape, length_of}
use Rattle.asc_model.specs.Places.{places_from}
use Rattle.asc_model.specs.Entry.{Entry}
use Rattle.asc_model.specs.declared.limits.TheConstants.{MOST_ENTRY_STEPS, MOST_PLACES}

-- the byte that cells have at a place
abbrev pub byte_in : List (ℕ × ℕ) → (place : ℕ) → Option ℕ
byte_in cells place = lookup (λ other. other == place) cells

-- what is known of a place after an entry's steps: the byte that it writes there, or else the one that it reads there
abbrev pub known_after : Entry → (place : ℕ) → Option ℕ
known_after e place = option_or (byte_in e.writes place) (byte_in e.reads place)

-- whether a byte is the one that is known, where one is
abbrev pub agrees : (known : Option ℕ) → (byte : ℕ) → Bool
agrees None byte = true
agrees (Some known) byte = known == byte

-- whether b reads each byte as it is known after a
abbrev pub reads_agree : (a b : Entry) → Bool
reads_agree a b = list_all (λ cell. agrees (known_after a cell.0) cell.1) b.reads

abbrev pub cell_count : Entry → ℕ
cell_count e = length e.reads + length e.writes

-- Whether b may follow a: their shapes are the same, and b reads each byte as it is known after a. Their steps and their
-- cells are not too many.
abbrev pub can_join : (a b : Entry) → Bool
can_join a b = is_same_shape a.shape b.shape
    && reads_agree a b
    && nat_le (a.steps + b.steps) MOST_ENTRY_STEPS
    && nat_le (cell_count a + cell_count b) MOST_PLACES

-- what a and then b read first at a place: what a reads there, where a reads or writes it, and elsewhere what b reads
abbrev pub read_by_both : (a b : Entry) → (place : ℕ) → Option ℕ
read_by_both a b place = if is_some (known_after a place) then byte_in a.reads place else byte_in b.reads place

-- what they leave at a place: what b writes there, and elsewhere what a writes
abbrev pub left_by_both : (a b : Entry) → (place : ℕ) → Option ℕ
left_by_both a b place = option_or (byte_in b.writes place) (byte_in a.writes place)

-- the places of a shape at which there is a byte, rising, each with it
abbrev pub cells_by : Shape → (byte_at : ℕ → Option ℕ) → List (ℕ × ℕ)
cells_by shape byte_at =
    filter_map (λ place. option_map (λ byte. (place, byte)) (byte_at place)) (places_from 0 (length_of shape))

-- The entry of a's steps and then b's, where b may follow a. Both have cells at places of their shape alone.
unfoldable pub join_of : (a b : Entry) → Option Entry
join_of a b = if can_join a b
    then Some (record {
      shape = a.shape;
      reads = cells_by a.shape (read_by_both a b);
      writes = cells_by a.shape (left_by_both a b);
      steps = a.steps + b.steps;
    })
    else None
