-- The places that a step reads and writes.
use Rattle.std.specs.Prelude.{ℕ, zero, suc, ◌+◌, ◌*◌, ◌&&◌, List, [], ◌∷◌, ◌++◌, map, Option, Some, None, slice_set, if◌then◌else◌}
use Rattle.std.specs.List.{flat_map}
use Rattle.asc_model.specs.declared.instruction.Instr.{Instr}
use Rattle.asc_model.specs.Shape.{Shape, place_of, holds}
use Rattle.asc_model.specs.Number.{bytes_of}
use Rattle.asc_model.specs.State.{State}
use Rattle.asc_model.specs.Machine.{Machine, Change, Pc, Register, Memory, Reservation, view_of}
use Rattle.asc_model.specs.Instruction.{decode, rs1_of, rs2_of}
use Rattle.asc_model.specs.Effect.{Effect, Set, Load, Store, Jump, LoadReserved, StoreConditional, Modify, GuestCall, Breakpoint}
use Rattle.asc_model.specs.Step.{Outcome, Went, Call, Faulted, is_aligned, effect_of, fetch, outcome}

-- n places from a place on
abbrev pub places_from : ℕ → ℕ → List ℕ
places_from place zero = []
places_from place (suc n) = place ∷ places_from (place + 1) n

-- the places of register k; x0 has none
abbrev pub register_places : ℕ → List ℕ
register_places zero = []
register_places (suc k) = places_from (4 * suc k) 4

-- what an atomic at an address reads, where no fault of its address comes first
abbrev pub atomic_places : Shape → ℕ → List ℕ → List ℕ
atomic_places shape address places = if is_aligned address && holds shape address 4 then places else []

-- the reservation: its address, and the byte that says whether it is one
abbrev pub reservation_places : List ℕ
reservation_places = places_from 128 5

-- the places of the data that an effect loads, or of the reservation that it asks for; none where a fault comes first
abbrev pub data_places : Shape → Effect → List ℕ
data_places shape (Load n signed address) =
    if holds shape address n then places_from (place_of shape address) n else []
data_places shape (Set value) = []
data_places shape (Store n address value) = []
data_places shape (Jump target) = []
data_places shape (LoadReserved address) =
    atomic_places shape address (places_from (place_of shape address) 4)
data_places shape (StoreConditional address value) = atomic_places shape address reservation_places
data_places shape (Modify address change) =
    atomic_places shape address (places_from (place_of shape address) 4)
data_places shape GuestCall = []
data_places shape Breakpoint = []

-- the places that an instruction reads: its source registers, and what it loads
abbrev pub operand_places : Shape → Machine → Option Instr → List ℕ
operand_places shape m None = []
operand_places shape m (Some i) =
    register_places (rs1_of i) ++ register_places (rs2_of i) ++ data_places shape (effect_of m i)

-- The places that a step reads, also one that ends in a call or a fault. They are the pc; where it is aligned and in
-- memory, the four bytes fetched; where these are an instruction, its source registers but x0, before its address or
-- target is tested; and the bytes loaded, or the reservation, where no fault of the address comes first. It is this
-- project's own that they are a list, in the order of reading; a place that is read twice stands twice.
unfoldable pub places_read : State → List ℕ
places_read s = let m = view_of s in
    if is_aligned m.pc && holds s.shape m.pc 4
    then places_from 0 4 ++ places_from (place_of s.shape m.pc) 4
    ++ operand_places s.shape m (decode s.shape.version (fetch s.shape m))
    else places_from 0 4

-- bytes, each with its place, from a place on
abbrev pub cells : ℕ → List ℕ → List (ℕ × ℕ)
cells place [] = []
cells place (byte ∷ bytes) = (place, byte) ∷ cells (place + 1) bytes

-- the places that a change writes, with their new bytes
abbrev pub cells_of : Shape → Change → List (ℕ × ℕ)
cells_of shape (Pc value) = cells 0 (bytes_of 4 value)
cells_of shape (Register zero value) = []
cells_of shape (Register (suc k) value) = cells (4 * suc k) (bytes_of 4 value)
cells_of shape (Memory address bytes) = cells (place_of shape address) bytes
cells_of shape (Reservation i bytes) = cells (128 + i) bytes

abbrev pub cells_of_outcome : Shape → Outcome → List (ℕ × ℕ)
cells_of_outcome shape (Went list) = flat_map (cells_of shape) list
cells_of_outcome shape Call = []
cells_of_outcome shape (Faulted fault) = []

-- What a step writes, each place with its new byte: the pc, the destination unless it is x0, what changes of the
-- reservation, and the bytes stored. A step that calls or faults writes nothing.
unfoldable pub writes : State → List (ℕ × ℕ)
writes s = cells_of_outcome s.shape (outcome s.shape (view_of s))

-- the places that a step writes
abbrev pub places_written : State → List ℕ
places_written s = map (λ cell. cell.0) (writes s)

-- a list of bytes after writes, the first one first
abbrev pub bytes_after : List ℕ → List (ℕ × ℕ) → List ℕ
bytes_after bytes [] = bytes
bytes_after bytes (cell ∷ rest) = bytes_after (slice_set bytes cell.0 cell.1) rest
