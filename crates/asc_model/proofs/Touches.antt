-- The places that a step reads and writes are places of its state.
use Rattle.std.proofs.Common.{◌≡◌, ℕ, zero, suc, ◌+◌, ◌*◌, ◌<◌, ◌≤◌, Bool, true, false, ◌&&◌, List, [], ◌∷◌, ◌++◌, length, Option, Some, None, if◌then◌else◌, refl, sym, ap, subst, arith}
use Rattle.std.specs.Prelude.{All}
use Rattle.std.specs.List.{flat_map}
use Rattle.std.proofs.lemmas.Bool.{and_parts}
use Rattle.std.proofs.lemmas.List.Elements.{All-nil, All-cons, All-append, All-map}
use Rattle.asc_model.specs.declared.instruction.Instr.{Instr}
use Rattle.asc_model.specs.Shape.{Shape, IsShape, start_of, length_of, place_of, holds}
use Rattle.asc_model.specs.declared.version.Version.{Version}
use Rattle.asc_model.specs.Number.{bytes_of}
use Rattle.asc_model.specs.State.{State, IsState}
use Rattle.asc_model.specs.Machine.{Machine, Change, Pc, Register, Memory, Reservation, view_of}
use Rattle.asc_model.specs.Instruction.{decode, rs1_of, rs2_of}
use Rattle.asc_model.specs.Effect.{Effect, Set, Load, Store, Jump, LoadReserved, StoreConditional, Modify, GuestCall, Breakpoint}
use Rattle.asc_model.specs.Step.{Outcome, Went, Call, Faulted, is_aligned, effect_of, fetch, outcome}
use Rattle.asc_model.specs.Places.{places_from, register_places, atomic_places, reservation_places, data_places, operand_places, places_read, cells, cells_of, cells_of_outcome, writes, places_written}
use Rattle.asc_model.specs.Laws.{TouchesPlaces}
use Rattle.asc_model.proofs.Numbers.{length-bytes_of}
use Rattle.asc_model.proofs.Changes.{IsChange, AreChanges, start_of-least, holds-parts, IsMachine-view_of}
use Rattle.asc_model.proofs.Steps.{IfInstruction, decode-IsInstruction, IsOutcome, outcome-IsOutcome}

-- each place of the list is below a bound
abbrev pub AllBelow : ℕ → List ℕ → Type 0
AllBelow bound list = All (λ place. place < bound) list

-- each cell of the list has its place below a bound
abbrev pub CellsBelow : ℕ → List (ℕ × ℕ) → Type 0
CellsBelow bound list = All (λ (cell : ℕ × ℕ). cell.0 < bound) list

-- what holds of both branches
if-AllBelow : (bound : ℕ) (b : Bool) (x y : List ℕ) → (b ≡ true → AllBelow bound x) → AllBelow bound y → AllBelow bound (if b then x else y)
if-AllBelow bound true x y p q = p refl
if-AllBelow bound false x y p q = q

-- ---- places read

-- places in a row are below a bound that is past the last
pub places_from-AllBelow : (bound place n : ℕ) → place + n ≤ bound → AllBelow bound (places_from place n)
places_from-AllBelow bound place zero h = All-nil (λ p. p < bound)
places_from-AllBelow bound place (suc n) h =
    All-cons (λ p. p < bound) place (places_from (place + 1) n) (omega arith) (places_from-AllBelow bound (place + 1) n (omega arith))

-- the places of a register are below 128
register_places-AllBelow : (bound k : ℕ) → 128 ≤ bound → k ≤ 31 → AllBelow bound (register_places k)
register_places-AllBelow bound zero least h = All-nil (λ p. p < bound)
register_places-AllBelow bound (suc k) least h = places_from-AllBelow bound (4 * suc k) 4 (omega arith)

-- the bytes of memory are places of the state
place_of-below : (shape : Shape) (address n : ℕ) → holds shape address n ≡ true → place_of shape address + n ≤ length_of shape
place_of-below shape address n h = let parts = holds-parts shape address n h in omega (arith, parts.0, parts.1)

-- a good shape has the pc, the registers and more than the reservation
length_of-reservation : (shape : Shape) → IsShape shape → 136 ≤ length_of shape
length_of-reservation shape good = omega (arith, start_of-least shape.version, good.size.least)

-- what an atomic reads is in the state, if it is where the atomic's word is in memory
atomic_places-AllBelow : (shape : Shape) (address : ℕ) (places : List ℕ) → (holds shape address 4 ≡ true → AllBelow (length_of shape) places)
    → AllBelow (length_of shape) (atomic_places shape address places)
atomic_places-AllBelow shape address places h =
    if-AllBelow (length_of shape) (is_aligned address && holds shape address 4) places []
    (λ e. h (and_parts (is_aligned address) (holds shape address 4) e).1) (All-nil (λ p. p < length_of shape))

-- the data that an effect loads is in memory
data_places-AllBelow : (shape : Shape) → IsShape shape → (e : Effect) → AllBelow (length_of shape) (data_places shape e)
data_places-AllBelow shape good (LoadReserved address) =
    atomic_places-AllBelow shape address (places_from (place_of shape address) 4)
    (λ h. places_from-AllBelow (length_of shape) (place_of shape address) 4 (place_of-below shape address 4 h))
data_places-AllBelow shape good (Modify address change) =
    atomic_places-AllBelow shape address (places_from (place_of shape address) 4)
    (λ h. places_from-AllBelow (length_of shape) (place_of shape address) 4 (place_of-below shape address 4 h))
data_places-AllBelow shape good (StoreConditional address value) =
    atomic_places-AllBelow shape address reservation_places
    (λ h. places_from-AllBelow (length_of shape) 128 5 (omega (arith, length_of-reservation shape good)))
data_places-AllBelow shape good (Load n signed address) =
    if-AllBelow (length_of shape) (holds shape address n) (places_from (place_of shape address) n) []
    (λ h. places_from-AllBelow (length_of shape) (place_of shape address) n (place_of-below shape address n h)) (All-nil (λ p. p < length_of shape))
data_places-AllBelow shape good (Set value) = All-nil (λ p. p < length_of shape)
data_places-AllBelow shape good (Store n address value) = All-nil (λ p. p < length_of shape)
data_places-AllBelow shape good (Jump target) = All-nil (λ p. p < length_of shape)
data_places-AllBelow shape good GuestCall = All-nil (λ p. p < length_of shape)
data_places-AllBelow shape good Breakpoint = All-nil (λ p. p < length_of shape)

-- a state has the pc and the registers
length_of-least : (shape : Shape) → 128 ≤ length_of shape
length_of-least shape = omega (arith, start_of-least shape.version)

-- what an instruction reads is in the registers or in memory
operand_places-AllBelow : (shape : Shape) (m : Machine) (i : Option Instr) → IsShape shape → IfInstruction shape.version i → AllBelow (length_of shape) (operand_places shape m i)
operand_places-AllBelow shape m None good h = All-nil (λ p. p < length_of shape)
operand_places-AllBelow shape m (Some i) good h =
    let below = λ (p : ℕ). p < length_of shape in
    let first = register_places-AllBelow (length_of shape) (rs1_of i) (length_of-least shape) h.rs1 in
    let second = register_places-AllBelow (length_of shape) (rs2_of i) (length_of-least shape) h.rs2 in
    All-append below (register_places (rs1_of i) ++ register_places (rs2_of i)) (data_places shape (effect_of m i))
    (All-append below (register_places (rs1_of i)) (register_places (rs2_of i)) first second)
    (data_places-AllBelow shape good (effect_of m i))

-- the places that a step reads are below the length of its shape
pub places_read-AllBelow : (s : State) → IsState s → AllBelow (length_of s.shape) (places_read s)
unfolding places_read
places_read-AllBelow s good =
    let m = view_of s in
    let bound = length_of s.shape in
    let i = decode s.shape.version (fetch s.shape m) in
    let front = places_from 0 4 in
    let code = places_from (place_of s.shape m.pc) 4 in
    let pc : AllBelow bound front = places_from-AllBelow bound 0 4 (omega (arith, length_of-least s.shape)) in
    if-AllBelow bound (is_aligned m.pc && holds s.shape m.pc 4) (front ++ code ++ operand_places s.shape m i) front
    (λ h. All-append (λ p. p < bound) (front ++ code) (operand_places s.shape m i)
    (All-append (λ p. p < bound) front code pc
    (places_from-AllBelow bound (place_of s.shape m.pc) 4 (place_of-below s.shape m.pc 4 (and_parts (is_aligned m.pc) (holds s.shape m.pc 4) h).1)))
    (operand_places-AllBelow s.shape m i good.shape (decode-IsInstruction s.shape.version (fetch s.shape m))))
    pc

-- ---- places written

-- bytes in a row are written below a bound that is past the last
cells-CellsBelow : (bound place : ℕ) (bytes : List ℕ) → place + length bytes ≤ bound → CellsBelow bound (cells place bytes)
cells-CellsBelow bound place [] h = All-nil (λ (cell : ℕ × ℕ). cell.0 < bound)
cells-CellsBelow bound place (byte ∷ bytes) h =
    All-cons (λ (cell : ℕ × ℕ). cell.0 < bound) (place, byte) (cells (place + 1) bytes) (omega arith) (cells-CellsBelow bound (place + 1) bytes (omega arith))

-- a change that may be is written below the length of its shape
cells_of-CellsBelow : (shape : Shape) (c : Change) → IsChange shape c → CellsBelow (length_of shape) (cells_of shape c)
cells_of-CellsBelow shape (Pc value) h =
    cells-CellsBelow (length_of shape) 0 (bytes_of 4 value) (omega (arith, length-bytes_of 4 value, length_of-least shape))
cells_of-CellsBelow shape (Register zero value) h = All-nil (λ (cell : ℕ × ℕ). cell.0 < length_of shape)
cells_of-CellsBelow shape (Register (suc k) value) h =
    cells-CellsBelow (length_of shape) (4 * suc k) (bytes_of 4 value) (omega (arith, length-bytes_of 4 value, length_of-least shape, h.0))
cells_of-CellsBelow shape (Memory address bytes) h =
    cells-CellsBelow (length_of shape) (place_of shape address) bytes (place_of-below shape address (length bytes) h.0)
cells_of-CellsBelow shape (Reservation i bytes) h =
    let all : length_of shape ≡ 136 + shape.size = ap (λ (v : Version). start_of v + shape.size) h.0 in
    cells-CellsBelow (length_of shape) (128 + i) bytes (omega (arith, all, h.1))

-- the same of each change of a list
changes-CellsBelow : (shape : Shape) (list : List Change) → AreChanges shape list → CellsBelow (length_of shape) (flat_map (cells_of shape) list)
changes-CellsBelow shape [] h = All-nil (λ (cell : ℕ × ℕ). cell.0 < length_of shape)
changes-CellsBelow shape (first ∷ rest) h =
    All-append (λ (cell : ℕ × ℕ). cell.0 < length_of shape) (cells_of shape first) (flat_map (cells_of shape) rest)
    (cells_of-CellsBelow shape first h.0) (changes-CellsBelow shape rest h.1)

-- the same of what a step comes to
cells_of_outcome-CellsBelow : (shape : Shape) (o : Outcome) → IsOutcome shape o → CellsBelow (length_of shape) (cells_of_outcome shape o)
cells_of_outcome-CellsBelow shape (Went list) h = changes-CellsBelow shape list h
cells_of_outcome-CellsBelow shape Call h = All-nil (λ (cell : ℕ × ℕ). cell.0 < length_of shape)
cells_of_outcome-CellsBelow shape (Faulted fault) h = All-nil (λ (cell : ℕ × ℕ). cell.0 < length_of shape)

-- the places that a step writes are below the length of its shape
pub places_written-AllBelow : (s : State) → IsState s → AllBelow (length_of s.shape) (places_written s)
unfolding writes
places_written-AllBelow s good =
    All-map (λ p. p < length_of s.shape) (λ (cell : ℕ × ℕ). cell.0) (writes s)
    (cells_of_outcome-CellsBelow s.shape (outcome s.shape (view_of s)) (outcome-IsOutcome s.shape (view_of s) (IsMachine-view_of s good)))

-- the places that a step touches are places of its state
pub state-TouchesPlaces : (s : State) → IsState s → TouchesPlaces s
state-TouchesPlaces s good = record {
  read = subst (λ bound. AllBelow bound (places_read s)) (sym good.length) (places_read-AllBelow s good);
  written = subst (λ bound. AllBelow bound (places_written s)) (sym good.length) (places_written-AllBelow s good);
}
