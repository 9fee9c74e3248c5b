-- Lemmas on room: what reads, changes and whole steps take of it.
use Rattle.std.proofs.Common.{◌≡◌, ℕ, zero, suc, ◌+◌, ◌*◌, ◌≤◌, Bool, true, false, not, ◌&&◌, List, [], ◌∷◌, ◌++◌, length, map, Option, Some, None, if◌then◌else◌, refl, ap, ◌∙◌, arith}
use Rattle.std.specs.List.{flat_map}
use Rattle.std.specs.Prelude.{◌==◌, int_lt, nat_lt}
use Rattle.std.proofs.lemmas.Bool.{cond_both}
use Rattle.std.proofs.lemmas.List.{length-append, length-map}
use Rattle.asc_model.specs.declared.limits.TheConstants.{STEP_ROOM}
use Rattle.asc_model.specs.declared.fault.FaultKind.{FaultKind}
use Rattle.asc_model.specs.declared.fault.FaultKind.TheVariants.{Misaligned, FetchOutside, Illegal, LoadOutside, StoreOutside, Break, AtomicMisaligned}
use Rattle.asc_model.specs.declared.version.Version.{Version}
use Rattle.asc_model.specs.declared.instruction.Instr.{Instr}
use Rattle.asc_model.specs.declared.instruction.Op.{Op}
use Rattle.asc_model.specs.declared.instruction.Op.TheVariants.{Beq, Bne, Blt, Bge, Bltu, Bgeu, Sb, Sh, Sw}
use Rattle.asc_model.specs.Shape.{Shape, place_of, holds}
use Rattle.asc_model.specs.Number.{bytes_of}
use Rattle.asc_model.specs.State.{State, IsState}
use Rattle.asc_model.specs.Machine.{Machine, Change, Pc, Register, Memory, reserve, release, register, load, is_reserved, view_of}
use Rattle.asc_model.specs.Arithmetic.{◌+w◌, signed, one_if}
use Rattle.asc_model.specs.Effect.{Effect, Set, Load, Store, Jump, LoadReserved, StoreConditional, Modify, GuestCall, Breakpoint, branch, effect}
use Rattle.asc_model.specs.Instruction.{decode, op_of, rd_of, rs1_of, rs2_of, imm_of}
use Rattle.asc_model.specs.Step.{Outcome, Went, fault_outcome, is_aligned, atomic_outcome, effect_of, outcome_of, outcome_of_word, fetch, outcome}
use Rattle.asc_model.specs.Places.{places_from, register_places, reservation_places, data_places, operand_places, places_read, cells, cells_of, cells_of_outcome, writes}
use Rattle.asc_model.proofs.Numbers.{length-bytes_of}
use Rattle.asc_model.proofs.Changes.{IsMachine-view_of}
use Rattle.asc_model.proofs.Steps.{IfInstruction, decode-IsInstruction, IsEffect, effect_of-IsEffect}
use Rattle.asc_shape.specs.Face.{Face, Marks, FitPlaces, face_after_read, face_after_put, face_after_reads, face_after_puts, untouched_count, room_of}
use Rattle.asc_shape.proofs.Faces.{room-read, room-put, room-reads, room-puts, untouched_count-le-length, untouched_count-append, face_after_reads-append}
use Rattle.asc_step.specs.declared.effect.Size.{Size}
use Rattle.asc_step.specs.declared.effect.Size.TheVariants.{Byte, Half, Word}
use Rattle.asc_step.specs.Effect.{bytes_in}
use Rattle.asc_step.specs.Execute.{Puts}
use Rattle.asc_step.specs.Step.{face_after}
use Rattle.asc_step.proofs.Effects.{touched_after_reads, touched_by_reads_of_pc}

-- ---- reads, and the put of a byte

-- a place takes room for one at most
pub room_after_read : (f g : Face) (place : ℕ) → g ≡ face_after_read f place → room_of f.marks ≤ room_of g.marks + 1
room_after_read f g place e = omega (arith, room-read f g place e, untouched_count-le-length f.marks (place ∷ []))

pub room_after_put : (f g : Face) (place byte : ℕ) → g ≡ face_after_put f place byte → room_of f.marks ≤ room_of g.marks + 1
room_after_put f g place byte e = omega (arith, room-put f g place byte e, untouched_count-le-length f.marks (place ∷ []))

-- places take room for as many at most
pub room_after_reads : (f g : Face) (places : List ℕ) → g ≡ face_after_reads f places → room_of f.marks ≤ room_of g.marks + length places
room_after_reads f g places e = rw e (omega (arith, room-reads f places, untouched_count-le-length f.marks places))

length-places_from : (place n : ℕ) → length (places_from place n) ≡ n
length-places_from place zero = refl
length-places_from place (suc n) = ap suc (length-places_from (place + 1) n)

length-register_places : (k : ℕ) → length (register_places k) ≤ 4
length-register_places zero = omega arith
length-register_places (suc k) = omega (arith, length-places_from (4 * suc k) 4)

bytes_in-most : (size : Size) → bytes_in size ≤ 4
bytes_in-most Byte = omega arith
bytes_in-most Half = omega arith
bytes_in-most Word = omega arith

-- a word read takes room for four
pub room_after_word : (f g : Face) (place : ℕ) → g ≡ face_after_reads f (places_from place 4) → room_of f.marks ≤ room_of g.marks + 4
room_after_word f g place e = omega (arith, room_after_reads f g (places_from place 4) e, length-places_from place 4)

-- a number read takes room for four, whatever its size
pub room_after_number : (f g : Face) (place : ℕ) (size : Size) → g ≡ face_after_reads f (places_from place (bytes_in size)) → room_of f.marks ≤ room_of g.marks + 4
room_after_number f g place size e =
    omega (arith, room_after_reads f g (places_from place (bytes_in size)) e, length-places_from place (bytes_in size), bytes_in-most size)

-- a register read takes room for four, and x0 for none
pub room_after_register : (f g : Face) (k : ℕ) → g ≡ face_after_reads f (register_places k) → room_of f.marks ≤ room_of g.marks + 4
room_after_register f g k e = omega (arith, room_after_reads f g (register_places k) e, length-register_places k)

-- ---- puts

-- cells take room for the untouched ones of their places
pub room_after_puts : (f g : Face) (list : List (ℕ × ℕ)) → g ≡ face_after_puts f list → room_of f.marks ≤ room_of g.marks + untouched_count f.marks (map (λ cell. cell.0) list)
room_after_puts f g list e = rw e (room-puts f list)

-- cells take room for as many at most
pub room_after_cells : (f g : Face) (list : List (ℕ × ℕ)) → g ≡ face_after_puts f list → room_of f.marks ≤ room_of g.marks + length list
room_after_cells f g list e =
    omega (arith, room_after_puts f g list e, untouched_count-le-length f.marks (map (λ cell. cell.0) list), length-map list (λ cell. cell.0))

-- a cell for each byte
length-cells : (place : ℕ) (bytes : List ℕ) → length (cells place bytes) ≡ length bytes
length-cells place [] = refl
length-cells place (byte ∷ bytes) = ap suc (length-cells (place + 1) bytes)

length-cells_of_register : (shape : Shape) (k value : ℕ) → length (cells_of shape (Register k value)) ≤ 4
length-cells_of_register shape zero value = omega arith
length-cells_of_register shape (suc k) value = omega (arith, length-cells (4 * suc k) (bytes_of 4 value), length-bytes_of 4 value)

-- where the places of the pc are touched, cells behind it are counted alone
untouched_behind_pc : (marks : Marks) (value : ℕ) (list : List (ℕ × ℕ)) → untouched_count marks (places_from 0 4) ≡ 0
    → untouched_count marks (map (λ cell. cell.0) (cells 0 (bytes_of 4 value) ++ list)) ≤ length list
untouched_behind_pc marks value list h =
    omega (arith, h, untouched_count-append marks (places_from 0 4) (map (λ cell. cell.0) list), untouched_count-le-length marks (map (λ cell. cell.0) list), length-map list (λ cell. cell.0))

-- where the places of the pc are touched, it and a register take room for four
pub room_after_go_on : (f g : Face) (pc rd value : ℕ) → Puts f g (Pc pc ∷ Register rd value ∷ []) → untouched_count f.marks (places_from 0 4) ≡ 0 → room_of f.marks ≤ room_of g.marks + 4
room_after_go_on f g pc rd value e h =
    let cells = cells_of f.state.shape (Register rd value) in
    omega (arith, room_after_puts f g _ e, untouched_behind_pc f.marks pc (cells ++ []) h, length-append cells [], length-cells_of_register f.state.shape rd value)

-- where its places are touched the pc takes none
pub room_after_pc : (f g : Face) (pc : ℕ) → Puts f g (Pc pc ∷ []) → untouched_count f.marks (places_from 0 4) ≡ 0 → room_of f.marks ≤ room_of g.marks
room_after_pc f g pc e h = omega (arith, room_after_puts f g _ e, untouched_behind_pc f.marks pc [] h)

-- giving up a reservation takes room for one
pub room_after_release : (f g : Face) → Puts f g (release ∷ []) → room_of f.marks ≤ room_of g.marks + 1
room_after_release f g e = omega (arith, room_after_cells f g _ e)

-- ---- a step

-- what an effect loads
length-atomic_places : (test : Bool) (places : List ℕ) → length places ≤ 5 → length (if test then places else []) ≤ 5
length-atomic_places true places h = h
length-atomic_places false places h = omega arith

length-data_places : (shape : Shape) (version : Version) (e : Effect) → IsEffect version e → length (data_places shape e) ≤ 5
length-data_places shape version (Load n signed address) h =
    length-atomic_places (holds shape address n) (places_from (place_of shape address) n) (omega (arith, h, length-places_from (place_of shape address) n))
length-data_places shape version (Set value) h = omega arith
length-data_places shape version (Store n address value) h = omega arith
length-data_places shape version (Jump target) h = omega arith
length-data_places shape version (LoadReserved address) h =
    length-atomic_places (is_aligned address && holds shape address 4) (places_from (place_of shape address) 4) (omega (arith, length-places_from (place_of shape address) 4))
length-data_places shape version (StoreConditional address value) h =
    length-atomic_places (is_aligned address && holds shape address 4) reservation_places (omega arith)
length-data_places shape version (Modify address change) h =
    length-atomic_places (is_aligned address && holds shape address 4) (places_from (place_of shape address) 4) (omega (arith, length-places_from (place_of shape address) 4))
length-data_places shape version GuestCall h = omega arith
length-data_places shape version Breakpoint h = omega arith

-- what an instruction reads
length-operand_places : (s : State) (i : Option Instr) → IsState s → IfInstruction s.shape.version i → length (operand_places s.shape (view_of s) i) ≤ 13
length-operand_places s None good h = omega arith
length-operand_places s (Some i) good h =
    let m = view_of s in
    let a = register_places (rs1_of i) in
    let b = register_places (rs2_of i) in
    let loads = data_places s.shape (effect_of m i) in
    omega (
      arith,
      length-append (a ++ b) loads,
      length-append a b,
      length-register_places (rs1_of i),
      length-register_places (rs2_of i),
      length-data_places s.shape s.shape.version (effect_of m i) (effect_of-IsEffect s.shape m i (IsMachine-view_of s good) h),
    )

-- what a step reads behind the pc
abbrev places_behind : State → List ℕ
places_behind s = let m = view_of s in
    if is_aligned m.pc && holds s.shape m.pc 4
    then places_from (place_of s.shape m.pc) 4 ++ operand_places s.shape m (decode s.shape.version (fetch s.shape m))
    else []

places_read-behind : (s : State) → places_read s ≡ places_from 0 4 ++ places_behind s
unfolding places_read
places_read-behind s = let m = view_of s in
    cond_both (is_aligned m.pc && holds s.shape m.pc 4) _ _
    (λ list. list ≡ places_from 0 4 ++ places_behind s) (λ yes. rw yes refl) (λ no. rw no refl)

length-places_behind : (s : State) → IsState s → length (places_behind s) ≤ 17
length-places_behind s good = let m = view_of s in
    let word = places_from (place_of s.shape m.pc) 4 in
    let rest = operand_places s.shape m (decode s.shape.version (fetch s.shape m)) in
    cond_both (is_aligned m.pc && holds s.shape m.pc 4) (word ++ rest) [] (λ list. length list ≤ 17)
    (λ yes. omega (
      arith,
      length-append word rest,
      length-places_from (place_of s.shape m.pc) 4,
      length-operand_places s (decode s.shape.version (fetch s.shape m)) good (decode-IsInstruction s.shape.version (fetch s.shape m)),
    ))
    (λ no. omega arith)

-- a store is of four bytes at most; nothing is asked of other effects
abbrev IsSized : Effect → Type 0
IsSized (Store n address value) = n ≤ 4
IsSized (Set value) = Unit {0}
IsSized (Load n signed address) = Unit {0}
IsSized (Jump target) = Unit {0}
IsSized (LoadReserved address) = Unit {0}
IsSized (StoreConditional address value) = Unit {0}
IsSized (Modify address change) = Unit {0}
IsSized GuestCall = Unit {0}
IsSized Breakpoint = Unit {0}

branch-IsSized : (test : Bool) (target : ℕ) → IsSized (branch test target)
branch-IsSized true target = tt
branch-IsSized false target = tt

effect-IsSized : (op : Op) (pc a b i : ℕ) → IsSized (effect op pc a b i)
effect-IsSized Beq pc a b i = branch-IsSized (a == b) (pc +w i)
effect-IsSized Bne pc a b i = branch-IsSized (not (a == b)) (pc +w i)
effect-IsSized Blt pc a b i = branch-IsSized (int_lt (signed a) (signed b)) (pc +w i)
effect-IsSized Bge pc a b i = branch-IsSized (not (int_lt (signed a) (signed b))) (pc +w i)
effect-IsSized Bltu pc a b i = branch-IsSized (nat_lt a b) (pc +w i)
effect-IsSized Bgeu pc a b i = branch-IsSized (not (nat_lt a b)) (pc +w i)
effect-IsSized Sb pc a b i = omega arith
effect-IsSized Sh pc a b i = omega arith
effect-IsSized Sw pc a b i = omega arith
effect-IsSized _ pc a b i = tt

-- the untouched places that an outcome writes are nine at most, where those of the pc are touched
module _ (marks : Marks) (shape : Shape) (touched : untouched_count marks (places_from 0 4) ≡ 0) where
  abbrev IsShort : Outcome → Type 0
  IsShort o = untouched_count marks (map (λ cell. cell.0) (cells_of_outcome shape o)) ≤ 9

  fails-IsShort : (m : Machine) (kind : FaultKind) (value : ℕ) → IsShort (fault_outcome m kind value)
  fails-IsShort m kind value = omega (arith, untouched_count-le-length marks [])

  -- the pc and other changes
  goes-IsShort : (pc : ℕ) (list : List Change) → length (flat_map (cells_of shape) list) ≤ 9 → IsShort (Went (Pc pc ∷ list))
  goes-IsShort pc list h = omega (arith, h, untouched_behind_pc marks pc (flat_map (cells_of shape) list) touched)

  -- the pc, a register and other changes
  sets-IsShort : (pc rd value : ℕ) (list : List Change) → length (flat_map (cells_of shape) list) ≤ 5 → IsShort (Went (Pc pc ∷ Register rd value ∷ list))
  sets-IsShort pc rd value list h =
      goes-IsShort pc (Register rd value ∷ list) (omega (arith, h, length-append (cells_of shape (Register rd value)) (flat_map (cells_of shape) list), length-cells_of_register shape rd value))

  length-stored : (n address value : ℕ) → length (flat_map (cells_of shape) (Memory address (bytes_of n value) ∷ [])) ≡ n
  length-stored n address value =
      let cells = cells_of shape (Memory address (bytes_of n value)) in
      omega (arith, length-append cells [], length-cells (place_of shape address) (bytes_of n value), length-bytes_of n value)

  atomic-IsShort : (m : Machine) (outside : FaultKind) (address : ℕ) (list : List Change) → IsShort (Went list) → IsShort (atomic_outcome shape m outside address list)
  atomic-IsShort m outside address list h =
      cond_both (not (is_aligned address)) _ _ IsShort (λ yes. fails-IsShort m AtomicMisaligned address)
      (λ no. cond_both (holds shape address 4) _ _ IsShort (λ yes. h) (λ no. fails-IsShort m outside address))

  outcome_of-IsShort : (m : Machine) (rd : ℕ) (e : Effect) → IsSized e → IsShort (outcome_of shape m rd e)
  outcome_of-IsShort m rd (Set value) h = sets-IsShort (m.pc +w 4) rd value [] (omega arith)
  outcome_of-IsShort m rd (Load n signed address) h =
      cond_both (holds shape address n) _ _ IsShort (λ yes. sets-IsShort (m.pc +w 4) rd _ [] (omega arith)) (λ no. fails-IsShort m LoadOutside address)
  outcome_of-IsShort m rd (Store n address value) h =
      cond_both (holds shape address n) _ _ IsShort
      (λ yes. goes-IsShort (m.pc +w 4) (Memory address (bytes_of n value) ∷ []) (omega (arith, h, length-stored n address value))) (λ no. fails-IsShort m StoreOutside address)
  outcome_of-IsShort m rd (Jump target) h =
      cond_both (is_aligned target) _ _ IsShort (λ yes. sets-IsShort target rd (m.pc +w 4) [] (omega arith)) (λ no. fails-IsShort m Misaligned target)
  outcome_of-IsShort m rd (LoadReserved address) h =
      atomic-IsShort m LoadOutside address _ (sets-IsShort (m.pc +w 4) rd (load shape m 4 address) (reserve address ∷ []) (omega arith))
  outcome_of-IsShort m rd (StoreConditional address value) h =
      let reserved = is_reserved m address in
      let stored = Memory address (bytes_of 4 value) ∷ [] in
      let most : length (flat_map (cells_of shape) (release ∷ (if reserved then stored else []))) ≤ 5 =
      cond_both reserved stored [] (λ list. length (flat_map (cells_of shape) (release ∷ list)) ≤ 5) (λ yes. omega (arith, length-stored 4 address value)) (λ no. omega arith) in
      atomic-IsShort m StoreOutside address _ (sets-IsShort (m.pc +w 4) rd (one_if (not reserved)) (release ∷ (if reserved then stored else [])) most)
  outcome_of-IsShort m rd (Modify address change) h =
      let old = load shape m 4 address in
      atomic-IsShort m StoreOutside address _ (sets-IsShort (m.pc +w 4) rd old (Memory address (bytes_of 4 (change old)) ∷ []) (omega (arith, length-stored 4 address (change old))))
  outcome_of-IsShort m rd GuestCall h = omega (arith, untouched_count-le-length marks [])
  outcome_of-IsShort m rd Breakpoint h = fails-IsShort m Break 0

  outcome_of_word-IsShort : (m : Machine) (i : Option Instr) → IsShort (outcome_of_word shape m i)
  outcome_of_word-IsShort m None = fails-IsShort m Illegal (fetch shape m)
  outcome_of_word-IsShort m (Some i) =
      outcome_of-IsShort m (rd_of i) (effect_of m i) (effect-IsSized (op_of i) m.pc (register m (rs1_of i)) (register m (rs2_of i)) (imm_of i))

  outcome-IsShort : (m : Machine) → IsShort (outcome shape m)
  unfolding outcome
  outcome-IsShort m =
      cond_both (not (is_aligned m.pc)) _ _ IsShort (λ yes. fails-IsShort m Misaligned m.pc)
      (λ no. cond_both (not (holds shape m.pc 4)) _ _ IsShort (λ yes. fails-IsShort m FetchOutside m.pc) (λ no. outcome_of_word-IsShort m (decode shape.version (fetch shape m))))

-- what a step writes
writes-short : (s : State) (marks : Marks) → untouched_count marks (places_from 0 4) ≡ 0 → untouched_count marks (map (λ cell. cell.0) (writes s)) ≤ 9
unfolding writes
writes-short s marks touched = outcome-IsShort marks s.shape touched (view_of s)

-- a step takes no more room than is kept for one
pub room_after_step : (f g : Face) → IsState f.state → FitPlaces (length f.state.bytes) f.marks → g ≡ face_after f → room_of f.marks ≤ room_of g.marks + STEP_ROOM
room_after_step f g good fit e =
    let a = places_from 0 4 in
    let b = places_behind f.state in
    let f1 = face_after_reads f (places_read f.state) in
    let parts = places_read-behind f.state in
    let touched : untouched_count f1.marks a ≡ 0 =
    touched_after_reads (face_after_reads f a) f1 b a (ap (face_after_reads f) parts ∙ face_after_reads-append f a b) (touched_by_reads_of_pc f good fit) in
    let places : length (places_read f.state) ≤ 21 = omega (arith, ap (λ (l : List ℕ). length l) parts, length-append a b, length-places_behind f.state good) in
    omega (arith, places, room_after_reads f f1 (places_read f.state) refl, room_after_puts f1 g (writes f.state) e, writes-short f.state f1.marks touched)
