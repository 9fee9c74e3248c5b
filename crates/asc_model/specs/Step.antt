-- One step of the machine (RISC-V unprivileged manual 20191213, sections 2.5, 2.6, 2.8, 8.2 and 8.4). It is this
-- project's own that data of loads and stores need not be aligned; that one word at most is reserved, that a failed
-- store-conditional answers 1, and that loads, stores and the AMOs keep the reservation; that FENCE.I does nothing, since
-- a fetch reads the present memory; that EBREAK is a fault; and that every word outside the table is refused.
use Rattle.std.specs.Prelude.{ℕ, ◌*◌, ◌%◌, Bool, not, ◌==◌, List, [], ◌∷◌, Option, Some, None, if◌then◌else◌}
use Rattle.asc_model.specs.declared.fault.Fault.{Fault}
use Rattle.asc_model.specs.declared.fault.FaultKind.{FaultKind}
use Rattle.asc_model.specs.declared.fault.FaultKind.TheVariants.{Misaligned, FetchOutside, Illegal, LoadOutside, StoreOutside, Break, AtomicMisaligned}
use Rattle.asc_model.specs.declared.instruction.Instr.{Instr}
use Rattle.asc_model.specs.Shape.{Shape, holds}
use Rattle.asc_model.specs.Number.{bytes_of, sign_extend}
use Rattle.asc_model.specs.State.{State}
use Rattle.asc_model.specs.Machine.{Machine, register, load, is_reserved, Change, Pc, Register, Memory, reserve, release, after_changes, view_of, state_of}
use Rattle.asc_model.specs.Instruction.{decode, op_of, rd_of, rs1_of, rs2_of, imm_of}
use Rattle.asc_model.specs.Arithmetic.{◌+w◌, one_if}
use Rattle.asc_model.specs.Effect.{Effect, Set, Load, Store, Jump, LoadReserved, StoreConditional, Modify, GuestCall, Breakpoint, effect}

-- what a step comes to: it went on, and left this, or it met a guest call or a fault
pub data Stepped (X : Type 0) : Type 0 where
  Went : X → Stepped X
  Call : Stepped X
  Faulted : Fault → Stepped X

-- what becomes of the machine: changes of it
abbrev pub Outcome : Type 0
Outcome = Stepped (List Change)

abbrev pub fault_outcome : Machine → FaultKind → ℕ → Outcome
fault_outcome m kind value = Faulted (record { kind = kind; pc = m.pc; value = value })

abbrev pub is_aligned : ℕ → Bool
is_aligned address = address % 4 == 0

-- a loaded number of n bytes as a word
abbrev pub loaded_word : ℕ → Bool → ℕ → ℕ
loaded_word n signed number = if signed then sign_extend (8 * n) number else number

-- the effect of an instruction, as the machine stands
abbrev pub effect_of : Machine → Instr → Effect
effect_of m i = effect (op_of i) m.pc (register m (rs1_of i)) (register m (rs2_of i)) (imm_of i)

-- changes at a word of an atomic: its address is tested for alignment first, and then whether it is in memory
abbrev pub atomic_outcome : Shape → Machine → (outside : FaultKind) → (address : ℕ) → List Change → Outcome
atomic_outcome shape m outside address list =
    if not (is_aligned address) then fault_outcome m AtomicMisaligned address
    else (if holds shape address 4 then Went list else fault_outcome m outside address)

-- what an effect comes to: data outside memory, a misaligned atomic and a target that is no multiple of 4 are faults
abbrev pub outcome_of : Shape → Machine → (rd : ℕ) → Effect → Outcome
outcome_of shape m rd (Set value) = Went (Pc (m.pc +w 4) ∷ Register rd value ∷ [])
outcome_of shape m rd (Load n signed address) =
    if holds shape address n
    then Went (Pc (m.pc +w 4) ∷ Register rd (loaded_word n signed (load shape m n address)) ∷ [])
    else fault_outcome m LoadOutside address
outcome_of shape m rd (Store n address value) =
    if holds shape address n then Went (Pc (m.pc +w 4) ∷ Memory address (bytes_of n value) ∷ [])
    else fault_outcome m StoreOutside address
outcome_of shape m rd (Jump target) =
    if is_aligned target then Went (Pc target ∷ Register rd (m.pc +w 4) ∷ [])
    else fault_outcome m Misaligned target
outcome_of shape m rd (LoadReserved address) = atomic_outcome shape m LoadOutside address
    (Pc (m.pc +w 4) ∷ Register rd (load shape m 4 address) ∷ reserve address ∷ [])
outcome_of shape m rd (StoreConditional address value) = let reserved = is_reserved m address in
    atomic_outcome shape m StoreOutside address
    (Pc (m.pc +w 4) ∷ Register rd (one_if (not reserved)) ∷ release
    ∷ (if reserved then Memory address (bytes_of 4 value) ∷ [] else []))
outcome_of shape m rd (Modify address change) = let old = load shape m 4 address in
    atomic_outcome shape m StoreOutside address
    (Pc (m.pc +w 4) ∷ Register rd old ∷ Memory address (bytes_of 4 (change old)) ∷ [])
outcome_of shape m rd GuestCall = Call
outcome_of shape m rd Breakpoint = fault_outcome m Break 0

-- the word at the pc
abbrev pub fetch : Shape → Machine → ℕ
fetch shape m = load shape m 4 m.pc

-- the outcome of the word at the pc, once it is decoded
abbrev pub outcome_of_word : Shape → Machine → Option Instr → Outcome
outcome_of_word shape m None = fault_outcome m Illegal (fetch shape m)
outcome_of_word shape m (Some i) = outcome_of shape m (rd_of i) (effect_of m i)

-- What one step comes to: the pc is tested first, then the fetch, then the word, then what its effect asks for.
unfoldable pub outcome : Shape → Machine → Outcome
outcome shape m =
    if not (is_aligned m.pc) then fault_outcome m Misaligned m.pc
    else (if not (holds shape m.pc 4) then fault_outcome m FetchOutside m.pc
    else outcome_of_word shape m (decode shape.version (fetch shape m)))

-- what becomes of the state: the next one
abbrev pub Next : Type 0
Next = Stepped State

abbrev pub next_of : Shape → Machine → Outcome → Next
next_of shape m (Went list) = Went (state_of shape (after_changes shape m list))
next_of shape m Call = Call
next_of shape m (Faulted fault) = Faulted fault

-- one step of a state, by way of its machine
unfoldable pub next : State → Next
next s = next_of s.shape (view_of s) (outcome s.shape (view_of s))
