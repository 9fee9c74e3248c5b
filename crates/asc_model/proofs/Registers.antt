-- The places of registers that a step touches: they follow from its word.
use Rattle.std.proofs.Common.{◌≡◌, ℕ, zero, suc, ◌+◌, ◌<◌, ◌≤◌, Bool, true, false, not, ◌&&◌, ◌||◌, List, [], ◌∷◌, ◌++◌, map, Option, Some, None, if◌then◌else◌, refl, sym, ap, subst, ◌∙◌, arith}
use Rattle.std.specs.List.{flat_map}
use Rattle.std.specs.Prelude.{All, ◌==◌, int_lt, nat_lt}
use Rattle.std.proofs.lemmas.Bool.{and_parts, false≢true, ne_eqb}
use Rattle.std.proofs.lemmas.List.{map-append}
use Rattle.std.proofs.lemmas.List.Elements.{All-append, All-cons, All-nil}
use Rattle.std.proofs.lemmas.List.Folds.{list_any-append, list_any_none}
use Rattle.asc_model.specs.declared.fault.Fault.{Fault}
use Rattle.asc_model.specs.declared.fault.FaultKind.{FaultKind}
use Rattle.asc_model.specs.declared.fault.FaultKind.TheVariants.{Misaligned, FetchOutside, Illegal, LoadOutside, StoreOutside, AtomicMisaligned}
use Rattle.asc_model.specs.declared.version.Version.{Version}
use Rattle.asc_model.specs.declared.version.Version.TheVariants.{One, Two}
use Rattle.asc_model.specs.declared.instruction.Instr.{Instr}
use Rattle.asc_model.specs.declared.instruction.Op.{Op}
use Rattle.asc_model.specs.declared.instruction.Op.TheVariants.{Beq, Bne, Blt, Bge, Bltu, Bgeu, Sb, Sh, Sw}
use Rattle.asc_model.specs.Shape.{Shape, place_of, holds}
use Rattle.asc_model.specs.Number.{bytes_of}
use Rattle.asc_model.specs.State.{State}
use Rattle.asc_model.specs.Machine.{Machine, Change, Pc, Register, Memory, reserve, release, register, load, is_reserved, view_of}
use Rattle.asc_model.specs.Arithmetic.{◌+w◌, signed, one_if}
use Rattle.asc_model.specs.Effect.{Effect, Set, Load, Store, Jump, LoadReserved, StoreConditional, Modify, GuestCall, Breakpoint, branch, effect}
use Rattle.asc_model.specs.Instruction.{Format, U, J, I, Shift, S, B, R, Plain, Row, operands, fits, find, table, decode, op_of, rd_of, rs1_of, rs2_of, imm_of}
use Rattle.asc_model.specs.Step.{Outcome, Went, Call, Faulted, fault_outcome, is_aligned, atomic_outcome, loaded_word, effect_of, outcome_of, fetch, outcome, next}
use Rattle.asc_model.specs.Places.{places_from, register_places, reservation_places, data_places, operand_places, places_read, places_written, cells, cells_of, cells_of_outcome, writes}
use Rattle.asc_model.specs.DependencyVector.{is_among}
use Rattle.asc_model.specs.Laws.{RegistersFollowWords}
use Rattle.asc_model.proofs.Changes.{start_of-least}
use Rattle.asc_model.proofs.Steps.{by_branch, next-calls, next-fails}

-- ---- stores have no destination

abbrev pub is_store : Op → Bool
is_store Sb = true
is_store Sh = true
is_store Sw = true
is_store op = false

abbrev has_no_destination : Format → Bool
has_no_destination S = true
has_no_destination B = true
has_no_destination Plain = true
has_no_destination U = false
has_no_destination J = false
has_no_destination I = false
has_no_destination Shift = false
has_no_destination R = false

abbrev stores_fit : List Row → Bool
stores_fit [] = true
stores_fit (row ∷ rows) = (not (is_store row.op) || has_no_destination row.format) && stores_fit rows

table-stores_fit : (version : Version) → stores_fit (table version) ≡ true
table-stores_fit One = refl
table-stores_fit Two = refl

clash : (b : Bool) → (not b || false) ≡ true → b ≡ true → ⊥
clash true h e = false≢true h
clash false h e = false≢true e

operands-store : (op : Op) (word : ℕ) (format : Format) → (not (is_store op) || has_no_destination format) ≡ true → is_store op ≡ true → rd_of (operands format op word) ≡ 0
operands-store op word S h e = refl
operands-store op word B h e = refl
operands-store op word Plain h e = refl
operands-store op word U h e = absurd (clash (is_store op) h e)
operands-store op word J h e = absurd (clash (is_store op) h e)
operands-store op word I h e = absurd (clash (is_store op) h e)
operands-store op word Shift h e = absurd (clash (is_store op) h e)
operands-store op word R h e = absurd (clash (is_store op) h e)

-- the operation of an instruction that a word spells
pub op_of-operands : (format : Format) (op : Op) (word : ℕ) → op_of (operands format op word) ≡ op
op_of-operands S op word = refl
op_of-operands B op word = refl
op_of-operands Plain op word = refl
op_of-operands U op word = refl
op_of-operands J op word = refl
op_of-operands I op word = refl
op_of-operands Shift op word = refl
op_of-operands R op word = refl

abbrev pub IfStores : Option Instr → Type 0
IfStores None = Unit {0}
IfStores (Some i) = is_store (op_of i) ≡ true → rd_of i ≡ 0

find-IfStores : (rows : List Row) (word : ℕ) → stores_fit rows ≡ true → IfStores (find rows word)
find-IfStores [] word h = tt
find-IfStores (row ∷ rows) word h =
    let both = and_parts (not (is_store row.op) || has_no_destination row.format) (stores_fit rows) h in
    by_branch IfStores (fits row.pattern word) (Some (operands row.format row.op word)) (find rows word)
    (λ e store. operands-store row.op word row.format both.0 (sym (ap is_store (op_of-operands row.format row.op word)) ∙ store)) (λ e. find-IfStores rows word both.1)

pub decode-IfStores : (version : Version) (word : ℕ) → IfStores (decode version word)
unfolding decode
decode-IfStores version word = find-IfStores (table version) word (table-stores_fit version)

abbrev pub StoresNone : Effect → ℕ → Type 0
StoresNone (Store n address value) rd = rd ≡ 0
StoresNone (Set value) rd = Unit {0}
StoresNone (Load n signed address) rd = Unit {0}
StoresNone (Jump target) rd = Unit {0}
StoresNone (LoadReserved address) rd = Unit {0}
StoresNone (StoreConditional address value) rd = Unit {0}
StoresNone (Modify address change) rd = Unit {0}
StoresNone GuestCall rd = Unit {0}
StoresNone Breakpoint rd = Unit {0}

branch-StoresNone : (test : Bool) (target rd : ℕ) → StoresNone (branch test target) rd
branch-StoresNone true target rd = tt
branch-StoresNone false target rd = tt

pub effect-StoresNone : (op : Op) (pc a b i rd : ℕ) → (is_store op ≡ true → rd ≡ 0) → StoresNone (effect op pc a b i) rd
effect-StoresNone Beq pc a b i rd h = branch-StoresNone (a == b) (pc +w i) rd
effect-StoresNone Bne pc a b i rd h = branch-StoresNone (not (a == b)) (pc +w i) rd
effect-StoresNone Blt pc a b i rd h = branch-StoresNone (int_lt (signed a) (signed b)) (pc +w i) rd
effect-StoresNone Bge pc a b i rd h = branch-StoresNone (not (int_lt (signed a) (signed b))) (pc +w i) rd
effect-StoresNone Bltu pc a b i rd h = branch-StoresNone (nat_lt a b) (pc +w i) rd
effect-StoresNone Bgeu pc a b i rd h = branch-StoresNone (not (nat_lt a b)) (pc +w i) rd
effect-StoresNone Sb pc a b i rd h = h refl
effect-StoresNone Sh pc a b i rd h = h refl
effect-StoresNone Sw pc a b i rd h = h refl
effect-StoresNone _ pc a b i rd h = tt

-- the effect of a decoded word, with its destination
pub decoded-StoresNone : (m : Machine) (version : Version) (word : ℕ) (i : Instr) → decode version word ≡ Some i → StoresNone (effect_of m i) (rd_of i)
decoded-StoresNone m version word i e =
    effect-StoresNone (op_of i) m.pc (register m (rs1_of i)) (register m (rs2_of i)) (imm_of i) (rd_of i) (subst IfStores e (decode-IfStores version word))

-- ---- places behind the registers

abbrev AreHigh : List ℕ → Type 0
AreHigh places = All (λ place. 128 ≤ place) places

none-AreHigh : AreHigh []
none-AreHigh = All-nil (λ place. 128 ≤ place)

row-AreHigh : (place n : ℕ) → 128 ≤ place → AreHigh (places_from place n)
row-AreHigh place zero least = none-AreHigh
row-AreHigh place (suc n) least = All-cons (λ p. 128 ≤ p) place (places_from (place + 1) n) least (row-AreHigh (place + 1) n (omega (arith, least)))

memory-AreHigh : (shape : Shape) (address n : ℕ) → AreHigh (places_from (place_of shape address) n)
memory-AreHigh shape address n = row-AreHigh (place_of shape address) n (omega (arith, start_of-least shape.version))

if-AreHigh : (b : Bool) (places : List ℕ) → AreHigh places → AreHigh (if b then places else [])
if-AreHigh true places h = h
if-AreHigh false places h = none-AreHigh

data-AreHigh : (shape : Shape) (e : Effect) → AreHigh (data_places shape e)
data-AreHigh shape (Load n signed address) = if-AreHigh (holds shape address n) (places_from (place_of shape address) n) (memory-AreHigh shape address n)
data-AreHigh shape (LoadReserved address) = if-AreHigh (is_aligned address && holds shape address 4) (places_from (place_of shape address) 4) (memory-AreHigh shape address 4)
data-AreHigh shape (Modify address change) = if-AreHigh (is_aligned address && holds shape address 4) (places_from (place_of shape address) 4) (memory-AreHigh shape address 4)
data-AreHigh shape (StoreConditional address value) = if-AreHigh (is_aligned address && holds shape address 4) reservation_places (row-AreHigh 128 5 (omega arith))
data-AreHigh shape (Set value) = none-AreHigh
data-AreHigh shape (Store n address value) = none-AreHigh
data-AreHigh shape (Jump target) = none-AreHigh
data-AreHigh shape GuestCall = none-AreHigh
data-AreHigh shape Breakpoint = none-AreHigh

-- cells one after another
cells-AreHigh : (place : ℕ) (bytes : List ℕ) → 128 ≤ place → AreHigh (map (λ cell. cell.0) (cells place bytes))
cells-AreHigh place [] least = none-AreHigh
cells-AreHigh place (byte ∷ bytes) least =
    All-cons (λ p. 128 ≤ p) place (map (λ cell. cell.0) (cells (place + 1) bytes)) least (cells-AreHigh (place + 1) bytes (omega (arith, least)))

stored-AreHigh : (shape : Shape) (address : ℕ) (bytes : List ℕ) → AreHigh (map (λ cell. cell.0) (cells_of shape (Memory address bytes)))
stored-AreHigh shape address bytes = cells-AreHigh (place_of shape address) bytes (omega (arith, start_of-least shape.version))

map-AreHigh : (a b : List (ℕ × ℕ)) → AreHigh (map (λ cell. cell.0) a) → AreHigh (map (λ cell. cell.0) b) → AreHigh (map (λ cell. cell.0) (a ++ b))
map-AreHigh a b first second =
    subst AreHigh (sym (map-append (λ (cell : ℕ × ℕ). cell.0) a b)) (All-append (λ p. 128 ≤ p) (map (λ cell. cell.0) a) (map (λ cell. cell.0) b) first second)

-- no place of a register is among them
high-among : (places : List ℕ) (place : ℕ) → AreHigh places → place < 128 → is_among place places ≡ false
high-among places place high low = list_any_none (λ other. other == place) places (λ k d within. ne_eqb _ place (λ e. absurd (omega (arith, low, e, high k d within))))

pub among-append : (place : ℕ) (a b : List ℕ) → is_among place (a ++ b) ≡ (is_among place a || is_among place b)
among-append place a b = list_any-append (λ other. other == place) a b

or_false : (b : Bool) → (b || false) ≡ b
or_false true = refl
or_false false = refl

-- what stands behind changes nothing
among-behind : (place : ℕ) (a b : List ℕ) → AreHigh b → place < 128 → is_among place (a ++ b) ≡ is_among place a
among-behind place a b high low = among-append place a b ∙ ap (λ (x : Bool). is_among place a || x) (high-among b place high low) ∙ or_false (is_among place a)

-- ---- reads

abbrev registers_read : Instr → List ℕ
registers_read i = places_from 0 4 ++ (register_places (rs1_of i) ++ register_places (rs2_of i))

reads-among : (shape : Shape) (m : Machine) (i : Instr) (place : ℕ) → place < 128
    → is_among place (places_from 0 4 ++ places_from (place_of shape m.pc) 4 ++ operand_places shape m (Some i)) ≡ is_among place (registers_read i)
reads-among shape m i place low =
    let pc = places_from 0 4 in
    let word = places_from (place_of shape m.pc) 4 in
    let sources = register_places (rs1_of i) ++ register_places (rs2_of i) in
    let loads = data_places shape (effect_of m i) in
    among-append place (pc ++ word) (sources ++ loads)
    ∙ ap (λ (x : Bool). x || is_among place (sources ++ loads)) (among-behind place pc word (memory-AreHigh shape m.pc 4) low)
    ∙ ap (λ (x : Bool). is_among place pc || x) (among-behind place sources loads (data-AreHigh shape (effect_of m i)) low)
    ∙ sym (among-append place pc sources)

-- ---- writes

abbrev registers_written : ℕ → List ℕ
registers_written rd = places_from 0 4 ++ register_places rd

abbrev WritesRegisters : Shape → ℕ → Outcome → Type 0
WritesRegisters shape rd (Went list) = (place : ℕ) → place < 128
    → is_among place (map (λ cell. cell.0) (flat_map (cells_of shape) list)) ≡ is_among place (registers_written rd)
WritesRegisters shape rd Call = Unit {0}
WritesRegisters shape rd (Faulted fault) = Unit {0}

register-cells : (shape : Shape) (rd value : ℕ) → map (λ cell. cell.0) (cells_of shape (Register rd value)) ≡ register_places rd
register-cells shape zero value = refl
register-cells shape (suc k) value = refl

sets-registers : (shape : Shape) (pc rd value : ℕ) (list : List Change) → AreHigh (map (λ cell. cell.0) (flat_map (cells_of shape) list))
    → WritesRegisters shape rd (Went (Pc pc ∷ Register rd value ∷ list))
sets-registers shape pc rd value list high place low =
    let first = cells_of shape (Pc pc) in
    let second = cells_of shape (Register rd value) in
    let rest = flat_map (cells_of shape) list in
    let places : List (ℕ × ℕ) → List ℕ = λ cells. map (λ cell. cell.0) cells in
    ap (is_among place) (map-append (λ (cell : ℕ × ℕ). cell.0) first (second ++ rest)) ∙ among-append place (places first) (places (second ++ rest))
    ∙ ap (λ (x : Bool). is_among place (places_from 0 4) || x)
    (ap (is_among place) (map-append (λ (cell : ℕ × ℕ). cell.0) second rest) ∙ among-behind place (places second) (places rest) high low
    ∙ ap (is_among place) (register-cells shape rd value))
    ∙ sym (among-append place (places_from 0 4) (register_places rd))

stores-registers : (shape : Shape) (pc rd : ℕ) (list : List Change) → rd ≡ 0 → AreHigh (map (λ cell. cell.0) (flat_map (cells_of shape) list)) → WritesRegisters shape rd (Went (Pc pc ∷ list))
stores-registers shape pc rd list none high place low =
    let first = cells_of shape (Pc pc) in
    let rest = flat_map (cells_of shape) list in
    let places : List (ℕ × ℕ) → List ℕ = λ cells. map (λ cell. cell.0) cells in
    ap (is_among place) (map-append (λ (cell : ℕ × ℕ). cell.0) first rest) ∙ among-behind place (places first) (places rest) high low
    ∙ sym (among-behind place (places_from 0 4) [] none-AreHigh low)
    ∙ ap (λ k. is_among place (registers_written k)) (sym none)

atomic-registers : (shape : Shape) (m : Machine) (rd : ℕ) (outside : FaultKind) (address : ℕ) (list : List Change) → WritesRegisters shape rd (Went list)
    → WritesRegisters shape rd (atomic_outcome shape m outside address list)
atomic-registers shape m rd outside address list h =
    by_branch (WritesRegisters shape rd) (not (is_aligned address)) (fault_outcome m AtomicMisaligned address) (if holds shape address 4 then Went list else fault_outcome m outside address) (λ e. tt)
    (λ e. by_branch (WritesRegisters shape rd) (holds shape address 4) (Went list) (fault_outcome m outside address) (λ e. h) (λ e. tt))

one-AreHigh : (shape : Shape) (address : ℕ) (bytes : List ℕ) → AreHigh (map (λ cell. cell.0) (flat_map (cells_of shape) (Memory address bytes ∷ [])))
one-AreHigh shape address bytes = map-AreHigh (cells_of shape (Memory address bytes)) [] (stored-AreHigh shape address bytes) none-AreHigh

outcome_of-registers : (shape : Shape) (m : Machine) (rd : ℕ) (e : Effect) → StoresNone e rd → WritesRegisters shape rd (outcome_of shape m rd e)
outcome_of-registers shape m rd (Set value) h = sets-registers shape (m.pc +w 4) rd value [] none-AreHigh
outcome_of-registers shape m rd (Load n signed address) h =
    by_branch (WritesRegisters shape rd) (holds shape address n) (Went (Pc (m.pc +w 4) ∷ Register rd (loaded_word n signed (load shape m n address)) ∷ [])) (fault_outcome m LoadOutside address)
    (λ e. sets-registers shape (m.pc +w 4) rd (loaded_word n signed (load shape m n address)) [] none-AreHigh) (λ e. tt)
outcome_of-registers shape m rd (Store n address value) h =
    by_branch (WritesRegisters shape rd) (holds shape address n) (Went (Pc (m.pc +w 4) ∷ Memory address (bytes_of n value) ∷ [])) (fault_outcome m StoreOutside address)
    (λ e. stores-registers shape (m.pc +w 4) rd (Memory address (bytes_of n value) ∷ []) h (one-AreHigh shape address (bytes_of n value))) (λ e. tt)
outcome_of-registers shape m rd (Jump target) h =
    by_branch (WritesRegisters shape rd) (is_aligned target) (Went (Pc target ∷ Register rd (m.pc +w 4) ∷ [])) (fault_outcome m Misaligned target)
    (λ e. sets-registers shape target rd (m.pc +w 4) [] none-AreHigh) (λ e. tt)
outcome_of-registers shape m rd (LoadReserved address) h =
    atomic-registers shape m rd LoadOutside address (Pc (m.pc +w 4) ∷ Register rd (load shape m 4 address) ∷ reserve address ∷ [])
    (sets-registers shape (m.pc +w 4) rd (load shape m 4 address) (reserve address ∷ []) (map-AreHigh (cells_of shape (reserve address)) [] (cells-AreHigh 128 (bytes_of 4 address ++ 1 ∷ []) (omega arith)) none-AreHigh))
outcome_of-registers shape m rd (StoreConditional address value) h =
    let reserved = is_reserved m address in
    let rest = if reserved then Memory address (bytes_of 4 value) ∷ [] else [] in
    let high : AreHigh (map (λ cell. cell.0) (flat_map (cells_of shape) rest)) =
    by_branch (λ list. AreHigh (map (λ cell. cell.0) (flat_map (cells_of shape) list))) reserved (Memory address (bytes_of 4 value) ∷ []) [] (λ e. one-AreHigh shape address (bytes_of 4 value)) (λ e. none-AreHigh) in
    atomic-registers shape m rd StoreOutside address (Pc (m.pc +w 4) ∷ Register rd (one_if (not reserved)) ∷ release ∷ rest)
    (sets-registers shape (m.pc +w 4) rd (one_if (not reserved)) (release ∷ rest) (map-AreHigh (cells_of shape release) (flat_map (cells_of shape) rest) (cells-AreHigh 132 (0 ∷ []) (omega arith)) high))
outcome_of-registers shape m rd (Modify address change) h =
    let old = load shape m 4 address in
    atomic-registers shape m rd StoreOutside address (Pc (m.pc +w 4) ∷ Register rd old ∷ Memory address (bytes_of 4 (change old)) ∷ [])
    (sets-registers shape (m.pc +w 4) rd old (Memory address (bytes_of 4 (change old)) ∷ []) (one-AreHigh shape address (bytes_of 4 (change old))))
outcome_of-registers shape m rd GuestCall h = tt
outcome_of-registers shape m rd Breakpoint h = tt

-- ---- a step that goes on

-- the registers that it touches are those of the instruction that its word decodes to
record StepsBy (s : State) (i : Instr) : Type 0 where
  decoded : decode s.shape.version (fetch s.shape (view_of s)) ≡ Some i
  read : (place : ℕ) → place < 128 → is_among place (places_read s) ≡ is_among place (registers_read i)
  written : (place : ℕ) → place < 128 → is_among place (places_written s) ≡ is_among place (registers_written (rd_of i))

goes≢ : (s after : State) (fault : Fault) → outcome s.shape (view_of s) ≡ Faulted fault → next s ≡ Went after → ⊥
goes≢ s after fault e h = let n = next-fails s fault e in absurd (cc)

refused≢ : (s after : State) (kind : FaultKind) (value : ℕ) → outcome s.shape (view_of s) ≡ fault_outcome (view_of s) kind value → next s ≡ Went after → ⊥
refused≢ s after kind value e h = goes≢ s after (record { kind = kind; pc = (view_of s).pc; value = value }) e h

calls≢ : (s after : State) → outcome s.shape (view_of s) ≡ Call → next s ≡ Went after → ⊥
calls≢ s after e h = let n = next-calls s e in absurd (cc)

written_by : (shape : Shape) (rd : ℕ) (o : Outcome) → WritesRegisters shape rd o → (o ≡ Call → ⊥) → ((fault : Fault) → o ≡ Faulted fault → ⊥) → (place : ℕ) → place < 128
    → is_among place (map (λ cell. cell.0) (cells_of_outcome shape o)) ≡ is_among place (registers_written rd)
written_by shape rd (Went list) h calls fails place low = h place low
written_by shape rd Call h calls fails place low = absurd (calls refl)
written_by shape rd (Faulted fault) h calls fails place low = absurd (fails fault refl)

goes_by : (s after : State) (aligned held : Bool) (i : Option Instr) → next s ≡ Went after → is_aligned (view_of s).pc ≡ aligned → holds s.shape (view_of s).pc 4 ≡ held
    → decode s.shape.version (fetch s.shape (view_of s)) ≡ i → (found : Instr) × StepsBy s found
unfolding outcome places_read writes
goes_by s after false held i h a b d = absurd (refused≢ s after Misaligned (view_of s).pc (rw a refl) h)
goes_by s after true false i h a b d = absurd (refused≢ s after FetchOutside (view_of s).pc (rw (a, b) refl) h)
goes_by s after true true None h a b d = absurd (refused≢ s after Illegal (fetch s.shape (view_of s)) (rw (a, b, d) refl) h)
goes_by s after true true (Some i) h a b d =
    let m = view_of s in
    let o = outcome_of s.shape m (rd_of i) (effect_of m i) in
    let whole : outcome s.shape m ≡ o = rw (a, b, d) refl in
    let reads : places_read s ≡ places_from 0 4 ++ places_from (place_of s.shape m.pc) 4 ++ operand_places s.shape m (Some i) = rw (a, b, d) refl in (
      i,
      record {
        decoded = d;
        read = λ place low. ap (is_among place) reads ∙ reads-among s.shape m i place low;
        written = λ place low. ap (λ (x : Outcome). is_among place (map (λ cell. cell.0) (cells_of_outcome s.shape x))) whole
            ∙ written_by s.shape (rd_of i) o (outcome_of-registers s.shape m (rd_of i) (effect_of m i) (decoded-StoresNone m s.shape.version (fetch s.shape m) i d))
            (λ e. calls≢ s after (whole ∙ e) h) (λ fault e. goes≢ s after fault (whole ∙ e) h) place low;
      },
    )

pub registers_follow_words : RegistersFollowWords
registers_follow_words s t after other same word goes went =
    let one = goes_by s after _ _ _ goes refl refl refl in
    let two = goes_by t other _ _ _ went refl refl refl in
    let some : Some one.0 ≡ Some two.0 =
    sym one.1.decoded ∙ ap (λ (v : Version). decode v (fetch s.shape (view_of s))) (sym same) ∙ ap (decode t.shape.version) (sym word) ∙ two.1.decoded in
    let alike : one.0 ≡ two.0 = cc in
    record {
      read = λ place low. one.1.read place low ∙ ap (λ (i : Instr). is_among place (registers_read i)) alike ∙ sym (two.1.read place low);
      written = λ place low. one.1.written place low ∙ ap (λ (i : Instr). is_among place (registers_written (rd_of i))) alike ∙ sym (two.1.written place low);
    }
