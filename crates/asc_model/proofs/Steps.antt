-- What one step makes of a state, by the places that it writes.
use Rattle.std.proofs.Common.{◌≡◌, ℕ, zero, suc, ◌+◌, ◌-◌, ◌*◌, ◌/◌, ◌%◌, ◌^◌, ◌<◌, ◌≤◌, ℤ, pos, negsuc, neg_ℤ, ◌*ℤ◌, Bool, true, false, nat_lt, not, ◌&&◌, ◌==◌, List, [], ◌∷◌, length, Option, Some, None, if◌then◌else◌, take, drop, refl, sym, ap, ◌∙◌, subst, arith, pow_mono, pow_pos, le_of_lt}
use Rattle.std.specs.Prelude.{⊤, unsigned_abs, int_lt, int_div, int_rem}
use Rattle.std.proofs.lemmas.List.{length-take}
use Rattle.std.proofs.lemmas.Nat.{mod_below, pow-add, xor_lt, or_lt, and_le_l}
use Rattle.std.proofs.lemmas.Int.{unsigned_abs-mul}
use Rattle.std.proofs.lemmas.Bool.{and_parts}
use Rattle.std.proofs.lemmas.Bool.Decides.{nat_tests}
use Rattle.std.proofs.Math.Nat.{pow-zero, pow-suc, div-le_self, mod-le, mul-le-mul}
use Rattle.std.specs.Int.{int_shr}
use Rattle.asc_model.specs.declared.fault.Fault.{Fault}
use Rattle.asc_model.specs.declared.fault.FaultKind.{FaultKind}
use Rattle.asc_model.specs.declared.fault.FaultKind.TheVariants.{Misaligned, FetchOutside, LoadOutside, StoreOutside, AtomicMisaligned}
use Rattle.asc_model.specs.declared.version.Version.{Version}
use Rattle.asc_model.specs.declared.instruction.Op.{Op}
use Rattle.asc_model.specs.declared.version.Version.TheVariants.{One, Two}
use Rattle.asc_model.specs.declared.instruction.Op.TheVariants.{Lui, Auipc, Jal, Jalr, Beq, Bne, Blt, Bge, Bltu, Bgeu, Lb, Lh, Lw, Lbu, Lhu, Sb, Sh, Sw, Addi, Slti, Sltiu, Xori, Ori, Andi, Slli, Srli, Srai, Add, Sub, Sll, Slt, Sltu, Xor, Srl, Sra, Or, And, Fence, FenceI, Ecall, Ebreak, Mul, Mulh, Mulhsu, Mulhu, Div, Divu, Rem, Remu, LrW, ScW, AmoswapW, AmoaddW, AmoxorW, AmoandW, AmoorW, AmominW, AmomaxW, AmominuW, AmomaxuW}
use Rattle.asc_model.specs.declared.instruction.Instr.{Instr}
use Rattle.asc_model.specs.Shape.{Shape, holds}
use Rattle.asc_model.specs.Number.{AreBytes, number_of, bytes_of, bits, sign_extend}
use Rattle.asc_model.specs.State.{State, IsState}
use Rattle.asc_model.specs.Machine.{Machine, IsMachine, register, load, is_reserved, Change, Pc, Register, Memory, reserve, release, view_of}
use Rattle.asc_model.specs.Instruction.{Format, U, J, I, Shift, S, B, R, Plain, Row, operands, fits, find, table, decode, rd_of, rs1_of, rs2_of, imm_of, op_of}
use Rattle.asc_model.specs.Arithmetic.{signed, word_of, ◌+w◌, one_if, even_part, shift_right_signed, shift_amount, high_word, quotient, quotient_unsigned, remainder, remainder_unsigned}
use Rattle.asc_model.specs.Effect.{Effect, Set, Load, Store, Jump, LoadReserved, StoreConditional, Modify, GuestCall, Breakpoint, branch, effect}
use Rattle.asc_model.specs.Step.{Outcome, Went, Call, Faulted, fault_outcome, is_aligned, atomic_outcome, loaded_word, effect_of, outcome_of, fetch, outcome_of_word, outcome, next_of, next}
use Rattle.asc_model.specs.Places.{cells_of_outcome, writes, bytes_after}
use Rattle.asc_model.proofs.Numbers.{number_of-below, length-bytes_of, AreBytes-bytes_of, AreBytes-append, AreBytes-take, AreBytes-drop}
use Rattle.asc_model.proofs.Changes.{IsChange, AreChanges, IsMachine-view_of, state_of-after_changes}

-- what holds of both branches
pub by_branch : {A : Type 0} (P : A → Type 0) (b : Bool) (x y : A) → (b ≡ true → P x) → (b ≡ false → P y) → P (if b then x else y)
by_branch P true x y p q = p refl
by_branch P false x y p q = q refl

-- n bits are below 2 ^ n
pub bits-below : (word low n : ℕ) → bits word low n < 2 ^ n
bits-below word low n = mod_below (word / 2 ^ low) (2 ^ n) (pow_pos n)

-- a number extended by its sign is a word
pub sign_extend-below : (n number : ℕ) → n ≤ 32 → number < 2 ^ n → sign_extend n number < 2 ^ 32
sign_extend-below n number h small =
    let most : 2 ^ n ≤ 2 ^ 32 = pow_mono {i = n} {j = 32} h in
    by_branch (λ v. v < 2 ^ 32) (nat_lt number (2 ^ (n - 1))) number (number + (2 ^ 32 - 2 ^ n)) (λ e. omega arith) (λ e. omega arith)

one-AreBytes : AreBytes (1 ∷ [])
one-AreBytes zero = omega arith
one-AreBytes (suc i) = omega arith

zero-AreBytes : AreBytes (0 ∷ [])
zero-AreBytes zero = omega arith
zero-AreBytes (suc i) = omega arith

-- ---- instructions

-- whether an operation needs the reservation
abbrev pub uses_reservation : Op → Bool
uses_reservation LrW = true
uses_reservation ScW = true
uses_reservation op = false

-- version One has no reservation
abbrev pub is_of_version : Version → Op → Bool
is_of_version One op = not (uses_reservation op)
is_of_version Two op = true

-- the fields of an instruction of a version: registers 0 to 31, and an immediate that is a word
pub record IsInstruction (version : Version) (i : Instr) : Type 0 where
  pub op : is_of_version version (op_of i) ≡ true
  pub rd : rd_of i ≤ 31
  pub rs1 : rs1_of i ≤ 31
  pub rs2 : rs2_of i ≤ 31
  pub imm : imm_of i < 2 ^ 32

abbrev pub IfInstruction : Version → Option Instr → Type 0
IfInstruction version None = ⊤
IfInstruction version (Some i) = IsInstruction version i

-- numbers made of bits
bits_S-below : (word : ℕ) → bits word 25 7 * 2 ^ 5 + bits word 7 5 < 2 ^ 12
bits_S-below word = omega (arith, bits-below word 25 7, bits-below word 7 5)

bits_B-below : (word : ℕ) → bits word 31 1 * 2 ^ 12 + bits word 7 1 * 2 ^ 11 + bits word 25 6 * 2 ^ 5 + bits word 8 4 * 2 < 2 ^ 13
bits_B-below word = omega (arith, bits-below word 31 1, bits-below word 7 1, bits-below word 25 6, bits-below word 8 4)

bits_J-below : (word : ℕ) → bits word 31 1 * 2 ^ 20 + bits word 12 8 * 2 ^ 12 + bits word 20 1 * 2 ^ 11 + bits word 21 10 * 2 < 2 ^ 21
bits_J-below word = omega (arith, bits-below word 31 1, bits-below word 12 8, bits-below word 20 1, bits-below word 21 10)

module _ (version : Version) (op : Op) (word : ℕ) (known : is_of_version version op ≡ true) where
  field_rd : bits word 7 5 ≤ 31
  field_rd = omega (arith, bits-below word 7 5)

  field_rs1 : bits word 15 5 ≤ 31
  field_rs1 = omega (arith, bits-below word 15 5)

  field_rs2 : bits word 20 5 ≤ 31
  field_rs2 = omega (arith, bits-below word 20 5)

  operands-IsInstruction : (format : Format) → IsInstruction version (operands format op word)
  operands-IsInstruction U = record { op = known; rd = field_rd; rs1 = omega arith; rs2 = omega arith; imm = omega (arith, bits-below word 12 20) }
  operands-IsInstruction J = record {
    op = known;
    rd = field_rd;
    rs1 = omega arith;
    rs2 = omega arith;
    imm = sign_extend-below 21 (bits word 31 1 * 2 ^ 20 + bits word 12 8 * 2 ^ 12 + bits word 20 1 * 2 ^ 11 + bits word 21 10 * 2) (omega arith) (bits_J-below word);
  }
  operands-IsInstruction I = record {
    op = known;
    rd = field_rd;
    rs1 = field_rs1;
    rs2 = omega arith;
    imm = sign_extend-below 12 (bits word 20 12) (omega arith) (bits-below word 20 12);
  }
  operands-IsInstruction Shift = record { op = known; rd = field_rd; rs1 = field_rs1; rs2 = omega arith; imm = omega (arith, bits-below word 20 5) }
  operands-IsInstruction S = record {
    op = known;
    rd = omega arith;
    rs1 = field_rs1;
    rs2 = field_rs2;
    imm = sign_extend-below 12 (bits word 25 7 * 2 ^ 5 + bits word 7 5) (omega arith) (bits_S-below word);
  }
  operands-IsInstruction B = record {
    op = known;
    rd = omega arith;
    rs1 = field_rs1;
    rs2 = field_rs2;
    imm = sign_extend-below 13 (bits word 31 1 * 2 ^ 12 + bits word 7 1 * 2 ^ 11 + bits word 25 6 * 2 ^ 5 + bits word 8 4 * 2) (omega arith) (bits_B-below word);
  }
  operands-IsInstruction R = record { op = known; rd = field_rd; rs1 = field_rs1; rs2 = field_rs2; imm = omega arith }
  operands-IsInstruction Plain = record { op = known; rd = omega arith; rs1 = omega arith; rs2 = omega arith; imm = omega arith }

-- whether a version has the operation of each row
abbrev pub all_of_version : Version → List Row → Bool
all_of_version version [] = true
all_of_version version (row ∷ rows) = is_of_version version row.op && all_of_version version rows

find-IsInstruction : (version : Version) (rows : List Row) (word : ℕ) → all_of_version version rows ≡ true → IfInstruction version (find rows word)
find-IsInstruction version [] word h = tt
find-IsInstruction version (row ∷ rows) word h =
    let both = and_parts (is_of_version version row.op) (all_of_version version rows) h in
    by_branch (IfInstruction version) (fits row.pattern word) (Some (operands row.format row.op word)) (find rows word)
    (λ e. operands-IsInstruction version row.op word both.0 row.format) (λ e. find-IsInstruction version rows word both.1)

-- each version has the operations of its table
table-all_of_version : (version : Version) → all_of_version version (table version) ≡ true
table-all_of_version One = refl
table-all_of_version Two = refl

-- what a word decodes to is an instruction
pub decode-IsInstruction : (version : Version) (word : ℕ) → IfInstruction version (decode version word)
unfolding decode
decode-IsInstruction version word = find-IsInstruction version (table version) word (table-all_of_version version)

-- ---- effects

-- what an effect may be: values and targets are words, a load has one to four bytes, and a reservation is in version Two
abbrev pub IsEffect : Version → Effect → Type 0
IsEffect version (Set value) = value < 2 ^ 32
IsEffect version (Load n signed address) = n ≤ 4
IsEffect version (Store n address value) = ⊤
IsEffect version (Jump target) = target < 2 ^ 32
IsEffect version (LoadReserved address) = version ≡ Two
IsEffect version (StoreConditional address value) = version ≡ Two
IsEffect version (Modify address change) = ⊤
IsEffect version GuestCall = ⊤
IsEffect version Breakpoint = ⊤

-- a sum of words is a word
pub add_words-below : (a b : ℕ) → a +w b < 2 ^ 32
add_words-below a b = omega arith

one_if-below : (test : Bool) → one_if test < 2 ^ 32
one_if-below true = omega arith
one_if-below false = omega arith

even_part-below : (a : ℕ) → a < 2 ^ 32 → even_part a < 2 ^ 32
even_part-below a h = omega arith

-- a quotient of a word is a word
div-below : (a b : ℕ) → a < 2 ^ 32 → a / b < 2 ^ 32
div-below a b h = omega (arith, div-le_self a b)

mod-below : (a b : ℕ) → a < 2 ^ 32 → a % b < 2 ^ 32
mod-below a b h = omega (arith, mod-le a b)

-- what a test chooses is below what both are
if-below : (test : Bool) (x y bound : ℕ) → x < bound → y < bound → (if test then x else y) < bound
if-below true x y bound p q = p
if-below false x y bound p q = q

-- a number at most this far from 0 is a word
word_of-below : (z : ℤ) → unsigned_abs z < 2 ^ 32 → word_of z < 2 ^ 32
word_of-below (pos n) h = h
word_of-below (negsuc n) h = omega arith

-- a word as a signed number is at most 2 ^ 31 from 0
signed-abs : (word : ℕ) → word < 2 ^ 32 → unsigned_abs (signed word) ≤ 2 ^ 31
signed-abs word h = grind (arith, nat_tests)

-- a shift to the right brings a number nearer to 0
shr-abs : (z : ℤ) (n : ℕ) → unsigned_abs (int_shr z n) ≤ unsigned_abs z
shr-abs (pos a) n = div-le_self a (2 ^ n)
shr-abs (negsuc a) n = omega (arith, div-le_self a (2 ^ n))

shift_right_signed-below : (a n : ℕ) → a < 2 ^ 32 → shift_right_signed a n < 2 ^ 32
shift_right_signed-below a n h = word_of-below (int_shr (signed a) n) (omega (arith, shr-abs (signed a) n, signed-abs a h))

-- the high word of a number of two words
high_word-below : (z : ℤ) → unsigned_abs z < 2 ^ 64 → high_word z < 2 ^ 32
high_word-below (pos n) h = omega arith
high_word-below (negsuc n) h = omega arith

product-abs : (x y : ℤ) → unsigned_abs x ≤ 2 ^ 31 → unsigned_abs y < 2 ^ 32 → unsigned_abs (x *ℤ y) < 2 ^ 64
product-abs x y p q =
    let e = unsigned_abs-mul x y in
    let most : unsigned_abs x * unsigned_abs y ≤ 2 ^ 31 * 2 ^ 32 = mul-le-mul p (le_of_lt q) in
    omega (arith, e, most)

-- a number and its negative are as far from 0
neg-abs : (n : ℕ) → unsigned_abs (neg_ℤ (pos n)) ≡ n
neg-abs zero = refl
neg-abs (suc n) = refl

quotient_abs : (x y : ℤ) → unsigned_abs (int_div x y) ≤ unsigned_abs x
quotient_abs (pos a) (pos b) = div-le_self a b
quotient_abs (pos a) (negsuc b) = omega (arith, neg-abs (a / suc b), div-le_self a (suc b))
quotient_abs (negsuc a) (pos b) = omega (arith, neg-abs (suc a / b), div-le_self (suc a) b)
quotient_abs (negsuc a) (negsuc b) = div-le_self (suc a) (suc b)

quotient-below : (a b : ℕ) → a < 2 ^ 32 → quotient a b < 2 ^ 32
quotient-below a b h =
    if-below (b == 0) (2 ^ 32 - 1) (word_of (int_div (signed a) (signed b))) (2 ^ 32) (omega arith)
    (word_of-below (int_div (signed a) (signed b)) (omega (arith, quotient_abs (signed a) (signed b), signed-abs a h)))

quotient_unsigned-below : (a b : ℕ) → a < 2 ^ 32 → quotient_unsigned a b < 2 ^ 32
quotient_unsigned-below a b h = if-below (b == 0) (2 ^ 32 - 1) (a / b) (2 ^ 32) (omega arith) (div-below a b h)

remainder_abs : (x y : ℤ) → unsigned_abs (int_rem x y) ≤ unsigned_abs x
remainder_abs (pos a) y = mod-le a (unsigned_abs y)
remainder_abs (negsuc a) y = omega (arith, neg-abs (suc a % unsigned_abs y), mod-le (suc a) (unsigned_abs y))

remainder-below : (a b : ℕ) → a < 2 ^ 32 → remainder a b < 2 ^ 32
remainder-below a b h =
    if-below (b == 0) a (word_of (int_rem (signed a) (signed b))) (2 ^ 32) h
    (word_of-below (int_rem (signed a) (signed b)) (omega (arith, remainder_abs (signed a) (signed b), signed-abs a h)))

remainder_unsigned-below : (a b : ℕ) → a < 2 ^ 32 → remainder_unsigned a b < 2 ^ 32
remainder_unsigned-below a b h = if-below (b == 0) a (a % b) (2 ^ 32) h (mod-below a b h)

-- the high word of a product of words
high-below : (a b : ℕ) → a < 2 ^ 32 → b < 2 ^ 32 → a * b / 2 ^ 32 < 2 ^ 32
high-below a b ha hb =
    let p : a ≤ 2 ^ 32 - 1 = omega arith in
    let q : b ≤ 2 ^ 32 - 1 = omega arith in
    let most : a * b ≤ (2 ^ 32 - 1) * (2 ^ 32 - 1) = mul-le-mul p q in
    omega (arith, most)

branch-IsEffect : (version : Version) (test : Bool) (target : ℕ) → target < 2 ^ 32 → IsEffect version (branch test target)
branch-IsEffect version true target h = h
branch-IsEffect version false target h = omega arith

-- what needs the reservation is of version Two
reservation-Two : (version : Version) → is_of_version version LrW ≡ true → version ≡ Two
reservation-Two One h = let e : false ≡ true = h in absurd (cc)
reservation-Two Two h = refl

conditional-Two : (version : Version) → is_of_version version ScW ≡ true → version ≡ Two
conditional-Two One h = let e : false ≡ true = h in absurd (cc)
conditional-Two Two h = refl

-- the effect of each operation on words may be
pub effect-IsEffect : (version : Version) (op : Op) (pc a b i : ℕ) → is_of_version version op ≡ true → pc < 2 ^ 32 → a < 2 ^ 32 → b < 2 ^ 32 → i < 2 ^ 32 → IsEffect version (effect op pc a b i)
effect-IsEffect version Lui pc a b i h hpc ha hb hi = hi
effect-IsEffect version Auipc pc a b i h hpc ha hb hi = add_words-below pc i
effect-IsEffect version Jal pc a b i h hpc ha hb hi = add_words-below pc i
effect-IsEffect version Jalr pc a b i h hpc ha hb hi = even_part-below (a +w i) (add_words-below a i)
effect-IsEffect version Beq pc a b i h hpc ha hb hi = branch-IsEffect version (a == b) (pc +w i) (add_words-below pc i)
effect-IsEffect version Bne pc a b i h hpc ha hb hi = branch-IsEffect version (not (a == b)) (pc +w i) (add_words-below pc i)
effect-IsEffect version Blt pc a b i h hpc ha hb hi = branch-IsEffect version (int_lt (signed a) (signed b)) (pc +w i) (add_words-below pc i)
effect-IsEffect version Bge pc a b i h hpc ha hb hi = branch-IsEffect version (not (int_lt (signed a) (signed b))) (pc +w i) (add_words-below pc i)
effect-IsEffect version Bltu pc a b i h hpc ha hb hi = branch-IsEffect version (nat_lt a b) (pc +w i) (add_words-below pc i)
effect-IsEffect version Bgeu pc a b i h hpc ha hb hi = branch-IsEffect version (not (nat_lt a b)) (pc +w i) (add_words-below pc i)
effect-IsEffect version Lb pc a b i h hpc ha hb hi = omega arith
effect-IsEffect version Lh pc a b i h hpc ha hb hi = omega arith
effect-IsEffect version Lw pc a b i h hpc ha hb hi = omega arith
effect-IsEffect version Lbu pc a b i h hpc ha hb hi = omega arith
effect-IsEffect version Lhu pc a b i h hpc ha hb hi = omega arith
effect-IsEffect version Sb pc a b i h hpc ha hb hi = tt
effect-IsEffect version Sh pc a b i h hpc ha hb hi = tt
effect-IsEffect version Sw pc a b i h hpc ha hb hi = tt
effect-IsEffect version Addi pc a b i h hpc ha hb hi = add_words-below a i
effect-IsEffect version Slti pc a b i h hpc ha hb hi = one_if-below (int_lt (signed a) (signed i))
effect-IsEffect version Sltiu pc a b i h hpc ha hb hi = one_if-below (nat_lt a i)
effect-IsEffect version Xori pc a b i h hpc ha hb hi = xor_lt 32 a i ha hi
effect-IsEffect version Ori pc a b i h hpc ha hb hi = or_lt 32 a i ha hi
effect-IsEffect version Andi pc a b i h hpc ha hb hi = omega (arith, and_le_l a i)
effect-IsEffect version Slli pc a b i h hpc ha hb hi = mod_below (a * 2 ^ shift_amount i) (2 ^ 32) (omega arith)
effect-IsEffect version Srli pc a b i h hpc ha hb hi = div-below a (2 ^ shift_amount i) ha
effect-IsEffect version Srai pc a b i h hpc ha hb hi = shift_right_signed-below a (shift_amount i) ha
effect-IsEffect version Add pc a b i h hpc ha hb hi = add_words-below a b
effect-IsEffect version Sub pc a b i h hpc ha hb hi = mod_below (a + (2 ^ 32 - b)) (2 ^ 32) (omega arith)
effect-IsEffect version Sll pc a b i h hpc ha hb hi = mod_below (a * 2 ^ shift_amount b) (2 ^ 32) (omega arith)
effect-IsEffect version Slt pc a b i h hpc ha hb hi = one_if-below (int_lt (signed a) (signed b))
effect-IsEffect version Sltu pc a b i h hpc ha hb hi = one_if-below (nat_lt a b)
effect-IsEffect version Xor pc a b i h hpc ha hb hi = xor_lt 32 a b ha hb
effect-IsEffect version Srl pc a b i h hpc ha hb hi = div-below a (2 ^ shift_amount b) ha
effect-IsEffect version Sra pc a b i h hpc ha hb hi = shift_right_signed-below a (shift_amount b) ha
effect-IsEffect version Or pc a b i h hpc ha hb hi = or_lt 32 a b ha hb
effect-IsEffect version And pc a b i h hpc ha hb hi = omega (arith, and_le_l a b)
effect-IsEffect version Fence pc a b i h hpc ha hb hi = omega arith
effect-IsEffect version FenceI pc a b i h hpc ha hb hi = omega arith
effect-IsEffect version Ecall pc a b i h hpc ha hb hi = tt
effect-IsEffect version Ebreak pc a b i h hpc ha hb hi = tt
effect-IsEffect version Mul pc a b i h hpc ha hb hi = mod_below (a * b) (2 ^ 32) (omega arith)
effect-IsEffect version Mulh pc a b i h hpc ha hb hi = high_word-below (signed a *ℤ signed b) (product-abs (signed a) (signed b) (signed-abs a ha) (omega (arith, signed-abs b hb)))
effect-IsEffect version Mulhsu pc a b i h hpc ha hb hi = high_word-below (signed a *ℤ pos b) (product-abs (signed a) (pos b) (signed-abs a ha) hb)
effect-IsEffect version Mulhu pc a b i h hpc ha hb hi = high-below a b ha hb
effect-IsEffect version Div pc a b i h hpc ha hb hi = quotient-below a b ha
effect-IsEffect version Divu pc a b i h hpc ha hb hi = quotient_unsigned-below a b ha
effect-IsEffect version Rem pc a b i h hpc ha hb hi = remainder-below a b ha
effect-IsEffect version Remu pc a b i h hpc ha hb hi = remainder_unsigned-below a b ha
effect-IsEffect version LrW pc a b i h hpc ha hb hi = reservation-Two version h
effect-IsEffect version ScW pc a b i h hpc ha hb hi = conditional-Two version h
effect-IsEffect version AmoswapW pc a b i h hpc ha hb hi = tt
effect-IsEffect version AmoaddW pc a b i h hpc ha hb hi = tt
effect-IsEffect version AmoxorW pc a b i h hpc ha hb hi = tt
effect-IsEffect version AmoandW pc a b i h hpc ha hb hi = tt
effect-IsEffect version AmoorW pc a b i h hpc ha hb hi = tt
effect-IsEffect version AmominW pc a b i h hpc ha hb hi = tt
effect-IsEffect version AmomaxW pc a b i h hpc ha hb hi = tt
effect-IsEffect version AmominuW pc a b i h hpc ha hb hi = tt
effect-IsEffect version AmomaxuW pc a b i h hpc ha hb hi = tt

register-below : (shape : Shape) (m : Machine) (k : ℕ) → IsMachine shape m → register m k < 2 ^ 32
register-below shape m zero good = omega arith
register-below shape m (suc k) good = good.each_word k

-- n bytes are 8 n bits
pow_of_bytes : (n : ℕ) → (2 ^ 8) ^ n ≡ 2 ^ (8 * n)
pow_of_bytes zero = pow-zero 256
pow_of_bytes (suc n) =
    let ih = pow_of_bytes n in
    let e : 256 ^ suc n ≡ 256 ^ n * 256 = pow-suc 256 n in
    let k : 8 * suc n ≡ 8 * n + 8 = omega arith in
    let d : 2 ^ (8 * suc n) ≡ 2 ^ (8 * n) * 256 = ap (λ i. 2 ^ i) k ∙ pow-add 2 (8 * n) 8 in
    omega arith

-- a loaded number is below 2 ^ (8 n)
load-below : (shape : Shape) (m : Machine) (n address : ℕ) → IsMachine shape m → load shape m n address < 2 ^ (8 * n)
load-below shape m n address good =
    let bytes = drop (address - shape.base) m.memory in
    let below : number_of (take n bytes) < (2 ^ 8) ^ length (take n bytes) =
    number_of-below (take n bytes) (AreBytes-take n bytes (AreBytes-drop (address - shape.base) m.memory good.memory_bytes)) in
    let few : length (take n bytes) ≤ n = omega (arith, length-take n bytes) in
    let e : 2 ^ (8 * length (take n bytes)) ≡ (2 ^ 8) ^ length (take n bytes) = sym (pow_of_bytes (length (take n bytes))) in
    let most : 2 ^ (8 * length (take n bytes)) ≤ 2 ^ (8 * n) = pow_mono {i = 8 * length (take n bytes)} {j = 8 * n} (omega arith) in
    omega arith

-- a loaded number of at most four bytes, extended, is a word
loaded_word-below : (n number : ℕ) (signed : Bool) → n ≤ 4 → number < 2 ^ (8 * n) → loaded_word n signed number < 2 ^ 32
loaded_word-below n number true h small = sign_extend-below (8 * n) number (omega arith) small
loaded_word-below n number false h small = let most : 2 ^ (8 * n) ≤ 2 ^ 32 = pow_mono {i = 8 * n} {j = 32} (omega arith) in omega arith

-- ---- outcomes

-- what an outcome may be
abbrev pub IsOutcome : Shape → Outcome → Type 0
IsOutcome shape (Went list) = AreChanges shape list
IsOutcome shape Call = ⊤
IsOutcome shape (Faulted fault) = ⊤

-- changes at an atomic's word may be, if they may be where that word is in memory
atomic-IsOutcome : (shape : Shape) (m : Machine) (outside : FaultKind) (address : ℕ) (list : List Change) → (holds shape address 4 ≡ true → AreChanges shape list)
    → IsOutcome shape (atomic_outcome shape m outside address list)
atomic-IsOutcome shape m outside address list h =
    by_branch (IsOutcome shape) (not (is_aligned address)) (fault_outcome m AtomicMisaligned address) (if holds shape address 4 then Went list else fault_outcome m outside address) (λ e. tt)
    (λ e. by_branch (IsOutcome shape) (holds shape address 4) (Went list) (fault_outcome m outside address) h (λ f. tt))

-- a word stored is a change that may be
word-IsChange : (shape : Shape) (address value : ℕ) → holds shape address 4 ≡ true → IsChange shape (Memory address (bytes_of 4 value))
word-IsChange shape address value e = (ap (holds shape address) (length-bytes_of 4 value) ∙ e, AreBytes-bytes_of 4 value)

-- a word stored or not is changes that may be
stored-AreChanges : (shape : Shape) (address value : ℕ) (test : Bool) → holds shape address 4 ≡ true → AreChanges shape (if test then Memory address (bytes_of 4 value) ∷ [] else [])
stored-AreChanges shape address value true e = (word-IsChange shape address value e, tt)
stored-AreChanges shape address value false e = tt

-- a reservation made and given up
reserve-IsChange : (shape : Shape) (address : ℕ) → shape.version ≡ Two → IsChange shape (reserve address)
reserve-IsChange shape address e = (e, omega arith, AreBytes-append (bytes_of 4 address) (1 ∷ []) (AreBytes-bytes_of 4 address) one-AreBytes)

release-IsChange : (shape : Shape) → shape.version ≡ Two → IsChange shape release
release-IsChange shape e = (e, omega arith, zero-AreBytes)

-- changes that an effect comes to may be
pub outcome_of-IsOutcome : (shape : Shape) (m : Machine) (rd : ℕ) (e : Effect) → IsMachine shape m → rd ≤ 31 → IsEffect shape.version e → IsOutcome shape (outcome_of shape m rd e)
outcome_of-IsOutcome shape m rd (Set value) good hrd h = (add_words-below m.pc 4, ((hrd, h), tt))
outcome_of-IsOutcome shape m rd (Load n signed address) good hrd h =
    by_branch (IsOutcome shape) (holds shape address n) (Went (Pc (m.pc +w 4) ∷ Register rd (loaded_word n signed (load shape m n address)) ∷ [])) (fault_outcome m LoadOutside address)
    (λ e. (add_words-below m.pc 4, ((hrd, loaded_word-below n (load shape m n address) signed h (load-below shape m n address good)), tt))) (λ e. tt)
outcome_of-IsOutcome shape m rd (Store n address value) good hrd h =
    by_branch (IsOutcome shape) (holds shape address n) (Went (Pc (m.pc +w 4) ∷ Memory address (bytes_of n value) ∷ [])) (fault_outcome m StoreOutside address)
    (λ e. (add_words-below m.pc 4, ((ap (holds shape address) (length-bytes_of n value) ∙ e, AreBytes-bytes_of n value), tt))) (λ e. tt)
outcome_of-IsOutcome shape m rd (Jump target) good hrd h =
    by_branch (IsOutcome shape) (is_aligned target) (Went (Pc target ∷ Register rd (m.pc +w 4) ∷ [])) (fault_outcome m Misaligned target)
    (λ e. (h, ((hrd, add_words-below m.pc 4), tt))) (λ e. tt)
outcome_of-IsOutcome shape m rd (LoadReserved address) good hrd h =
    let old : load shape m 4 address < 2 ^ 32 = load-below shape m 4 address good in
    atomic-IsOutcome shape m LoadOutside address (Pc (m.pc +w 4) ∷ Register rd (load shape m 4 address) ∷ reserve address ∷ [])
    (λ e. (add_words-below m.pc 4, ((hrd, old), (reserve-IsChange shape address h, tt))))
outcome_of-IsOutcome shape m rd (StoreConditional address value) good hrd h =
    let reserved = is_reserved m address in
    atomic-IsOutcome shape m StoreOutside address
    (Pc (m.pc +w 4) ∷ Register rd (one_if (not reserved)) ∷ release ∷ (if reserved then Memory address (bytes_of 4 value) ∷ [] else []))
    (λ e. (add_words-below m.pc 4, ((hrd, one_if-below (not reserved)), (release-IsChange shape h, stored-AreChanges shape address value reserved e))))
outcome_of-IsOutcome shape m rd (Modify address change) good hrd h =
    let old : load shape m 4 address < 2 ^ 32 = load-below shape m 4 address good in
    atomic-IsOutcome shape m StoreOutside address
    (Pc (m.pc +w 4) ∷ Register rd (load shape m 4 address) ∷ Memory address (bytes_of 4 (change (load shape m 4 address))) ∷ [])
    (λ e. (add_words-below m.pc 4, ((hrd, old), (word-IsChange shape address (change (load shape m 4 address)) e, tt))))
outcome_of-IsOutcome shape m rd GuestCall good hrd h = tt
outcome_of-IsOutcome shape m rd Breakpoint good hrd h = tt

-- the effect of an instruction may be
pub effect_of-IsEffect : (shape : Shape) (m : Machine) (i : Instr) → IsMachine shape m → IsInstruction shape.version i → IsEffect shape.version (effect_of m i)
effect_of-IsEffect shape m i good h =
    effect-IsEffect shape.version (op_of i) m.pc (register m (rs1_of i)) (register m (rs2_of i)) (imm_of i) h.op good.pc
    (register-below shape m (rs1_of i) good) (register-below shape m (rs2_of i) good) h.imm

outcome_of_word-IsOutcome : (shape : Shape) (m : Machine) (i : Option Instr) → IsMachine shape m → IfInstruction shape.version i → IsOutcome shape (outcome_of_word shape m i)
outcome_of_word-IsOutcome shape m None good h = tt
outcome_of_word-IsOutcome shape m (Some i) good h =
    outcome_of-IsOutcome shape m (rd_of i) (effect_of m i) good h.rd (effect_of-IsEffect shape m i good h)

-- changes that a step comes to may be
pub outcome-IsOutcome : (shape : Shape) (m : Machine) → IsMachine shape m → IsOutcome shape (outcome shape m)
unfolding outcome
outcome-IsOutcome shape m good =
    let run = outcome_of_word shape m (decode shape.version (fetch shape m)) in
    by_branch (IsOutcome shape) (not (is_aligned m.pc)) (fault_outcome m Misaligned m.pc) (if not (holds shape m.pc 4) then fault_outcome m FetchOutside m.pc else run) (λ e. tt)
    (λ e. by_branch (IsOutcome shape) (not (holds shape m.pc 4)) (fault_outcome m FetchOutside m.pc) run (λ e. tt)
    (λ e. outcome_of_word-IsOutcome shape m (decode shape.version (fetch shape m)) good (decode-IsInstruction shape.version (fetch shape m))))

-- ---- the next state

-- each change that a step comes to may be
pub outcome-AreChanges : (s : State) (list : List Change) → IsState s → outcome s.shape (view_of s) ≡ Went list → AreChanges s.shape list
outcome-AreChanges s list good e = subst (IsOutcome s.shape) e (outcome-IsOutcome s.shape (view_of s) (IsMachine-view_of s good))

-- a step that goes on writes its changes into the state
pub next-goes : (s : State) (list : List Change) → IsState s → outcome s.shape (view_of s) ≡ Went list → next s ≡ Went (record s { bytes = bytes_after s.bytes (writes s) })
unfolding next writes
next-goes s list good e =
    ap (next_of s.shape (view_of s)) e
    ∙ ap Went (state_of-after_changes s list good (outcome-AreChanges s list good e))
    ∙ ap (λ o. Went (record s { bytes = bytes_after s.bytes (cells_of_outcome s.shape o) })) (sym e)

pub next-calls : (s : State) → outcome s.shape (view_of s) ≡ Call → next s ≡ Call
unfolding next
next-calls s e = ap (next_of s.shape (view_of s)) e

pub next-fails : (s : State) (fault : Fault) → outcome s.shape (view_of s) ≡ Faulted fault → next s ≡ Faulted fault
unfolding next
next-fails s fault e = ap (next_of s.shape (view_of s)) e

pub writes-calls : (s : State) → outcome s.shape (view_of s) ≡ Call → writes s ≡ []
unfolding writes
writes-calls s e = ap (cells_of_outcome s.shape) e

pub writes-fails : (s : State) (fault : Fault) → outcome s.shape (view_of s) ≡ Faulted fault → writes s ≡ []
unfolding writes
writes-fails s fault e = ap (cells_of_outcome s.shape) e
