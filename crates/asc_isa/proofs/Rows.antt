-- Lemmas on which instruction a word is.
use Rattle.std.proofs.Common.{◌≡◌, ℕ, Bool, true, false, cond, ◌||◌, ◌&&◌, eqb, List, [], ◌∷◌, ◌++◌, Some, None, IfSome, ap, ◌∙◌, sym, refl, subst, inl, inr, arith}
use Rattle.std.proofs.lemmas.Bool.{and_parts, eqb-true, eq-eqb, cases_Bool, both_ways, cond-true, cond-false}
use Rattle.asc_model.specs.declared.version.Version.{Version}
use Rattle.asc_model.specs.declared.instruction.Op.{Op}
use Rattle.asc_model.specs.Instruction.{Pattern, Major, Minor, Full, Atomic, AtomicLoad, Whole, Row, Format, U, J, I, Shift, S, B, R, Plain, decode, find, table, base_table, atomic_table, fits, opcode, funct3, operands}
use Rattle.asc_isa.specs.Decode.{version_of, HasRegisters}
use Rattle.asc_isa.specs.Rows.{opcode_of, is_at, meets, rows_for}

-- a word that a row is for has the row's opcode
pub fits-opcode : (key : Pattern) (word : ℕ) → fits key word ≡ true → opcode word ≡ opcode_of key
fits-opcode (Major major) word h = eqb-true _ _ h
fits-opcode (Minor major minor) word h = eqb-true _ _ (and_parts _ _ h).0
fits-opcode (Full major minor funct) word h = eqb-true _ _ (and_parts _ _ (and_parts _ _ h).0).0
fits-opcode (Atomic funct) word h = eqb-true _ _ (and_parts _ _ (and_parts _ _ h).0).0
fits-opcode (AtomicLoad funct) word h = eqb-true _ _ (and_parts _ _ (and_parts _ _ (and_parts _ _ h).0).0).0
fits-opcode (Whole whole) word h = ap opcode (eqb-true _ _ h)

both-true : (a b : Bool) → a ≡ true → b ≡ true → a && b ≡ true
both-true true b x y = y
both-true false b x y = cc

at-whole : (whole word : ℕ) → word ≡ whole → is_at (Whole whole) (opcode word) (funct3 word) ≡ true
at-whole whole word e = both-true _ _ (eq-eqb _ _ (ap opcode e)) (eq-eqb _ _ (ap funct3 e))

-- a row that is for a word is for words of its opcode and funct3
pub fits-at : (key : Pattern) (word : ℕ) → fits key word ≡ true → is_at key (opcode word) (funct3 word) ≡ true
fits-at (Major major) word h = h
fits-at (Minor major minor) word h = h
fits-at (Full major minor funct) word h = (and_parts _ _ h).0
fits-at (Atomic funct) word h = (and_parts _ _ h).0
fits-at (AtomicLoad funct) word h = (and_parts _ _ (and_parts _ _ h).0).0
fits-at (Whole whole) word h = at-whole whole word (eqb-true _ _ h)

-- a row that is for a word of a key may be
fits-meets : (key row : Pattern) (word : ℕ) → fits key word ≡ true → fits row word ≡ true → meets key row ≡ true
fits-meets (Major major) row word h r = eq-eqb _ _ (sym (eqb-true _ _ h) ∙ fits-opcode row word r)
fits-meets (Minor major minor) row word h r =
    let parts = and_parts _ _ h in
    subst (λ o. is_at row o minor ≡ true) (eqb-true _ _ parts.0)
    (subst (λ f. is_at row (opcode word) f ≡ true) (eqb-true _ _ parts.1) (fits-at row word r))
fits-meets (Full major minor funct) row word h r = refl
fits-meets (Atomic funct) row word h r = refl
fits-meets (AtomicLoad funct) row word h r = refl
fits-meets (Whole whole) row word h r = refl

-- the rows that may be for a word are enough
pub find-rows_for : (key : Pattern) (rows : List Row) (word : ℕ) → fits key word ≡ true → find (rows_for key rows) word ≡ find rows word
find-rows_for key [] word h = refl
find-rows_for key (row ∷ rows) word h = elim (cases_Bool (meets key row.pattern)) [
  | inl m ↦ ap (λ kept. find kept word) (cond-true _ (row ∷ rows_for key rows) (rows_for key rows) m)
      ∙ ap (cond (fits row.pattern word) (Some (operands row.format row.op word))) (find-rows_for key rows word h)
  | inr m ↦ ap (λ kept. find kept word) (cond-false _ (row ∷ rows_for key rows) (rows_for key rows) m)
      ∙ find-rows_for key rows word h ∙ elim (cases_Bool (fits row.pattern word)) [
        | inl f ↦ absurd (both_ways (meets key row.pattern) m (fits-meets key row.pattern word h f))
        | inr f ↦ sym (cond-false _ (Some (operands row.format row.op word)) (find rows word) f)
      ]
]

-- a word of a key that no atomic has is the same in both versions
pub decode-for : (atomics : Bool) (key : Pattern) (word : ℕ) → rows_for key (table (version_of true)) ≡ rows_for key base_table → fits key word ≡ true → find (rows_for key base_table) word ≡ decode (version_of atomics) word
unfolding decode
decode-for false key word e h = find-rows_for key base_table word h
decode-for true key word e h = ap (λ rows. find rows word) (sym e) ∙ find-rows_for key (base_table ++ atomic_table) word h

-- a word of a key that only atomics have is one in version Two
pub decode-atomic : (atomics : Bool) (key : Pattern) (word : ℕ) → rows_for key (table (version_of true)) ≡ rows_for key atomic_table → atomics ≡ true → fits key word ≡ true → find (rows_for key atomic_table) word ≡ decode (version_of atomics) word
unfolding decode
decode-atomic false key word e a h = cc
decode-atomic true key word e a h = ap (λ rows. find rows word) (sym e) ∙ find-rows_for key (base_table ++ atomic_table) word h

-- a number of the list
abbrev pub is_one_of : ℕ → List ℕ → Bool
is_one_of n [] = false
is_one_of n (x ∷ xs) = eqb x n || is_one_of n xs

-- each row's opcode is one of these
abbrev pub covered : List ℕ → List Row → Bool
covered ops [] = true
covered ops (row ∷ rows) = is_one_of (opcode_of row.pattern) ops && covered ops rows

-- no row is for a word of another opcode
find-other : (ops : List ℕ) (rows : List Row) (word : ℕ) → covered ops rows ≡ true → is_one_of (opcode word) ops ≡ false → find rows word ≡ None
find-other ops [] word h o = refl
find-other ops (row ∷ rows) word h o =
    let parts = and_parts _ _ h in
    elim (cases_Bool (fits row.pattern word)) [
      | inl e ↦ absurd (both_ways (is_one_of (opcode word) ops) o (ap (λ n. is_one_of n ops) (fits-opcode row.pattern word e) ∙ parts.0))
      | inr e ↦ cond-false _ _ _ e ∙ find-other ops rows word parts.1 o
    ]

-- the opcodes of the table, those of the base first
abbrev pub base_opcodes : List ℕ
base_opcodes =
    0b0110111 ∷ 0b0010111 ∷ 0b1101111 ∷ 0b1100111 ∷ 0b1100011 ∷ 0b0000011 ∷ 0b0100011 ∷ 0b0010011 ∷ 0b0110011
    ∷ 0b0001111 ∷ 0b1110011 ∷ []

-- without the atomics a word of their opcode is no instruction
pub decode-no_atomic : (atomics : Bool) (word : ℕ) → atomics ≡ false → opcode word ≡ 0b0101111 → None ≡ decode (version_of atomics) word
unfolding decode
decode-no_atomic false word a h = sym (find-other base_opcodes base_table word refl (ap (λ n. is_one_of n base_opcodes) h))
decode-no_atomic true word a h = cc

-- ---- registers

-- the registers of a word are registers
operands-registers : (format : Format) (op : Op) (word : ℕ) → HasRegisters (operands format op word)
operands-registers U op word = record { rd = omega arith; rs1 = omega arith; rs2 = omega arith }
operands-registers J op word = record { rd = omega arith; rs1 = omega arith; rs2 = omega arith }
operands-registers I op word = record { rd = omega arith; rs1 = omega arith; rs2 = omega arith }
operands-registers Shift op word = record { rd = omega arith; rs1 = omega arith; rs2 = omega arith }
operands-registers S op word = record { rd = omega arith; rs1 = omega arith; rs2 = omega arith }
operands-registers B op word = record { rd = omega arith; rs1 = omega arith; rs2 = omega arith }
operands-registers R op word = record { rd = omega arith; rs1 = omega arith; rs2 = omega arith }
operands-registers Plain op word = record { rd = omega arith; rs1 = omega arith; rs2 = omega arith }

find-registers : (rows : List Row) (word : ℕ) → IfSome (find rows word) HasRegisters
find-registers [] word = tt
find-registers (row ∷ rows) word = elim (cases_Bool (fits row.pattern word)) [
  | inl h ↦ subst (λ i. IfSome i HasRegisters) (sym (cond-true _ (Some (operands row.format row.op word)) (find rows word) h))
      (operands-registers row.format row.op word)
  | inr h ↦ subst (λ i. IfSome i HasRegisters) (sym (cond-false _ (Some (operands row.format row.op word)) (find rows word) h))
      (find-registers rows word)
]

-- the registers of an instruction are registers
pub decode-registers : (version : Version) (word : ℕ) → IfSome (decode version word) HasRegisters
unfolding decode
decode-registers version word = find-registers (table version) word
