-- Lemmas on the encodings of words.
use Rattle.std.proofs.Common.{◌≡◌, ℕ, zero, suc, ◌+◌, ◌<◌, Bool, true, false, cond, ◌&&◌, eqb, List, [], ◌∷◌, ◌++◌, length, Option, Some, None, ap, ◌∙◌, sym, refl, subst, inl, inr, arith}
use Rattle.std.specs.Prelude.{if◌then◌else◌}
use Rattle.std.proofs.lemmas.Bool.{and_parts, eqb-true, cases_Bool, both_ways, cond-true, cond-false}
use Rattle.std.proofs.Math.ListN.{get_or}
use Rattle.asc_model.specs.declared.version.Version.TheVariants.{Two}
use Rattle.asc_model.specs.declared.instruction.Op.{Op}
use Rattle.asc_model.specs.declared.instruction.Instr.{Instr}
use Rattle.asc_model.specs.Instruction.{Pattern, Major, Minor, Full, Atomic, AtomicLoad, Whole, Row, Format, decode, find, table, base_table, atomic_table, fits, opcode, funct3, funct7, operands}
use Rattle.asc_isa.specs.Decode.{version_of}
use Rattle.asc_isa.specs.declared.encoding.Encoding.{Encoding}
use Rattle.asc_isa.specs.Encodings.{pattern_of, IsFor, IsOfEncoding}
use Rattle.asc_isa.specs.Rows.{is_at, rows_for}
use Rattle.asc_isa.proofs.Rows.{fits-at, decode-for}

-- ---- a table by position

-- each element has a property of its position, counted from n
abbrev pub each : {X : Type 0} → (ℕ → X → Bool) → ℕ → List X → Bool
each p n [] = true
each p n (x ∷ xs) = p n x && each p (suc n) xs

n-is : (n : ℕ) → n ≡ n + 0
n-is n = omega arith

each-get_or : {X : Type 0} (p : ℕ → X → Bool) (n : ℕ) (xs : List X) (i : ℕ) (d : X) → each p n xs ≡ true → i < length xs → p (n + i) (get_or xs i d) ≡ true
each-get_or p n [] i d h l = absurd (omega arith)
each-get_or p n (x ∷ xs) zero d h l = subst (λ m. p m x ≡ true) (n-is n) (and_parts _ _ h).0
each-get_or p n (x ∷ xs) (suc i) d h l = subst (λ m. p m (get_or xs i d) ≡ true) (omega arith) (each-get_or p (suc n) xs i d (and_parts _ _ h).1 (omega arith))

-- ---- the encodings by opcode and funct3

-- no row is for words of this opcode and funct3
abbrev pub none_at : ℕ → ℕ → List Row → Bool
none_at o f [] = true
none_at o f (row ∷ rows) = (if is_at row.pattern o f then false else true) && none_at o f rows

find-none : (rows : List Row) (word : ℕ) → none_at (opcode word) (funct3 word) rows ≡ true → None ≡ find rows word
find-none [] word h = refl
find-none (row ∷ rows) word h =
    let parts = and_parts _ _ h in
    elim (cases_Bool (fits row.pattern word)) [
      | inl e ↦ absurd (both_ways (if is_at row.pattern (opcode word) (funct3 word) then false else true) (cond-true _ false true (fits-at row.pattern word e)) parts.0)
      | inr e ↦ find-none rows word parts.1 ∙ sym (cond-false _ (Some (operands row.format row.op word)) _ e)
    ]

-- an encoding's key is for words of this opcode and funct3, or no instruction is
abbrev pub agrees_key : Option Pattern → ℕ → ℕ → Bool
agrees_key None o f = none_at o f (table Two)
agrees_key (Some (Major major)) o f = eqb o major
agrees_key (Some (Minor major minor)) o f = eqb o major && eqb f minor
agrees_key (Some (Full major minor funct)) o f = false
agrees_key (Some (Atomic funct)) o f = false
agrees_key (Some (AtomicLoad funct)) o f = false
agrees_key (Some (Whole whole)) o f = false

agrees-for : (key : Option Pattern) (word : ℕ) → agrees_key key (opcode word) (funct3 word) ≡ true → IsFor key word
unfolding decode
agrees-for None word h = find-none (table Two) word h
agrees-for (Some (Major major)) word h = h
agrees-for (Some (Minor major minor)) word h = h
agrees-for (Some (Full major minor funct)) word h = cc
agrees-for (Some (Atomic funct)) word h = cc
agrees-for (Some (AtomicLoad funct)) word h = cc
agrees-for (Some (Whole whole)) word h = cc

abbrev pub agrees : ℕ → ℕ → Encoding → Bool
agrees o f encoding = agrees_key (pattern_of encoding) o f

abbrev pub agrees_row : ℕ → List Encoding → Bool
agrees_row o row = eqb (length row) 8 && each (agrees o) 0 row

zero-plus : (n : ℕ) → 0 + n ≡ n
zero-plus n = omega arith

-- the encoding that stands in a table for a word
pub table-encoding : (all : List (List Encoding)) (word : ℕ) (d : Encoding) → length all ≡ 128 → each agrees_row 0 all ≡ true → IsOfEncoding (get_or (get_or all (opcode word) []) (funct3 word) d) word
table-encoding all word d l h =
    let row = and_parts _ _ (subst (λ o. agrees_row o (get_or all (opcode word) []) ≡ true) (zero-plus (opcode word))
    (each-get_or agrees_row 0 all (opcode word) [] h (omega arith))) in
    let long : length (get_or all (opcode word) []) ≡ 8 = eqb-true _ _ row.0 in
    agrees-for (pattern_of (get_or (get_or all (opcode word) []) (funct3 word) d)) word
    (subst (λ f. agrees (opcode word) f (get_or (get_or all (opcode word) []) (funct3 word) d) ≡ true) (zero-plus (funct3 word))
    (each-get_or (agrees (opcode word)) 0 (get_or all (opcode word) []) (funct3 word) d row.1 (omega arith)))

-- ---- the rows of an encoding

-- where one row is left, which asks for no more
pub decode-only : (atomics : Bool) (key : Pattern) (format : Format) (op : Op) (word : ℕ) → rows_for key (table (version_of true)) ≡ rows_for key base_table → rows_for key base_table ≡ record { pattern = key; format = format; op = op } ∷ [] → fits key word ≡ true → Some (operands format op word) ≡ decode (version_of atomics) word
decode-only atomics key format op word e only h =
    sym (cond-true (fits key word) (Some (operands format op word)) None h)
    ∙ ap (λ rows. find rows word) (sym only) ∙ decode-for atomics key word e h

none-first : (rows more : List Row) (word : ℕ) → None ≡ find (rows ++ more) word → None ≡ find rows word
none-first [] more word h = refl
none-first (row ∷ rows) more word h = elim (cases_Bool (fits row.pattern word)) [
  | inl f ↦ h ∙ cond-true _ (Some (operands row.format row.op word)) (find (rows ++ more) word) f ∙ sym (cond-true _ (Some (operands row.format row.op word)) (find rows word) f)
  | inr f ↦ none-first rows more word (h ∙ cond-false _ (Some (operands row.format row.op word)) (find (rows ++ more) word) f)
      ∙ sym (cond-false _ (Some (operands row.format row.op word)) (find rows word) f)
]

-- a word that is no instruction with the atomics is none without
pub decode-none : (atomics : Bool) (word : ℕ) → None ≡ decode Two word → None ≡ decode (version_of atomics) word
unfolding decode
decode-none false word h = none-first base_table atomic_table word h
decode-none true word h = h

-- ---- rows that funct7 tells apart

abbrev pub by_funct7 : Format → (major minor : ℕ) → List (ℕ × Op) → List Row
by_funct7 format major minor [] = []
by_funct7 format major minor (choice ∷ more) =
    record { pattern = Full major minor choice.0; format = format; op = choice.1 } ∷ by_funct7 format major minor more

abbrev pub chosen : Format → List (ℕ × Op) → ℕ → Option Instr
chosen format [] word = None
chosen format (choice ∷ more) word =
    if eqb (funct7 word) choice.0 then Some (operands format choice.1 word) else chosen format more word

chosen-find : (format : Format) (major minor word : ℕ) (choices : List (ℕ × Op)) → fits (Minor major minor) word ≡ true → chosen format choices word ≡ find (by_funct7 format major minor choices) word
chosen-find format major minor word [] h = refl
chosen-find format major minor word (choice ∷ more) h =
    ap (cond (eqb (funct7 word) choice.0) (Some (operands format choice.1 word))) (chosen-find format major minor word more h)
    ∙ ap (λ first. cond (first && eqb (funct7 word) choice.0) (Some (operands format choice.1 word)) (find (by_funct7 format major minor more) word)) (sym h)

pub decode-chosen : (atomics : Bool) (format : Format) (major minor word : ℕ) (choices : List (ℕ × Op)) → rows_for (Minor major minor) (table (version_of true)) ≡ rows_for (Minor major minor) base_table → rows_for (Minor major minor) base_table ≡ by_funct7 format major minor choices → fits (Minor major minor) word ≡ true → chosen format choices word ≡ decode (version_of atomics) word
decode-chosen atomics format major minor word choices e rows h =
    chosen-find format major minor word choices h ∙ ap (λ kept. find kept word) (sym rows) ∙ decode-for atomics (Minor major minor) word e h
