-- No word is for two rows of a table: a test of its keys, which is computed, shows it. A longer table needs nothing new.
-- A new kind of key needs its clauses of `asked` and `fits-IsAsked`; a new field its clauses there and in `field_of`, and
-- its part of `keys_differ` and `no-keys_differ`.
use Rattle.std.proofs.Common.{◌≡◌, ℕ, Bool, true, false, not, ◌&&◌, ◌||◌, ◌==◌, List, [], ◌∷◌, Option, Some, None, refl, sym, ap, ◌∙◌, arith}
use Rattle.std.specs.Prelude.{All, AllPairs}
use Rattle.std.proofs.lemmas.Bool.{and_parts, eqb-true, eq-eqb}
use Rattle.std.proofs.lemmas.List.Elements.{All-nil, All-cons}
use Rattle.std.proofs.lemmas.List.Kept.{AllPairs-cons}
use Rattle.asc_model.specs.declared.version.Version.TheVariants.{One, Two}
use Rattle.asc_model.specs.Instruction.{opcode, funct3, funct5, funct7, rs2, atomic_opcode, word_width, Pattern, Major, Minor, Full, Atomic, AtomicLoad, Whole, fits, Row, table}
use Rattle.asc_model.specs.Laws.{ShareNoWord, RowsDiffer}

-- the parts of a word of which a key may ask a value
data Field : Type 0 where
  Opcode Funct3 Funct7 Funct5 Rs2 Word : Field

-- the value of a field in a word
abbrev field_of : Field → ℕ → ℕ
field_of Opcode word = opcode word
field_of Funct3 word = funct3 word
field_of Funct7 word = funct7 word
field_of Funct5 word = funct5 word
field_of Rs2 word = rs2 word
field_of Word word = word

-- the value that a key asks of a field, if it asks for one
abbrev asked : Pattern → Field → Option ℕ
asked (Major major) Opcode = Some major
asked (Major major) Funct3 = None
asked (Major major) Funct7 = None
asked (Major major) Funct5 = None
asked (Major major) Rs2 = None
asked (Major major) Word = None
asked (Minor major minor) Opcode = Some major
asked (Minor major minor) Funct3 = Some minor
asked (Minor major minor) Funct7 = None
asked (Minor major minor) Funct5 = None
asked (Minor major minor) Rs2 = None
asked (Minor major minor) Word = None
asked (Full major minor funct) Opcode = Some major
asked (Full major minor funct) Funct3 = Some minor
asked (Full major minor funct) Funct7 = Some funct
asked (Full major minor funct) Funct5 = None
asked (Full major minor funct) Rs2 = None
asked (Full major minor funct) Word = None
asked (Atomic funct) Opcode = Some atomic_opcode
asked (Atomic funct) Funct3 = Some word_width
asked (Atomic funct) Funct7 = None
asked (Atomic funct) Funct5 = Some funct
asked (Atomic funct) Rs2 = None
asked (Atomic funct) Word = None
asked (AtomicLoad funct) Opcode = Some atomic_opcode
asked (AtomicLoad funct) Funct3 = Some word_width
asked (AtomicLoad funct) Funct7 = None
asked (AtomicLoad funct) Funct5 = Some funct
asked (AtomicLoad funct) Rs2 = Some 0
asked (AtomicLoad funct) Word = None
asked (Whole word) field = Some (field_of field word)

-- a field's value is the one asked for, if there is one
abbrev IsAsked : ℕ → Option ℕ → Type 0
IsAsked value None = Unit {0}
IsAsked value (Some asked) = value ≡ asked

-- two, three and four tests that a word passes
two : (a b : Bool) → a && b ≡ true → (a ≡ true) × (b ≡ true)
two a b h = and_parts a b h

three : (a b c : Bool) → a && b && c ≡ true → (a ≡ true) × (b ≡ true) × (c ≡ true)
three true true true h = (refl, refl, refl)
three true true false h = absurd (cc)
three true false c h = absurd (cc)
three false b c h = absurd (cc)

four : (a b c d : Bool) → a && b && c && d ≡ true → (a ≡ true) × (b ≡ true) × (c ≡ true) × (d ≡ true)
four true true true true h = (refl, refl, refl, refl)
four true true true false h = absurd (cc)
four true true false d h = absurd (cc)
four true false c d h = absurd (cc)
four false b c d h = absurd (cc)

-- a word that fits a key has each field as asked
fits-IsAsked : (key : Pattern) (word : ℕ) → fits key word ≡ true → (field : Field) → IsAsked (field_of field word) (asked key field)
fits-IsAsked (Major major) word h Opcode = eqb-true _ _ h
fits-IsAsked (Major major) word h Funct3 = tt
fits-IsAsked (Major major) word h Funct7 = tt
fits-IsAsked (Major major) word h Funct5 = tt
fits-IsAsked (Major major) word h Rs2 = tt
fits-IsAsked (Major major) word h Word = tt
fits-IsAsked (Minor major minor) word h Opcode = eqb-true _ _ (two (opcode word == major) (funct3 word == minor) h).0
fits-IsAsked (Minor major minor) word h Funct3 = eqb-true _ _ (two (opcode word == major) (funct3 word == minor) h).1
fits-IsAsked (Minor major minor) word h Funct7 = tt
fits-IsAsked (Minor major minor) word h Funct5 = tt
fits-IsAsked (Minor major minor) word h Rs2 = tt
fits-IsAsked (Minor major minor) word h Word = tt
fits-IsAsked (Full major minor funct) word h Opcode = eqb-true _ _ (three (opcode word == major) (funct3 word == minor) (funct7 word == funct) h).0
fits-IsAsked (Full major minor funct) word h Funct3 = eqb-true _ _ (three (opcode word == major) (funct3 word == minor) (funct7 word == funct) h).1
fits-IsAsked (Full major minor funct) word h Funct7 = eqb-true _ _ (three (opcode word == major) (funct3 word == minor) (funct7 word == funct) h).2
fits-IsAsked (Full major minor funct) word h Funct5 = tt
fits-IsAsked (Full major minor funct) word h Rs2 = tt
fits-IsAsked (Full major minor funct) word h Word = tt
fits-IsAsked (Atomic funct) word h Opcode = eqb-true _ _ (three (opcode word == atomic_opcode) (funct3 word == word_width) (funct5 word == funct) h).0
fits-IsAsked (Atomic funct) word h Funct3 = eqb-true _ _ (three (opcode word == atomic_opcode) (funct3 word == word_width) (funct5 word == funct) h).1
fits-IsAsked (Atomic funct) word h Funct7 = tt
fits-IsAsked (Atomic funct) word h Funct5 = eqb-true _ _ (three (opcode word == atomic_opcode) (funct3 word == word_width) (funct5 word == funct) h).2
fits-IsAsked (Atomic funct) word h Rs2 = tt
fits-IsAsked (Atomic funct) word h Word = tt
fits-IsAsked (AtomicLoad funct) word h Opcode = eqb-true _ _ (four (opcode word == atomic_opcode) (funct3 word == word_width) (funct5 word == funct) (rs2 word == 0) h).0
fits-IsAsked (AtomicLoad funct) word h Funct3 = eqb-true _ _ (four (opcode word == atomic_opcode) (funct3 word == word_width) (funct5 word == funct) (rs2 word == 0) h).1
fits-IsAsked (AtomicLoad funct) word h Funct7 = tt
fits-IsAsked (AtomicLoad funct) word h Funct5 = eqb-true _ _ (four (opcode word == atomic_opcode) (funct3 word == word_width) (funct5 word == funct) (rs2 word == 0) h).2
fits-IsAsked (AtomicLoad funct) word h Rs2 = eqb-true _ _ (four (opcode word == atomic_opcode) (funct3 word == word_width) (funct5 word == funct) (rs2 word == 0) h).3
fits-IsAsked (AtomicLoad funct) word h Word = tt
fits-IsAsked (Whole whole) word h field = ap (field_of field) (eqb-true word whole h)

-- whether two keys ask for two values of one field
abbrev conflict : Option ℕ → Option ℕ → Bool
conflict None b = false
conflict (Some a) None = false
conflict (Some a) (Some b) = not (a == b)

-- whether two keys ask for two values of some field
abbrev keys_differ : Pattern → Pattern → Bool
keys_differ a b =
    conflict (asked a Opcode) (asked b Opcode) || conflict (asked a Funct3) (asked b Funct3) || conflict (asked a Funct7) (asked b Funct7)
    || conflict (asked a Funct5) (asked b Funct5) || conflict (asked a Rs2) (asked b Rs2) || conflict (asked a Word) (asked b Word)

-- one value is not as two ask that differ
no-conflict : (value : ℕ) (a b : Option ℕ) → IsAsked value a → IsAsked value b → conflict a b ≡ false
no-conflict value None b p q = refl
no-conflict value (Some a) None p q = refl
no-conflict value (Some a) (Some b) p q = ap not (eq-eqb a b (sym p ∙ q))

-- keys that a word fits ask for the same
no-keys_differ : (a b : Pattern) (word : ℕ) → fits a word ≡ true → fits b word ≡ true → keys_differ a b ≡ false
no-keys_differ a b word p q =
    let agree = λ (field : Field). no-conflict (field_of field word) (asked a field) (asked b field) (fits-IsAsked a word p field) (fits-IsAsked b word q field) in
    rw (agree Opcode, agree Funct3, agree Funct7, agree Funct5, agree Rs2, agree Word) refl

-- rows whose keys differ share no word
ShareNoWord-keys_differ : (a b : Row) → keys_differ a.pattern b.pattern ≡ true → ShareNoWord a b
ShareNoWord-keys_differ a b h word p q = let e : true ≡ false = sym h ∙ no-keys_differ a.pattern b.pattern word p q in absurd (cc)

-- whether a row's key differs from each of the rows' keys
abbrev differs : Row → List Row → Bool
differs first [] = true
differs first (row ∷ rows) = keys_differ first.pattern row.pattern && differs first rows

-- whether the keys of each two rows differ
abbrev all_differ : List Row → Bool
all_differ [] = true
all_differ (first ∷ rows) = differs first rows && all_differ rows

-- a row whose key differs from theirs shares no word with any of the rows
All-differs : (first : Row) (rows : List Row) → differs first rows ≡ true → All (ShareNoWord first) rows
All-differs first [] h = All-nil (ShareNoWord first)
All-differs first (row ∷ rows) h =
    let both = and_parts (keys_differ first.pattern row.pattern) (differs first rows) h in
    All-cons (ShareNoWord first) row rows (ShareNoWord-keys_differ first row both.0) (All-differs first rows both.1)

-- rows whose keys all differ share no word
AllPairs-all_differ : (rows : List Row) → all_differ rows ≡ true → AllPairs ShareNoWord rows
AllPairs-all_differ [] h = λ i j d below inside. absurd (omega arith)
AllPairs-all_differ (first ∷ rows) h =
    let both = and_parts (differs first rows) (all_differ rows) h in
    AllPairs-cons ShareNoWord first rows (All-differs first rows both.0) (AllPairs-all_differ rows both.1)

-- the tables pass the test
pub rows_differ : RowsDiffer
rows_differ One = AllPairs-all_differ (table One) refl
rows_differ Two = AllPairs-all_differ (table Two) refl
