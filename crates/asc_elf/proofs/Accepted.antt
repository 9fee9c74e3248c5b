-- Lemmas on what no fault says of a file, and on the place of its segments.
use Rattle.std.proofs.Common.{◌≡◌, ℕ, suc, ◌+◌, ◌*◌, ◌<◌, ◌≤◌, Bool, true, false, not, cond, ◌||◌, nat_lt, List, [], ◌∷◌, ◌++◌, length, Option, Some, None, is_some, refl, sym, ap, ◌∙◌, arith}
use Rattle.std.specs.List.{All, filter, list_any, position_or_len}
use Rattle.std.specs.Option.{option_or}
use Rattle.std.proofs.lemmas.Bool.Decides.{nat_tests}
use Rattle.std.proofs.lemmas.List.Elements.{All-cons, All-nil}
use Rattle.asc_model.specs.Shape.{Shape}
use Rattle.asc_elf.specs.declared.fault.ElfFault.{ElfFault}
use Rattle.asc_elf.specs.File.{e_phoff, e_phnum, Header, headers, is_segment, segments}
use Rattle.asc_model.specs.Case.{Case, first_fault}
use Rattle.asc_elf.specs.Image.{header_cases, table_cases, segment_cases, layout_cases, cases, is_interp, is_cut, cut_header, lowest_address, highest_end, shape_for, stack_of}
use Rattle.asc_elf.specs.Checked.{HasTable, IsWhole, HasPlace}
use Rattle.asc_model.proofs.Cases.{first_fault-append}

-- none of three cases stands
three_none : (a b c : Bool) (f g h : ElfFault) → cond a (Some f) (cond b (Some g) (cond c (Some h) None)) ≡ None → (a ≡ false) × (b ≡ false) × (c ≡ false)
three_none false false false f g h e = (refl, refl, refl)
three_none true b c f g h e = cc
three_none false true c f g h e = cc
three_none false false true f g h e = cc

-- neither of two has a fault
both_none : (a b : Option ElfFault) → option_or a b ≡ None → (a ≡ None) × (b ≡ None)
both_none None b e = (refl, e)
both_none (Some fault) b e = cc

-- neither of two lists of cases has a fault
first_fault-append_none : (a b : List (Case ElfFault)) → first_fault (a ++ b) ≡ None → (first_fault a ≡ None) × (first_fault b ≡ None)
first_fault-append_none a b e = both_none (first_fault a) (first_fault b) (sym (first_fault-append a b) ∙ e)

-- none of four has a fault
pub record NoFault (a b c d : List (Case ElfFault)) : Type 0 where
  pub first : first_fault a ≡ None
  pub second : first_fault b ≡ None
  pub third : first_fault c ≡ None
  pub fourth : first_fault d ≡ None

-- none of four lists of cases has a fault
NoFault-append : (a b c d : List (Case ElfFault)) → first_fault (a ++ b ++ c ++ d) ≡ None → NoFault a b c d
NoFault-append a b c d e =
    let one = first_fault-append_none (a ++ b ++ c) d e in
    let two = first_fault-append_none (a ++ b) c one.0 in
    let three = first_fault-append_none a b two.0 in
    record { first = three.0; second = three.1; third = two.1; fourth = one.1 }

-- a file with no fault has none of any kind
pub NoFault-cases : (file : List ℕ) (shape : Shape) → first_fault (cases file shape) ≡ None → NoFault (header_cases file) (table_cases file) (segment_cases file) (layout_cases file shape)
NoFault-cases file shape e = NoFault-append (header_cases file) (table_cases file) (segment_cases file) (layout_cases file shape) e

-- a file with no fault is whole
pub IsWhole-cases : (file : List ℕ) (shape : Shape) → first_fault (cases file shape) ≡ None → IsWhole file
IsWhole-cases file shape e =
    let none = NoFault-cases file shape e in
    record { header = none.first; table = none.second; segments = none.third }

-- a header with no fault is within the file
pub header-within : (file : List ℕ) → first_fault (header_cases file) ≡ None → 52 ≤ length file
header-within file e = grind (arith, nat_tests)

-- so is a table with no fault
pub table-within : (file : List ℕ) → first_fault (table_cases file) ≡ None → 0 < e_phnum file → e_phoff file + 32 * e_phnum file ≤ length file
table-within file e some = grind (arith, nat_tests)

-- a file with no fault has a table
pub HasTable-IsWhole : (file : List ℕ) → IsWhole file → HasTable file
HasTable-IsWhole file whole = record { header = header-within file whole.header; table = table-within file whole.table }

-- a test that gives true nowhere
list_any-position_or_len : {X : Type 0} (p : X → Bool) → (xs : List X) → length xs ≤ position_or_len p xs → list_any p xs ≡ false
list_any-position_or_len p [] = λ h. refl
list_any-position_or_len p (x ∷ xs) =
    elim (p x) as (λ v. suc (length xs) ≤ cond (not v) (1 + position_or_len p xs) 0 → (v || list_any p xs) ≡ false) [
      | true ↦ λ h. absurd (omega arith)
      | false ↦ λ h. list_any-position_or_len p xs (omega arith)
    ]

-- a place that is not within a list
position_none : (i n : ℕ) → is_some (cond (nat_lt i n) (Some i) None) ≡ false → n ≤ i
position_none i n e = grind (arith, nat_tests)

-- no program header of a whole file cuts anything off
pub not_cut : (file : List ℕ) → first_fault (segment_cases file) ≡ None → list_any (is_cut file) (headers file) ≡ false
not_cut file e =
    let none = three_none (list_any is_interp (headers file)) (is_some (cut_header file)) (not (nat_lt 0 (length (segments file)))) _ _ _ e in
    list_any-position_or_len (is_cut file) (headers file) (position_none (position_or_len (is_cut file) (headers file)) (length (headers file)) none.1)

-- memory begins below the lowest segment
above_base : (file : List ℕ) (shape : Shape) → shape ≡ shape_for file shape.size shape.version → shape.base ≤ lowest_address (segments file)
above_base file shape same = let base = ap (λ (s : Shape). s.base) same in omega (arith, base)

-- the segments end below the first stack pointer
below_stack : (file : List ℕ) (shape : Shape) → first_fault (layout_cases file shape) ≡ None → highest_end (segments file) ≤ stack_of shape
below_stack file shape e = grind (arith, nat_tests)

-- the second of two that are both false
pub or_second : (a b : Bool) → (a || b) ≡ false → b ≡ false
or_second true b e = cc
or_second false b e = e

-- the first of two that are both false
pub or_first : (a b : Bool) → (a || b) ≡ false → a ≡ false
or_first true b e = e
or_first false b e = refl

-- one more header
places_step : (b : Bool) (file : List ℕ) (shape : Shape) (h : Header) (rest : List Header) → is_segment h ≡ b → is_cut file h ≡ false
    → (shape.base ≤ lowest_address rest → highest_end rest ≤ stack_of shape → All (HasPlace file shape) rest)
    → shape.base ≤ lowest_address (cond b (h ∷ rest) rest) → highest_end (cond b (h ∷ rest) rest) ≤ stack_of shape → All (HasPlace file shape) (cond b (h ∷ rest) rest)
places_step true file shape h rest segment whole later above below =
    All-cons (HasPlace file shape) h rest (record { segment = segment; whole = whole; above = omega arith; below = omega arith }) (later (omega arith) (omega arith))
places_step false file shape h rest segment whole later above below = later above below

-- segments that cut nothing off have a place where the lowest and the highest have one
places : (file : List ℕ) (shape : Shape) (list : List Header) → list_any (is_cut file) list ≡ false
    → shape.base ≤ lowest_address (filter is_segment list) → highest_end (filter is_segment list) ≤ stack_of shape → All (HasPlace file shape) (filter is_segment list)
places file shape [] whole above below = All-nil (HasPlace file shape)
places file shape (h ∷ rest) whole above below =
    places_step (is_segment h) file shape h (filter is_segment rest) refl (or_first (is_cut file h) (list_any (is_cut file) rest) whole)
    (places file shape rest (or_second (is_cut file h) (list_any (is_cut file) rest) whole)) above below

-- the segments of a file with no fault have a place
pub places-cases : (file : List ℕ) (shape : Shape) → shape ≡ shape_for file shape.size shape.version → first_fault (cases file shape) ≡ None → All (HasPlace file shape) (segments file)
unfolding segments
places-cases file shape same e =
    let none = NoFault-cases file shape e in
    places file shape (headers file) (not_cut file none.third) (above_base file shape same) (below_stack file shape none.fourth)
