-- Lemmas on the entries of a file, one after another.
use Rattle.std.proofs.Common.{◌≡◌, ◌≢◌, ℕ, zero, suc, ◌+◌, ◌-◌, ◌<◌, ◌≤◌, Bool, true, false, not, cond, nat_lt, List, [], ◌∷◌, ◌++◌, map, length, take, drop, slice_index, Option, Some, None, Result, Ok, Err, nat_eq, is_some, subst, ◌==◌, ◌||◌, refl, sym, ap, ◌∙◌, arith}
use Rattle.std.specs.Prelude.{IsErrAnd}
use Rattle.std.specs.List.{starts_with}
use Rattle.std.specs.Option.{option_or}
use Rattle.std.proofs.lemmas.Bool.Decides.{nat_tests}
use Rattle.std.proofs.lemmas.List.{append_assoc, map_push, take_rest}
use Rattle.asc_model.specs.declared.save_fault.SaveFault.{SaveFault}
use Rattle.asc_model.specs.declared.save_fault.SaveFault.TheVariants.{Short, Magic, Machine, Count, Untrue}
use Rattle.asc_model.specs.declared.save_fault.SaveFault.TheVariants as faults
use Rattle.std.specs.declared.sync.Arc.{Arc}
use Rattle.std.specs.declared.alloc.Global.{Global}
use Rattle.std.specs.Arc.{arc_value}
use Rattle.asc_model.specs.Entry.{Entry}
use Rattle.asc_model.specs.Shape.{Shape, is_base, is_size}
use Rattle.asc_model.specs.declared.version.Version.{Version}
use Rattle.asc_shape.specs.declared.shape.ShapeFault.{ShapeFault}
use Rattle.asc_shape.specs.declared.shape.ShapeFault.TheVariants.{Base, Size}
use Rattle.asc_shape.specs.Shape.{shape_of}
use Rattle.asc_save.specs.declared.loading.LoadFault.{LoadFault}
use Rattle.asc_save.specs.declared.loading.LoadFault.TheVariants.{Bad, Memory}
use Rattle.asc_save.specs.Load.{IsLoaded}
use Rattle.asc_save.specs.Traced.{AreRetraced}
use Rattle.asc_model.specs.Number.{word_at}
use Rattle.asc_model.specs.Case.{Case, first_fault}
use Rattle.asc_model.proofs.Cases.{first_fault-append}
use Rattle.asc_model.specs.EntryFile.{cells_in, is_out_of_bounds, entry_cases, entries_cases, writes_end, reads_end, reads_in, writes_in, steps_in, read_count, write_count, is_listing, entry_in, entries_in, own_cases, is_canonical, magic, header_cases, count_in, shape_in, file_cases, listed_in, Saved, saved_of}
use Rattle.asc_save.specs.Listed.{IsListed}

-- the first place, and the others, which are those of the bytes behind it
pub cells_in-first : (n word : ℕ) (bytes : List ℕ) → n ≢ 0 → word ≡ word_at bytes 0
    → cells_in n bytes ≡ (word, slice_index bytes 4) ∷ cells_in (n - 1) (take (length bytes - 5) (drop 5 bytes))
cells_in-first zero word bytes h is = absurd (h refl)
cells_in-first (suc n) word bytes h is =
    let e : n ≡ suc n - 1 = omega arith in
    let rest : drop 5 bytes ≡ take (length bytes - 5) (drop 5 bytes) = sym (take_rest bytes 5) in
    λ i. (sym is i, slice_index bytes 4) ∷ cells_in (e i) (rest i)

-- ---- faults

-- where the first of two has none
pub fault_behind : (a b : List (Case SaveFault)) → first_fault a ≡ None → first_fault (a ++ b) ≡ first_fault b
fault_behind a b e = first_fault-append a b ∙ ap (λ o. option_or o (first_fault b)) e

-- where the first of two has one
pub fault_first : (a b : List (Case SaveFault)) (fault : SaveFault) → first_fault a ≡ Some fault → first_fault (a ++ b) ≡ Some fault
fault_first a b fault e = first_fault-append a b ∙ ap (λ o. option_or o (first_fault b)) e

-- where there is none, neither has one
pub none_parts : (o q : Option SaveFault) → option_or o q ≡ None → (o ≡ None) × (q ≡ None)
none_parts None q e = (refl, e)
none_parts (Some fault) q e = absurd (cc)

pub no_fault-append : (a b : List (Case SaveFault)) → first_fault (a ++ b) ≡ None → (first_fault a ≡ None) × (first_fault b ≡ None)
no_fault-append a b e = none_parts (first_fault a) (first_fault b) (sym (first_fault-append a b) ∙ e)

-- where none of six cases has a fault that stands
pub no_fault-six : (a b c d e f : Bool) (v w x y z u : SaveFault)
    → first_fault (record { stands = a; fault = v } ∷ record { stands = b; fault = w } ∷ record { stands = c; fault = x }
    ∷ record { stands = d; fault = y } ∷ record { stands = e; fault = z } ∷ record { stands = f; fault = u } ∷ []) ≡ None
    → (a ≡ false) × (b ≡ false) × (c ≡ false) × (d ≡ false) × (e ≡ false) × (f ≡ false)
no_fault-six false false false false false false v w x y z u h = (refl, refl, refl, refl, refl, refl)
no_fault-six true b c d e f v w x y z u h = absurd (cc)
no_fault-six false true c d e f v w x y z u h = absurd (cc)
no_fault-six false false true d e f v w x y z u h = absurd (cc)
no_fault-six false false false true e f v w x y z u h = absurd (cc)
no_fault-six false false false false true f v w x y z u h = absurd (cc)
no_fault-six false false false false false true v w x y z u h = absurd (cc)

pub not_false : (b : Bool) → not b ≡ false → b ≡ true
not_false true e = refl
not_false false e = absurd (cc)

-- bounds that are kept
bounds_kept : (steps reads writes : ℕ) → ((steps == 0) || nat_lt 1000000000 steps || nat_lt 4096 reads || nat_lt 4096 writes) ≡ false
    → (1 ≤ steps) × (steps ≤ 1000000000) × (reads ≤ 4096) × (writes ≤ 4096)
bounds_kept steps reads writes h = (grind (arith, nat_tests), grind (arith, nat_tests), grind (arith, nat_tests), grind (arith, nat_tests))

pub not_less : (m n : ℕ) → nat_lt m n ≡ false → n ≤ m
not_less m n h = grind (arith, nat_tests)

-- an entry with no fault
pub entry-IsListed : (shape : Shape) (i : ℕ) (bytes : List ℕ) → first_fault (entry_cases shape i bytes) ≡ None → IsListed shape bytes
entry-IsListed shape i bytes e =
    let none = no_fault-six (nat_lt (length bytes) 16) (is_out_of_bounds bytes) (nat_lt (length bytes) (reads_end bytes))
    (not (is_listing shape (reads_in bytes))) (nat_lt (length bytes) (writes_end bytes)) (not (is_listing shape (writes_in bytes)))
    Short (faults.Entry i) Short (faults.Entry i) Short (faults.Entry i) e in
    let kept = bounds_kept (steps_in bytes) (read_count bytes) (write_count bytes) none.1 in
    record {
      whole = not_less (length bytes) (writes_end bytes) none.4;
      least = kept.0;
      most = kept.1;
      few_reads = kept.2;
      few_writes = kept.3;
      reads = not_false (is_listing shape (reads_in bytes)) none.3;
      writes = not_false (is_listing shape (writes_in bytes)) none.5;
    }

-- n entries, the first of which has no fault
pub entries-more : (shape : Shape) (i n : ℕ) (bytes : List ℕ) → 0 < n → first_fault (entry_cases shape i bytes) ≡ None
    → first_fault (entries_cases shape i n bytes) ≡ first_fault (entries_cases shape (i + 1) (n - 1) (drop (writes_end bytes) bytes))
entries-more shape i zero bytes h e = absurd (omega arith)
entries-more shape i (suc n) bytes h e =
    let same : n ≡ suc n - 1 = omega arith in
    fault_behind (entry_cases shape i bytes) (entries_cases shape (i + 1) n (drop (writes_end bytes) bytes)) e
    ∙ ap (λ k. first_fault (entries_cases shape (i + 1) k (drop (writes_end bytes) bytes))) same

-- the first of which has one
pub entries-fault : (shape : Shape) (i n : ℕ) (bytes : List ℕ) (fault : SaveFault) → 0 < n → first_fault (entry_cases shape i bytes) ≡ Some fault
    → first_fault (entries_cases shape i n bytes) ≡ Some fault
entries-fault shape i zero bytes fault h e = absurd (omega arith)
entries-fault shape i (suc n) bytes fault h e = fault_first (entry_cases shape i bytes) (entries_cases shape (i + 1) n (drop (writes_end bytes) bytes)) fault e

-- a fault of the entry that is looked at
pub entries_turn_fault : (shape : Shape) (i n : ℕ) (bytes : List ℕ) (fault : Option SaveFault) → 0 < n → fault ≡ first_fault (entry_cases shape i bytes) → is_some fault ≡ true
    → fault ≡ first_fault (entries_cases shape i n bytes)
entries_turn_fault shape i n bytes None h e some = absurd (cc)
entries_turn_fault shape i n bytes (Some fault) h e some = sym (entries-fault shape i n bytes fault h (sym e))

is_none : (o : Option SaveFault) → is_some o ≡ false → o ≡ None
is_none None e = refl
is_none (Some fault) e = absurd (cc)

-- no fault of it, where it ends there
pub entries_turn : (shape : Shape) (i count : ℕ) (bytes : List ℕ) (fault : Option SaveFault) (end : ℕ) → i < count → fault ≡ first_fault (entry_cases shape i bytes) → is_some fault ≡ false
    → end ≡ writes_end bytes
    → first_fault (entries_cases shape (i + 1) (count - (i + 1)) (take (length bytes - end) (drop end bytes))) ≡ first_fault (entries_cases shape i (count - i) bytes)
entries_turn shape i count bytes fault end h e none at =
    let less : count - i - 1 ≡ count - (i + 1) = omega arith in
    let same : drop (writes_end bytes) bytes ≡ take (length bytes - end) (drop end bytes) = ap (λ (k : ℕ). drop k bytes) (sym at) ∙ sym (take_rest bytes end) in
    sym (entries-more shape i (count - i) bytes (omega arith) (sym e ∙ is_none fault none)
    ∙ λ j. first_fault (entries_cases shape (i + 1) (less j) (same j)))

-- ---- the entries, one after another

-- the bytes behind an entry
rest_is : (bytes : List ℕ) (end : ℕ) → end ≡ writes_end bytes → drop (writes_end bytes) bytes ≡ take (length bytes - end) (drop end bytes)
rest_is bytes end at = ap (λ (k : ℕ). drop k bytes) (sym at) ∙ sym (take_rest bytes end)

entries_in-first : (shape : Shape) (n : ℕ) (bytes : List ℕ) → 0 < n → entries_in shape n bytes ≡ entry_in shape bytes ∷ entries_in shape (n - 1) (drop (writes_end bytes) bytes)
entries_in-first shape zero bytes h = absurd (omega arith)
entries_in-first shape (suc n) bytes h =
    let e : n ≡ suc n - 1 = omega arith in
    ap (λ (k : ℕ). entry_in shape bytes ∷ entries_in shape k (drop (writes_end bytes) bytes)) e

pub entries_next : (shape : Shape) (count i : ℕ) (bytes : List ℕ) (end : ℕ) → i < count → end ≡ writes_end bytes
    → entries_in shape (count - i) bytes ≡ entry_in shape bytes ∷ entries_in shape (count - (i + 1)) (take (length bytes - end) (drop end bytes))
entries_next shape count i bytes end h at =
    let less : count - i - 1 ≡ count - (i + 1) = omega arith in
    let same = rest_is bytes end at in
    entries_in-first shape (count - i) bytes (omega arith) ∙ λ j. entry_in shape bytes ∷ entries_in shape (less j) (same j)

pub entries_none : (shape : Shape) (n : ℕ) (bytes : List ℕ) → n ≡ 0 → entries_in shape n bytes ≡ []
entries_none shape n bytes e = ap (λ k. entries_in shape k bytes) e

first_none : (shape : Shape) (i n : ℕ) (bytes : List ℕ) → 0 < n → first_fault (entries_cases shape i n bytes) ≡ None → first_fault (entry_cases shape i bytes) ≡ None
first_none shape i zero bytes h e = absurd (omega arith)
first_none shape i (suc n) bytes h e = (no_fault-append (entry_cases shape i bytes) (entries_cases shape (i + 1) n (drop (writes_end bytes) bytes)) e).0

-- where entries have no fault, the first one has none
pub first-IsListed : (shape : Shape) (i n : ℕ) (bytes : List ℕ) → 0 < n → first_fault (entries_cases shape i n bytes) ≡ None → IsListed shape bytes
first-IsListed shape i n bytes h e = entry-IsListed shape i bytes (first_none shape i n bytes h e)

-- nor have the others
pub no_fault_next : (shape : Shape) (count i : ℕ) (bytes : List ℕ) (end : ℕ) → i < count → end ≡ writes_end bytes → first_fault (entries_cases shape i (count - i) bytes) ≡ None
    → first_fault (entries_cases shape (i + 1) (count - (i + 1)) (take (length bytes - end) (drop end bytes))) ≡ None
no_fault_next shape count i bytes end h at e =
    let less : count - i - 1 ≡ count - (i + 1) = omega arith in
    let same = rest_is bytes end at in
    sym (λ j. first_fault (entries_cases shape (i + 1) (less j) (same j)))
    ∙ sym (entries-more shape i (count - i) bytes (omega arith) (first_none shape i (count - i) bytes (omega arith) e)) ∙ e

-- ---- entries that are their own

own_by : (own : Bool) (i : ℕ) (rest : Option SaveFault) → own ≡ true → cond (not own) (Some (Untrue i)) rest ≡ rest
own_by true i rest e = refl
own_by false i rest e = absurd (cc)

pub own_more : (i : ℕ) (e : Entry) (entries : List Entry) → is_canonical e ≡ true → first_fault (own_cases i (e ∷ entries)) ≡ first_fault (own_cases (i + 1) entries)
own_more i e entries h = own_by (is_canonical e) i (first_fault (own_cases (i + 1) entries)) h

other_by : (own : Bool) (i : ℕ) (rest : Option SaveFault) → own ≡ false → cond (not own) (Some (Untrue i)) rest ≡ Some (Untrue i)
other_by false i rest e = refl
other_by true i rest e = absurd (cc)

pub own_fault : (i : ℕ) (e : Entry) (entries : List Entry) → is_canonical e ≡ false → first_fault (own_cases i (e ∷ entries)) ≡ Some (Untrue i)
own_fault i e entries h = other_by (is_canonical e) i (first_fault (own_cases (i + 1) entries)) h

-- one more entry made
pub made_more : (items more : List (Arc Entry Global)) (entry : Arc Entry Global) (e : Entry) (left rest all : List Entry) → more ≡ items ++ entry ∷ [] → arc_value entry ≡ e → left ≡ e ∷ rest
    → map arc_value items ++ left ≡ all → map arc_value more ++ rest ≡ all
made_more items more entry e left rest all pushed is next before =
    ap (λ list. map arc_value list ++ rest) pushed
    ∙ ap (λ list. list ++ rest) (map_push arc_value items entry)
    ∙ append_assoc (map arc_value items) (arc_value entry ∷ []) rest
    ∙ ap (λ x. map arc_value items ++ x ∷ rest) is
    ∙ ap (λ list. map arc_value items ++ list) (sym next) ∙ before

-- ---- the whole file

no_shape_by : (base size : Bool) (shape : Shape) (fault : ShapeFault) → (not base || not size) ≡ false
    → Err fault ≡ cond (not base) (Err Base) (cond (not size) (Err Size) (Ok shape)) → ⊥
no_shape_by true true shape fault e is = cc
no_shape_by true false shape fault e is = cc
no_shape_by false true shape fault e is = cc
no_shape_by false false shape fault e is = cc

-- a header with no fault has a shape
pub has_shape : (file : List ℕ) (base size : ℕ) (version : Version) (fault : ShapeFault) → first_fault (header_cases file) ≡ None → base ≡ word_at file 8 → size ≡ word_at file 12
    → Err fault ≡ shape_of base size version → ⊥
has_shape file base size version fault e at to is =
    let none = no_fault-six (nat_lt (length file) 20) (not (starts_with nat_eq file magic)) (not (slice_index file 4 == 1))
    (not ((slice_index file 5 == 1) || (slice_index file 5 == 2)) || not (slice_index file 6 == 0) || not (slice_index file 7 == 0))
    (not (is_base (word_at file 8) (word_at file 12)) || not (is_size (word_at file 12))) (nat_lt 1024 (count_in file))
    Short Magic faults.Version Machine faults.Shape Count e in
    no_shape_by (is_base (word_at file 8) (word_at file 12)) (is_size (word_at file 12)) (record { base = word_at file 8; size = word_at file 12; version = version }) fault none.4
    (is ∙ λ i. shape_of (at i) (to i) version)

-- what a file means by its first fault
abbrev pub answer : Option SaveFault → Saved → Result Saved SaveFault
answer (Some fault) saved = Err fault
answer None saved = Ok saved

pub saved_of-answer : (file : List ℕ) → saved_of file ≡ answer (first_fault (file_cases file)) (listed_in file)
unfolding saved_of
saved_of-answer file = elim (first_fault (file_cases file)) as (λ o. elim o [ Some fault ↦ Err fault | None ↦ Ok (listed_in file) ] ≡ answer o (listed_in file)) [ Some fault ↦ refl | None ↦ refl ]

-- the cases of the entries of a file
abbrev pub listed_cases : List ℕ → List (Case SaveFault)
listed_cases file = entries_cases (shape_in file) 0 (count_in file) (drop 20 file)

abbrev pub entries_of : List ℕ → List Entry
entries_of file = entries_in (shape_in file) (count_in file) (drop 20 file)

pub file_fault-is : (file : List ℕ) → first_fault (file_cases file) ≡ option_or (option_or (first_fault (header_cases file)) (first_fault (listed_cases file))) (first_fault (own_cases 0 (entries_of file)))
file_fault-is file =
    first_fault-append (header_cases file ++ listed_cases file) (own_cases 0 (entries_of file))
    ∙ ap (λ o. option_or o (first_fault (own_cases 0 (entries_of file)))) (first_fault-append (header_cases file) (listed_cases file))

pub saved-header : (file : List ℕ) (fault : SaveFault) → first_fault (header_cases file) ≡ Some fault → saved_of file ≡ Err fault
saved-header file fault e =
    saved_of-answer file ∙ ap (λ o. answer o (listed_in file))
    (file_fault-is file ∙ ap (λ o. option_or (option_or o (first_fault (listed_cases file))) (first_fault (own_cases 0 (entries_of file)))) e)

pub saved-listed : (file : List ℕ) (fault : SaveFault) → first_fault (header_cases file) ≡ None → first_fault (listed_cases file) ≡ Some fault → saved_of file ≡ Err fault
saved-listed file fault p e =
    saved_of-answer file ∙ ap (λ o. answer o (listed_in file))
    (file_fault-is file ∙ λ i. option_or (option_or (p i) (e i)) (first_fault (own_cases 0 (entries_of file))))

pub saved-own : (file : List ℕ) (own : Option SaveFault) → first_fault (header_cases file) ≡ None → first_fault (listed_cases file) ≡ None → first_fault (own_cases 0 (entries_of file)) ≡ own
    → saved_of file ≡ answer own (listed_in file)
saved-own file own p q e =
    saved_of-answer file ∙ ap (λ o. answer o (listed_in file))
    (file_fault-is file ∙ λ i. option_or (option_or (p i) (q i)) (e i))

-- the entries of a file are those behind its header, as they are handed on
pub entries_handed : (file : List ℕ) (shape : Shape) (count : ℕ) → shape ≡ shape_in file → count ≡ count_in file
    → entries_in shape count (take (length file - 20) (drop 20 file)) ≡ entries_of file
entries_handed file shape count s n = λ i. entries_in (s i) (n i) (take_rest file 20 i)

pub cases_handed : (file : List ℕ) (shape : Shape) (count : ℕ) → shape ≡ shape_in file → count ≡ count_in file
    → first_fault (entries_cases shape 0 count (take (length file - 20) (drop 20 file))) ≡ first_fault (listed_cases file)
cases_handed file shape count s n = λ i. first_fault (entries_cases (s i) 0 (n i) (take_rest file 20 i))

-- a fault of the entries, or want of memory
pub loaded_Err : (file : List ℕ) (fault : LoadFault) → first_fault (header_cases file) ≡ None → first_fault (listed_cases file) ≡ None → AreRetraced (entries_of file) (Err fault) → IsLoaded file (Err fault)
loaded_Err file (Bad fault) p q e = saved-own file (Some fault) p q e
loaded_Err file Memory p q e = tt

pub loaded_as : (file : List ℕ) (result : Result Saved LoadFault) (fault : LoadFault) → IsErrAnd result (λ e. e ≡ fault) → IsLoaded file (Err fault) → IsLoaded file result
loaded_as file (Err e) fault same h = subst (λ x. IsLoaded file (Err x)) (sym same) h
loaded_as file (Ok saved) fault same h = absurd (same)

-- the entries, each its own
pub loaded_Ok : (file : List ℕ) (shape : Shape) (entries : List Entry) → first_fault (header_cases file) ≡ None → first_fault (listed_cases file) ≡ None → shape ≡ shape_in file
    → entries ≡ entries_of file → first_fault (own_cases 0 (entries_of file)) ≡ None → saved_of file ≡ Ok (record { shape = shape; entries = entries })
loaded_Ok file shape entries p q s is own = saved-own file None p q own ∙ λ i. Ok (record { shape = sym s i; entries = sym is i })
