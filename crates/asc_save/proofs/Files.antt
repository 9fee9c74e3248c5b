-- Files of entries, and what they mean.
use Rattle.std.proofs.Common.{◌≡◌, ℕ, zero, suc, ◌+◌, ◌*◌, ◌^◌, ◌<◌, ◌≤◌, ◌%◌, Bool, true, false, not, cond, ◌||◌, ◌==◌, nat_eq, nat_le, nat_lt, List, [], ◌∷◌, ◌++◌, map, length, take, drop, get_or, slice_index, Option, Some, None, Ok, refl, sym, ap, subst, ◌∙◌, arith, append_assoc, length-append, length-drop}
use Rattle.std.specs.Prelude.{All}
use Rattle.std.specs.List.{flat_map, list_all, starts_with}
use Rattle.std.specs.Option.{option_or}
use Rattle.std.proofs.lemmas.Bool.{lt-ltb, le-ltb, and_parts, and_from, eqb-true}
use Rattle.std.proofs.lemmas.Bool.Decides.{nat_tests}
use Rattle.std.proofs.lemmas.List.{drop-drop, drop_at, take-append-drop, take_more, nil_from_length, length-take-le, get_or-drop}
use Rattle.std.proofs.lemmas.List.Elements.{All-nil, All-cons, All-head, All-tail}
use Rattle.std.proofs.Math.Seq.{take-nil}
use lib.Pointwise.{bytes_decides}
use Rattle.asc_model.specs.declared.save_fault.SaveFault.{SaveFault}
use Rattle.asc_model.specs.declared.save_fault.SaveFault.TheVariants.{Short, Magic, Machine, Count}
use Rattle.asc_model.specs.declared.save_fault.SaveFault.TheVariants as faults
use Rattle.asc_model.specs.declared.version.Version.{Version}
use Rattle.asc_model.specs.declared.version.Version.TheVariants.{One, Two}
use Rattle.asc_model.specs.Shape.{Shape, IsShape, is_base, is_size, length_of}
use Rattle.asc_model.specs.Number.{AreBytes, bytes_of, number_of, number_at, word_at}
use Rattle.asc_model.specs.Entry.{Entry, IsListing, IsCanonical}
use Rattle.asc_model.specs.Case.{first_fault}
use Rattle.asc_model.specs.EntryFile.{magic, machine_number, header_bytes, cell_bytes, entry_bytes, entry_file, IsSavable, shape_in, count_in, header_cases, steps_in, read_count, write_count, reads_end, writes_end, cells_in, reads_in, writes_in, is_out_of_bounds, rise_from, is_listing, entry_cases, entries_cases, entry_in, entries_in, is_canonical, own_cases, Saved, listed_in, file_cases, saved_of}
use Rattle.asc_model.proofs.Numbers.{AreBytes-take, AreBytes-drop, bytes_of-number_of, number_of-bytes_of, number_of-bytes_of_4}
use Rattle.asc_model.proofs.Listings.{RisesFrom, RisesFrom-increasing, increasing-RisesFrom}
use Rattle.asc_save.specs.Laws.{IsFileOf, FilesMeanTheirEntries}
use Rattle.asc_save.specs.Listed.{IsListed}
use Rattle.asc_save.proofs.Parsing.{answer, entries_of, entry-IsListed, fault_behind, file_fault-is, listed_cases, no_fault-append, no_fault-six, none_parts, not_false, not_less, own_more, saved-own, saved_of-answer}
use Rattle.asc_save.proofs.Tracing.{canonical_passes, passes_canonical, listing_within}

-- ---- listings

abbrev places_of : List (ℕ × ℕ) → List ℕ
places_of cells = map (λ cell. cell.0) cells

rises : (least : ℕ) (places : List ℕ) → RisesFrom least places → rise_from least places ≡ true
rises least [] h = refl
rises least (place ∷ places) h = and_from (nat_le least place) (rise_from (place + 1) places) (grind (arith, nat_tests)) (rises (place + 1) places h.1)

rising : (least : ℕ) (places : List ℕ) → rise_from least places ≡ true → RisesFrom least places
rising least [] h = tt
rising least (place ∷ places) h =
    let parts = and_parts (nat_le least place) (rise_from (place + 1) places) h in
    let first : nat_le least place ≡ true = parts.0 in
    (grind (arith, nat_tests), rising (place + 1) places parts.1)

below_all : (end : ℕ) (cells : List (ℕ × ℕ)) → All (λ cell. cell.0 < end) cells → list_all (λ place. nat_lt place end) (places_of cells) ≡ true
below_all end [] h = refl
below_all end (cell ∷ cells) h =
    and_from (nat_lt cell.0 end) (list_all (λ place. nat_lt place end) (places_of cells))
    (lt-ltb cell.0 end (All-head (λ (c : ℕ × ℕ). c.0 < end) cell cells h)) (below_all end cells (All-tail (λ (c : ℕ × ℕ). c.0 < end) cell cells h))

listing_passes : (shape : Shape) (cells : List (ℕ × ℕ)) → IsListing shape cells → is_listing shape cells ≡ true
listing_passes shape cells h =
    and_from (rise_from 0 (places_of cells)) (list_all (λ place. nat_lt place (length_of shape)) (places_of cells))
    (rises 0 (places_of cells) (RisesFrom-increasing 0 (places_of cells) h.rise (λ lt. omega arith))) (below_all (length_of shape) cells h.places)

bytes_in : (n : ℕ) (bytes : List ℕ) → AreBytes bytes → All (λ cell. cell.1 < 2 ^ 8) (cells_in n bytes)
bytes_in zero bytes h = All-nil (λ (cell : ℕ × ℕ). cell.1 < 2 ^ 8)
bytes_in (suc n) bytes h = All-cons (λ (cell : ℕ × ℕ). cell.1 < 2 ^ 8) (word_at bytes 0, slice_index bytes 4) (cells_in n (drop 5 bytes)) (h 4) (bytes_in n (drop 5 bytes) (AreBytes-drop 5 bytes h))

passes_listing : (shape : Shape) (n : ℕ) (bytes : List ℕ) → AreBytes bytes → is_listing shape (cells_in n bytes) ≡ true → IsListing shape (cells_in n bytes)
passes_listing shape n bytes h e =
    let parts = and_parts (rise_from 0 (places_of (cells_in n bytes))) (list_all (λ place. nat_lt place (length_of shape)) (places_of (cells_in n bytes))) e in
    record {
      rise = increasing-RisesFrom 0 (places_of (cells_in n bytes)) (rising 0 (places_of (cells_in n bytes)) parts.0);
      places = listing_within shape (cells_in n bytes) e;
      bytes = bytes_in n bytes h;
    }

-- ---- from entries to bytes

length-by : (base size : ℕ) (version : Version) → size ≤ 67108864 → length_of (record { base = base; size = size; version = version }) < 2 ^ 32
length-by base size One h = omega arith
length-by base size Two h = omega arith

words_of : (shape : Shape) (cells : List (ℕ × ℕ)) → IsShape shape → All (λ cell. cell.0 < length_of shape) cells → All (λ cell. cell.0 < 2 ^ 32) cells
words_of shape cells good h k d lt =
    let below = length-by shape.base shape.size shape.version good.size.most in
    let here : (get_or cells k d).0 < length_of shape = h k d lt in
    omega arith

cells_forward : (cells : List (ℕ × ℕ)) (rest : List ℕ) → All (λ cell. cell.0 < 2 ^ 32) cells → cells_in (length cells) (flat_map cell_bytes cells ++ rest) ≡ cells
cells_forward [] rest h = refl
cells_forward (cell ∷ cells) rest h =
    let word = number_of-bytes_of_4 cell.0 (All-head (λ (c : ℕ × ℕ). c.0 < 2 ^ 32) cell cells h) in
    let ih = cells_forward cells rest (All-tail (λ (c : ℕ × ℕ). c.0 < 2 ^ 32) cell cells h) in
    λ i. (word i, cell.1) ∷ ih i

length-cells : (cells : List (ℕ × ℕ)) → length (flat_map cell_bytes cells) ≡ 5 * length cells
length-cells [] = refl
length-cells (cell ∷ cells) = omega (arith, length-cells cells)

-- what is at the front of the bytes of an entry with others behind
record IsFront (bytes : List ℕ) (e : Entry) (rest : List ℕ) : Type 0 where
  steps : steps_in bytes ≡ e.steps
  read_count : read_count bytes ≡ length e.reads
  write_count : write_count bytes ≡ length e.writes
  reads : reads_in bytes ≡ e.reads
  writes : writes_in bytes ≡ e.writes
  whole : writes_end bytes ≤ length bytes
  left : drop (writes_end bytes) bytes ≡ rest

entry_forward : (shape : Shape) (e : Entry) (rest : List ℕ) → IsShape shape → IsSavable shape e → IsFront (entry_bytes e ++ rest) e rest
entry_forward shape e rest good h =
    let bytes = entry_bytes e ++ rest in
    let r = flat_map cell_bytes e.reads in
    let w = flat_map cell_bytes e.writes in
    let few_reads = h.reads in
    let few_writes = h.writes in
    let few_steps = h.steps in
    let n : read_count bytes ≡ length e.reads = number_of-bytes_of_4 (length e.reads) (omega arith) in
    let m : write_count bytes ≡ length e.writes = number_of-bytes_of_4 (length e.writes) (omega arith) in
    let words_r = words_of shape e.reads good (subst (λ s. All (λ (c : ℕ × ℕ). c.0 < length_of s) e.reads) h.same h.entry.reads.places) in
    let words_w = words_of shape e.writes good (subst (λ s. All (λ (c : ℕ × ℕ). c.0 < length_of s) e.writes) h.same h.entry.writes.places) in
    let behind : drop 16 bytes ≡ r ++ (w ++ rest) = append_assoc r w rest in
    let to : drop (reads_end bytes) bytes ≡ w ++ rest =
    sym (drop-drop (5 * read_count bytes) 16 bytes) ∙ ap (λ k. drop (5 * k) (drop 16 bytes)) n ∙ ap (drop (5 * length e.reads)) behind
    ∙ drop_at r (w ++ rest) (5 * length e.reads) (length-cells e.reads) in
    record {
      steps = number_of-bytes_of 8 e.steps (omega arith);
      read_count = n;
      write_count = m;
      reads = (λ i. cells_in (n i) (behind i)) ∙ cells_forward e.reads (w ++ rest) words_r;
      writes = (λ i. cells_in (m i) (to i)) ∙ cells_forward e.writes rest words_w;
      whole = omega (arith, length-append (r ++ w) rest, length-append r w, length-cells e.reads, length-cells e.writes);
      left = sym (drop-drop (5 * write_count bytes) (reads_end bytes) bytes) ∙ (λ i. drop (5 * m i) (to i)) ∙ drop_at w rest (5 * length e.writes) (length-cells e.writes);
    }

six_none : (a b c d e f : Bool) (v w x y z u : SaveFault) → a ≡ false → b ≡ false → c ≡ false → d ≡ false → e ≡ false → f ≡ false
    → first_fault (record { stands = a; fault = v } ∷ record { stands = b; fault = w } ∷ record { stands = c; fault = x }
    ∷ record { stands = d; fault = y } ∷ record { stands = e; fault = z } ∷ record { stands = f; fault = u } ∷ []) ≡ None
six_none a b c d e f v w x y z u p q r s t k =
    λ i. first_fault (record { stands = p i; fault = v } ∷ record { stands = q i; fault = w } ∷ record { stands = r i; fault = x }
    ∷ record { stands = s i; fault = y } ∷ record { stands = t i; fault = z } ∷ record { stands = k i; fault = u } ∷ [])

within_bounds : (steps reads writes : ℕ) → 1 ≤ steps → steps ≤ 1000000000 → reads ≤ 4096 → writes ≤ 4096 → ((steps == 0) || nat_lt 1000000000 steps || nat_lt 4096 reads || nat_lt 4096 writes) ≡ false
within_bounds steps reads writes a b c d = grind (arith, nat_tests)

entry_clean : (shape : Shape) (i : ℕ) (e : Entry) (bytes rest : List ℕ) → IsSavable shape e → IsFront bytes e rest → first_fault (entry_cases shape i bytes) ≡ None
entry_clean shape i e bytes rest h front =
    let whole = front.whole in
    let steps = front.steps in
    let reads = front.read_count in
    let writes = front.write_count in
    let least = h.entry.steps in
    let most = h.steps in
    let few_reads = h.reads in
    let few_writes = h.writes in
    six_none (nat_lt (length bytes) 16) (is_out_of_bounds bytes) (nat_lt (length bytes) (reads_end bytes))
    (not (is_listing shape (reads_in bytes))) (nat_lt (length bytes) (writes_end bytes)) (not (is_listing shape (writes_in bytes)))
    Short (faults.Entry i) Short (faults.Entry i) Short (faults.Entry i)
    (le-ltb (length bytes) 16 (omega arith))
    (within_bounds (steps_in bytes) (read_count bytes) (write_count bytes) (omega arith) (omega arith) (omega arith) (omega arith))
    (le-ltb (length bytes) (reads_end bytes) (omega arith))
    (ap not (ap (is_listing shape) front.reads ∙ listing_passes shape e.reads (subst (λ s. IsListing s e.reads) h.same h.entry.reads)))
    (le-ltb (length bytes) (writes_end bytes) whole)
    (ap not (ap (is_listing shape) front.writes ∙ listing_passes shape e.writes (subst (λ s. IsListing s e.writes) h.same h.entry.writes)))

entries_forward : (shape : Shape) (i : ℕ) (entries : List Entry) → IsShape shape → All (IsSavable shape) entries
    → (first_fault (entries_cases shape i (length entries) (flat_map entry_bytes entries)) ≡ None) × (entries_in shape (length entries) (flat_map entry_bytes entries) ≡ entries)
entries_forward shape i [] good h = (refl, refl)
entries_forward shape i (e ∷ entries) good h =
    let rest = flat_map entry_bytes entries in
    let bytes = entry_bytes e ++ rest in
    let first = All-head (IsSavable shape) e entries h in
    let front = entry_forward shape e rest good first in
    let ih = entries_forward shape (i + 1) entries good (All-tail (IsSavable shape) e entries h) in
    let n = length entries in
    let left = front.left in
    let steps = front.steps in
    let reads = front.reads in
    let writes = front.writes in
    let same = first.same in
    let one : entry_in shape bytes ≡ e = λ j. record { shape = sym same j; reads = reads j; writes = writes j; steps = steps j } in (
      fault_behind (entry_cases shape i bytes) (entries_cases shape (i + 1) n (drop (writes_end bytes) bytes)) (entry_clean shape i e bytes rest first front)
          ∙ ap (λ list. first_fault (entries_cases shape (i + 1) n list)) left ∙ ih.0,
      (λ j. one j ∷ entries_in shape n (left j)) ∙ ap (λ list. e ∷ list) ih.1,
    )

own_forward : (i : ℕ) (entries : List Entry) → All IsCanonical entries → first_fault (own_cases i entries) ≡ None
own_forward i [] h = refl
own_forward i (e ∷ entries) h =
    own_more i e entries (canonical_passes e (All-head IsCanonical e entries h)) ∙ own_forward (i + 1) entries (All-tail IsCanonical e entries h)

good_base : (base size : ℕ) → base % 4096 ≡ 0 → base + size ≤ 2 ^ 32 → size % 4 ≡ 0 → 65536 ≤ size → size ≤ 67108864 → (not (is_base base size) || not (is_size size)) ≡ false
good_base base size a b c d e = grind (arith, nat_tests)

-- the header of a shape's file
record IsHeader (file : List ℕ) (s : Shape) (n : ℕ) : Type 0 where
  clean : first_fault (header_cases file) ≡ None
  shape : shape_in file ≡ s
  count : count_in file ≡ n

machine_known : (version : Version) → ((machine_number version == 1) || (machine_number version == 2)) ≡ true
machine_known One = refl
machine_known Two = refl

machine_back : (version : Version) → (cond (machine_number version == 1) One Two) ≡ version
machine_back One = refl
machine_back Two = refl

header_clean : (base size count : ℕ) (version : Version) (rest : List ℕ) → ((machine_number version == 1) || (machine_number version == 2)) ≡ true
    → (not (is_base (number_of (bytes_of 4 base)) (number_of (bytes_of 4 size))) || not (is_size (number_of (bytes_of 4 size)))) ≡ false
    → nat_lt 1024 (number_of (bytes_of 4 count)) ≡ false
    → first_fault (header_cases (header_bytes (record { base = base; size = size; version = version }) count ++ rest)) ≡ None
header_clean base size count version rest machine shape few =
    let file = header_bytes (record { base = base; size = size; version = version }) count ++ rest in
    six_none (nat_lt (length file) 20) false false
    (not ((machine_number version == 1) || (machine_number version == 2)) || false || false)
    (not (is_base (number_of (bytes_of 4 base)) (number_of (bytes_of 4 size))) || not (is_size (number_of (bytes_of 4 size)))) (nat_lt 1024 (number_of (bytes_of 4 count)))
    Short Magic faults.Version Machine faults.Shape Count
    (le-ltb (length file) 20 (omega arith)) refl refl (ap (λ b. not b || false || false) machine) shape few

header_forward : (shape : Shape) (count : ℕ) (rest : List ℕ) → IsShape shape → count ≤ 1024 → IsHeader (header_bytes shape count ++ rest) shape count
header_forward shape count rest good few =
    let within = good.base.within in
    let most = good.size.most in
    let least = good.size.least in
    let b = number_of-bytes_of_4 shape.base (omega arith) in
    let s = number_of-bytes_of_4 shape.size (omega arith) in
    let n = number_of-bytes_of_4 count (omega arith) in
    let fits = (λ i. not (is_base (b i) (s i)) || not (is_size (s i))) ∙ good_base shape.base shape.size good.base.aligned within good.size.aligned least most in
    let many : nat_lt 1024 (number_of (bytes_of 4 count)) ≡ false = ap (nat_lt 1024) n ∙ le-ltb 1024 count few in
    record {
      clean = header_clean shape.base shape.size count shape.version rest (machine_known shape.version) fits many;
      shape = λ i. record { base = b i; size = s i; version = machine_back shape.version i };
      count = n;
    }

pub forward : (saved : Saved) (file : List ℕ) → IsFileOf saved file → saved_of file ≡ Ok saved
unfolding entry_file
forward saved file h =
    let rest = flat_map entry_bytes saved.entries in
    let bytes = header_bytes saved.shape (length saved.entries) ++ rest in
    let header = header_forward saved.shape (length saved.entries) rest h.savable.good h.savable.count in
    let listed = entries_forward saved.shape 0 saved.entries h.savable.good h.savable.each in
    let shape = header.shape in
    let count = header.count in
    let clean : first_fault (listed_cases bytes) ≡ None = (λ i. first_fault (entries_cases (shape i) 0 (count i) rest)) ∙ listed.0 in
    let entries : entries_of bytes ≡ saved.entries = (λ i. entries_in (shape i) (count i) rest) ∙ listed.1 in
    let own : first_fault (own_cases 0 (entries_of bytes)) ≡ None = ap (λ list. first_fault (own_cases 0 list)) entries ∙ own_forward 0 saved.entries h.own in
    ap saved_of h.bytes ∙ saved-own bytes None header.clean clean own ∙ λ i. Ok (record { shape = shape i; entries = entries i })

-- ---- from bytes to entries

-- a part, and the next one
parts_join : (m n : ℕ) (bytes : List ℕ) → take m bytes ++ take n (drop m bytes) ≡ take (m + n) bytes
parts_join zero n bytes = ap (λ k. take k bytes) (omega arith)
parts_join (suc m) n [] = take-nil n ∙ sym (take-nil (suc m + n))
parts_join (suc m) n (byte ∷ bytes) =
    ap (λ list. byte ∷ list) (parts_join m n bytes) ∙ ap (λ k. take k (byte ∷ bytes)) (let e : suc (m + n) ≡ suc m + n = omega arith in e)

-- the bytes of a number that is read are those that it was read from
read_back : (n place : ℕ) (bytes : List ℕ) → AreBytes bytes → place + n ≤ length bytes → bytes_of n (number_at n bytes place) ≡ take n (drop place bytes)
read_back n place bytes h fits =
    let part = take n (drop place bytes) in
    let size : length part ≡ n = length-take-le n (drop place bytes) (omega (arith, length-drop place bytes)) in
    ap (λ k. bytes_of k (number_of part)) (sym size) ∙ bytes_of-number_of part (AreBytes-take n (drop place bytes) (AreBytes-drop place bytes h))

cells_back : (n : ℕ) (bytes : List ℕ) → AreBytes bytes → 5 * n ≤ length bytes → flat_map cell_bytes (cells_in n bytes) ≡ take (5 * n) bytes
cells_back zero bytes h fits = ap (λ k. take k bytes) (let e : 0 ≡ 5 * 0 = omega arith in e)
cells_back (suc n) bytes h fits =
    let word = read_back 4 0 bytes h (omega arith) in
    let cell : bytes_of 4 (word_at bytes 0) ++ slice_index bytes 4 ∷ [] ≡ take 5 bytes = ap (λ list. list ++ slice_index bytes 4 ∷ []) word ∙ sym (take_more bytes 4 0 (omega arith)) in
    let ih = cells_back n (drop 5 bytes) (AreBytes-drop 5 bytes h) (omega (arith, length-drop 5 bytes)) in
    (λ i. cell i ++ ih i) ∙ parts_join 5 (5 * n) bytes ∙ ap (λ k. take k bytes) (let e : 5 + 5 * n ≡ 5 * suc n = omega arith in e)

length-cells_in : (n : ℕ) (bytes : List ℕ) → length (cells_in n bytes) ≡ n
length-cells_in zero bytes = refl
length-cells_in (suc n) bytes = ap suc (length-cells_in n (drop 5 bytes))

entry_back : (shape : Shape) (bytes : List ℕ) → AreBytes bytes → IsListed shape bytes → entry_bytes (entry_in shape bytes) ≡ take (writes_end bytes) bytes
entry_back shape bytes h listed =
    let n = read_count bytes in
    let m = write_count bytes in
    let whole = listed.whole in
    let steps = read_back 8 0 bytes h (omega arith) in
    let reads = ap (bytes_of 4) (length-cells_in n (drop 16 bytes)) ∙ read_back 4 8 bytes h (omega arith) in
    let writes = ap (bytes_of 4) (length-cells_in m (drop (reads_end bytes) bytes)) ∙ read_back 4 12 bytes h (omega arith) in
    let r = cells_back n (drop 16 bytes) (AreBytes-drop 16 bytes h) (omega (arith, length-drop 16 bytes)) in
    let w = cells_back m (drop (reads_end bytes) bytes) (AreBytes-drop (reads_end bytes) bytes h) (omega (arith, length-drop (reads_end bytes) bytes)) in
    (λ i. steps i ++ reads i ++ writes i ++ r i ++ w i)
    ∙ ap (λ list. list ++ take 4 (drop 12 bytes) ++ take (5 * n) (drop 16 bytes) ++ take (5 * m) (drop (reads_end bytes) bytes)) (parts_join 8 4 bytes)
    ∙ ap (λ list. list ++ take (5 * n) (drop 16 bytes) ++ take (5 * m) (drop (reads_end bytes) bytes)) (parts_join 12 4 bytes)
    ∙ ap (λ list. list ++ take (5 * m) (drop (reads_end bytes) bytes)) (parts_join 16 (5 * n) bytes)
    ∙ parts_join (reads_end bytes) (5 * m) bytes

entry_savable : (shape : Shape) (bytes : List ℕ) → AreBytes bytes → IsShape shape → IsListed shape bytes → IsSavable shape (entry_in shape bytes)
entry_savable shape bytes h good listed =
    let few_reads = listed.few_reads in
    let few_writes = listed.few_writes in
    let n = length-cells_in (read_count bytes) (drop 16 bytes) in
    let m = length-cells_in (write_count bytes) (drop (reads_end bytes) bytes) in
    record {
      same = refl;
      entry = record {
        shape = good;
        reads = passes_listing shape (read_count bytes) (drop 16 bytes) (AreBytes-drop 16 bytes h) listed.reads;
        writes = passes_listing shape (write_count bytes) (drop (reads_end bytes) bytes) (AreBytes-drop (reads_end bytes) bytes h) listed.writes;
        steps = listed.least;
      };
      steps = listed.most;
      reads = omega arith;
      writes = omega arith;
    }

-- the bytes of entries with no fault
record AreBack (shape : Shape) (n : ℕ) (bytes : List ℕ) : Type 0 where
  bytes_are : flat_map entry_bytes (entries_in shape n bytes) ≡ bytes
  number : length (entries_in shape n bytes) ≡ n
  each : All (IsSavable shape) (entries_in shape n bytes)

none_left : (n : ℕ) → cond (nat_lt 0 n) (Some faults.Long) None ≡ None → n ≡ 0
none_left zero e = refl
none_left (suc n) e = let x : cond true (Some faults.Long) None ≡ None = ap (λ b. cond b (Some faults.Long) None) (sym (lt-ltb 0 (suc n) (omega arith))) ∙ e in absurd (cc)

entries_back : (shape : Shape) (i n : ℕ) (bytes : List ℕ) → AreBytes bytes → IsShape shape → first_fault (entries_cases shape i n bytes) ≡ None → AreBack shape n bytes
entries_back shape i zero bytes h good e = record {
  bytes_are = sym (nil_from_length bytes (none_left (length bytes) e));
  number = refl;
  each = All-nil (IsSavable shape);
}
entries_back shape i (suc n) bytes h good e =
    let rest = drop (writes_end bytes) bytes in
    let parts = no_fault-append (entry_cases shape i bytes) (entries_cases shape (i + 1) n rest) e in
    let listed = entry-IsListed shape i bytes parts.0 in
    let ih = entries_back shape (i + 1) n rest (AreBytes-drop (writes_end bytes) bytes h) good parts.1 in
    let first = entry_back shape bytes h listed in
    let later = ih.bytes_are in
    record {
      bytes_are = (λ j. first j ++ later j) ∙ take-append-drop (writes_end bytes) bytes;
      number = ap suc ih.number;
      each = All-cons (IsSavable shape) (entry_in shape bytes) (entries_in shape n rest) (entry_savable shape bytes h good listed) ih.each;
    }

own_step : (own : Bool) (i : ℕ) (rest : Option SaveFault) → cond (not own) (Some (faults.Untrue i)) rest ≡ None → (own ≡ true) × (rest ≡ None)
own_step true i rest e = (refl, e)
own_step false i rest e = absurd (cc)

own_back : (i : ℕ) (entries : List Entry) → first_fault (own_cases i entries) ≡ None → All IsCanonical entries
own_back i [] e = All-nil IsCanonical
own_back i (entry ∷ entries) e =
    let parts = own_step (is_canonical entry) i (first_fault (own_cases (i + 1) entries)) e in
    All-cons IsCanonical entry entries (passes_canonical entry parts.0) (own_back (i + 1) entries parts.1)

-- what a header with no fault says
record HasHeader (file : List ℕ) : Type 0 where
  size : 20 ≤ length file
  magic_is : take 4 file ≡ magic
  format_is : slice_index file 4 ≡ 1
  machine_is : slice_index file 5 ≡ machine_number (shape_in file).version
  sixth : slice_index file 6 ≡ 0
  seventh : slice_index file 7 ≡ 0
  good : IsShape (shape_in file)
  few : count_in file ≤ 1024

machine_by : (byte : ℕ) (one two : Bool) → (byte == 1) ≡ one → (byte == 2) ≡ two → (one || two) ≡ true → byte ≡ machine_number (cond one One Two)
machine_by byte true two p q e = eqb-true byte 1 p
machine_by byte false true p q e = eqb-true byte 2 q
machine_by byte false false p q e = absurd (cc)

shape_good : (base size : ℕ) → (not (is_base base size) || not (is_size size)) ≡ false → (base % 4096 ≡ 0) × (base + size ≤ 2 ^ 32) × (size % 4 ≡ 0) × (65536 ≤ size) × (size ≤ 67108864)
shape_good base size e = (grind (arith, nat_tests), grind (arith, nat_tests), grind (arith, nat_tests), grind (arith, nat_tests), grind (arith, nat_tests))

three : (a b c : Bool) → (not a || not b || not c) ≡ false → (a ≡ true) × (b ≡ true) × (c ≡ true)
three true true true e = (refl, refl, refl)
three true true false e = absurd (cc)
three true false c e = absurd (cc)
three false b c e = absurd (cc)

header_has : (file : List ℕ) → first_fault (header_cases file) ≡ None → HasHeader file
header_has file e =
    let none = no_fault-six (nat_lt (length file) 20) (not (starts_with nat_eq file magic)) (not (slice_index file 4 == 1))
    (not ((slice_index file 5 == 1) || (slice_index file 5 == 2)) || not (slice_index file 6 == 0) || not (slice_index file 7 == 0))
    (not (is_base (word_at file 8) (word_at file 12)) || not (is_size (word_at file 12))) (nat_lt 1024 (count_in file))
    Short Magic faults.Version Machine faults.Shape Count e in
    let machine = three ((slice_index file 5 == 1) || (slice_index file 5 == 2)) (slice_index file 6 == 0) (slice_index file 7 == 0) none.3 in
    let good = shape_good (word_at file 8) (word_at file 12) none.4 in
    record {
      size = not_less (length file) 20 none.0;
      magic_is = sym ((bytes_decides magic (take 4 file)).0 (not_false (starts_with nat_eq file magic) none.1));
      format_is = eqb-true (slice_index file 4) 1 (not_false (slice_index file 4 == 1) none.2);
      machine_is = machine_by (slice_index file 5) (slice_index file 5 == 1) (slice_index file 5 == 2) refl refl machine.0;
      sixth = eqb-true (slice_index file 6) 0 machine.1;
      seventh = eqb-true (slice_index file 7) 0 machine.2;
      good = record { base = record { aligned = good.0; within = good.1 }; size = record { aligned = good.2; least = good.3; most = good.4 } };
      few = not_less 1024 (count_in file) none.5;
    }

four : (bytes : List ℕ) → 4 ≤ length bytes → take 4 bytes ≡ slice_index bytes 0 ∷ slice_index bytes 1 ∷ slice_index bytes 2 ∷ slice_index bytes 3 ∷ []
four [] h = absurd (omega arith)
four (a ∷ []) h = absurd (omega arith)
four (a ∷ b ∷ []) h = absurd (omega arith)
four (a ∷ b ∷ c ∷ []) h = absurd (omega arith)
four (a ∷ b ∷ c ∷ d ∷ bytes) h = refl

header_back : (file : List ℕ) → AreBytes file → HasHeader file → header_bytes (shape_in file) (count_in file) ≡ take 20 file
header_back file h has =
    let size = has.size in
    let magic_is = has.magic_is in
    let format_is = has.format_is in
    let machine_is = has.machine_is in
    let sixth = has.sixth in
    let seventh = has.seventh in
    let at : (k : ℕ) → slice_index (drop 4 file) k ≡ slice_index file (4 + k) = λ k. get_or-drop 4 file k 0 in
    let second : take 4 (drop 4 file) ≡ 1 ∷ machine_number (shape_in file).version ∷ 0 ∷ 0 ∷ [] =
    four (drop 4 file) (omega (arith, length-drop 4 file))
    ∙ λ i. (at 0 ∙ format_is) i ∷ (at 1 ∙ machine_is) i ∷ (at 2 ∙ sixth) i ∷ (at 3 ∙ seventh) i ∷ [] in
    let base = read_back 4 8 file h (omega arith) in
    let of = read_back 4 12 file h (omega arith) in
    let count = read_back 4 16 file h (omega arith) in
    (λ i. sym magic_is i ++ sym second i ++ base i ++ of i ++ count i)
    ∙ ap (λ list. list ++ take 4 (drop 8 file) ++ take 4 (drop 12 file) ++ take 4 (drop 16 file)) (parts_join 4 4 file)
    ∙ ap (λ list. list ++ take 4 (drop 12 file) ++ take 4 (drop 16 file)) (parts_join 8 4 file)
    ∙ ap (λ list. list ++ take 4 (drop 16 file)) (parts_join 12 4 file)
    ∙ parts_join 16 4 file

answer-Ok : (fault : Option SaveFault) (first saved : Saved) → answer fault first ≡ Ok saved → (fault ≡ None) × (saved ≡ first)
answer-Ok None first saved e = (refl, cc)
answer-Ok (Some fault) first saved e = absurd (cc)

-- the file of what it lists
listed_back : (file : List ℕ) → AreBytes file → first_fault (file_cases file) ≡ None → IsFileOf (listed_in file) file
unfolding entry_file
listed_back file h none =
    let first = none_parts (option_or (first_fault (header_cases file)) (first_fault (listed_cases file))) (first_fault (own_cases 0 (entries_of file))) (sym (file_fault-is file) ∙ none) in
    let both = none_parts (first_fault (header_cases file)) (first_fault (listed_cases file)) first.0 in
    let has = header_has file both.0 in
    let back = entries_back (shape_in file) 0 (count_in file) (drop 20 file) (AreBytes-drop 20 file h) has.good both.1 in
    let number = back.number in
    let few = has.few in
    let header = ap (header_bytes (shape_in file)) number ∙ header_back file h has in
    let rest = back.bytes_are in
    record {
      bytes = sym ((λ i. header i ++ rest i) ∙ take-append-drop 20 file);
      savable = record { good = has.good; count = omega arith; each = back.each };
      own = own_back 0 (entries_of file) first.1;
    }

backward : (saved : Saved) (file : List ℕ) → AreBytes file → saved_of file ≡ Ok saved → IsFileOf saved file
backward saved file h e =
    let is = answer-Ok (first_fault (file_cases file)) (listed_in file) saved (sym (saved_of-answer file) ∙ e) in
    subst (λ s. IsFileOf s file) (sym is.1) (listed_back file h is.0)

pub files_mean_their_entries : FilesMeanTheirEntries
files_mean_their_entries file saved h = (backward saved file h, forward saved file)
