-- The entry of steps is an entry, true, and its own.
use Rattle.std.proofs.Common.{◌≡◌, ℕ, zero, suc, ◌+◌, ◌^◌, ◌<◌, ◌≤◌, Bool, true, false, ◌&&◌, ◌||◌, ◌==◌, nat_lt, List, [], ◌∷◌, map, length, get_or, replicate, slice_index, slice_set, All, filter, Option, Some, None, refl, sym, ap, subst, ◌∙◌, inl, inr, arith, length-set}
use Rattle.std.specs.List.Sorted.{IsStrictlyIncreasing}
use Rattle.std.proofs.lemmas.Bool.{cases_Bool, cases_eq, cases_lt, eqb-true, eq-eqb, ne_eqb, false≢true, and_parts, and_from, and_left, and_right, or_left, or_right, or_from, or_parts, cond-true, cond-false, lt-ltb, le-ltb, ltb-true}
use Rattle.std.proofs.lemmas.List.{get_or-set_same, get_or-set_other, get_or_past, ext_get_or, length-replicate}
use Rattle.std.proofs.lemmas.List.Elements.{All-nil, All-cons, All-head, All-tail, All-map, All-filter}
use Rattle.asc_model.specs.Shape.{length_of}
use Rattle.asc_model.specs.Number.{AreBytes}
use Rattle.asc_model.specs.State.{State, IsState}
use Rattle.asc_model.specs.Step.{Next, Went, Call, Faulted}
use Rattle.asc_model.specs.Plain.{plain}
use Rattle.asc_model.specs.Places.{places_from, bytes_after}
use Rattle.asc_model.specs.DependencyVector.{is_among, first_reads, written_in}
use Rattle.asc_model.specs.Entry.{IsTrueEntry, Entry, IsListing, IsEntry, Matches, put_entry, HoldsEverywhere, cells_among, entry_of, own_start, IsCanonical}
use Rattle.asc_model.specs.Laws.{AgreeOn, PlainStepsAlike, EntriesAreTrue}
use Rattle.asc_model.proofs.Numbers.{length-bytes_after}
use Rattle.asc_model.proofs.Touches.{places_from-AllBelow}
use Rattle.asc_model.proofs.PlainSteps.{plain_steps_keep_states}
use Rattle.asc_model.proofs.Frames.{one_of_all, none_of_all, many_steps_frame}
use Rattle.asc_model.proofs.Listings.{RisesFrom-filter, increasing-RisesFrom}

-- ---- places of a list

-- what is at an index of a list is among it
among-get_or : (places : List ℕ) (k d : ℕ) → k < length places → is_among (get_or places k d) places ≡ true
among-get_or [] k d lt = absurd (omega arith)
among-get_or (first ∷ places) zero d lt = or_left (first == first) (is_among first places) (eq-eqb first first refl)
among-get_or (first ∷ places) (suc k) d lt =
    let place = get_or places k d in
    or_right (first == place) (is_among place places) (among-get_or places k d (omega arith))

-- what each place among a list has, all of it has
all_of_each : (P : ℕ → Type 0) (places : List ℕ) → ((place : ℕ) → is_among place places ≡ true → P place)
    → All P places
all_of_each P places h k d lt = h (get_or places k d) (among-get_or places k d lt)

-- whether a place is the first one or passes and is among the others, where the first one passes
passed_first : (first passes rest : Bool) → (first ≡ true → passes ≡ true)
    → (first || (passes && rest)) ≡ (passes && (first || rest))
passed_first true true rest h = refl
passed_first true false rest h = let e : false ≡ true = h refl in absurd (cc)
passed_first false passes rest h = refl

-- the same, where the first one does not pass
failed_first : (first passes rest : Bool) → (first ≡ true → passes ≡ false)
    → (passes && rest) ≡ (passes && (first || rest))
failed_first true true rest h = let e : true ≡ false = h refl in absurd (cc)
failed_first true false rest h = refl
failed_first false passes rest h = refl

-- a place is among those of a list that pass a test where it passes and is among the list
pub among-filter : (f : ℕ → Bool) (places : List ℕ) (place : ℕ)
    → is_among place (filter f places) ≡ (f place && is_among place places)
among-filter f [] place = sym (and_right (f place) false refl)
among-filter f (first ∷ places) place =
    let rest = filter f places in
    let ih = among-filter f places place in
    elim (cases_Bool (f first)) [
      | inl e ↦ ap (is_among place) (cond-true (f first) (first ∷ rest) rest e) ∙ ap (λ x. (first == place) || x) ih
          ∙ passed_first (first == place) (f place) (is_among place places) (λ same. ap f (sym (eqb-true first place same)) ∙ e)
      | inr e ↦ ap (is_among place) (cond-false (f first) (first ∷ rest) rest e) ∙ ih
          ∙ failed_first (first == place) (f place) (is_among place places) (λ same. ap f (sym (eqb-true first place same)) ∙ e)
    ]

-- a place in a row is among its places
among-places_from : (start n place : ℕ) → start ≤ place → place < start + n
    → is_among place (places_from start n) ≡ true
among-places_from start zero place least most = absurd (omega arith)
among-places_from start (suc n) place least most = elim (cases_eq start place) [
  | inl e ↦ or_left (start == place) (is_among place (places_from (start + 1) n)) (eq-eqb start place e)
  | inr apart ↦ or_right (start == place) (is_among place (places_from (start + 1) n)) (among-places_from (start + 1) n place (omega (arith, apart)) (omega arith))
]

-- a place past a row is not among its places
not_among-places_from : (start n place : ℕ) → start + n ≤ place → is_among place (places_from start n) ≡ false
not_among-places_from start zero place h = refl
not_among-places_from start (suc n) place h =
    or_from (start == place) (is_among place (places_from (start + 1) n)) (ne_eqb start place (λ e. omega arith)) (not_among-places_from (start + 1) n place (omega arith))

-- the places below n are those that the test says
among-below : (n place : ℕ) → is_among place (places_from 0 n) ≡ nat_lt place n
among-below n place = elim (cases_lt place n) [
  | inl lt ↦ among-places_from 0 n place (omega arith) (omega arith) ∙ sym (lt-ltb place n lt)
  | inr le ↦ not_among-places_from 0 n place (omega arith) ∙ sym (le-ltb place n le)
]

-- those of the places below n that are among these
abbrev places_among : List ℕ → ℕ → List ℕ
places_among places n = filter (λ place. is_among place places) (places_from 0 n)

-- a place is among them where it is among these and below n
pub among-places_among : (places : List ℕ) (n place : ℕ)
    → is_among place (places_among places n) ≡ (is_among place places && nat_lt place n)
among-places_among places n place =
    among-filter (λ p. is_among p places) (places_from 0 n) place ∙ ap (λ x. is_among place places && x) (among-below n place)

-- both parts of that, and from both
parts-places_among : (places : List ℕ) (n place : ℕ) → is_among place (places_among places n) ≡ true
    → (is_among place places ≡ true) × (place < n)
parts-places_among places n place h =
    let both = and_parts (is_among place places) (nat_lt place n) (sym (among-places_among places n place) ∙ h) in
    (both.0, ltb-true place n both.1)

from-places_among : (places : List ℕ) (n place : ℕ) → is_among place places ≡ true → place < n
    → is_among place (places_among places n) ≡ true
from-places_among places n place h lt =
    among-places_among places n place ∙ and_from (is_among place places) (nat_lt place n) h (lt-ltb place n lt)

-- what is not among these is not among those of them below n
not_among-places_among : (places : List ℕ) (n place : ℕ) → is_among place places ≡ false
    → is_among place (places_among places n) ≡ false
not_among-places_among places n place h = among-places_among places n place ∙ and_left (is_among place places) (nat_lt place n) h

-- ---- cells

-- these places, each with its byte of a list
abbrev cells_at : List ℕ → List ℕ → List (ℕ × ℕ)
cells_at bytes places = map (λ place. (place, slice_index bytes place)) places

-- the places of cells are those that they were made of
places-cells_at : (bytes places : List ℕ) → map (λ cell. cell.0) (cells_at bytes places) ≡ places
places-cells_at bytes [] = refl
places-cells_at bytes (place ∷ places) = ap (λ rest. place ∷ rest) (places-cells_at bytes places)

-- the same bytes make the same cells
cells_at-same : (a b places : List ℕ) → All (λ p. slice_index a p ≡ slice_index b p) places
    → cells_at b places ≡ cells_at a places
cells_at-same a b [] h = refl
cells_at-same a b (place ∷ places) h =
    let same = λ (p : ℕ). slice_index a p ≡ slice_index b p in
    let first = sym (All-head same place places h) in
    let rest = cells_at-same a b places (All-tail same place places h) in
    λ i. (place, first i) ∷ rest i

-- what each cell has, its place and its byte have
All-cells_at : (P : ℕ × ℕ → Type 0) (bytes places : List ℕ) → All P (cells_at bytes places)
    → All (λ p. P (p, slice_index bytes p)) places
All-cells_at P bytes [] h = All-nil (λ p. P (p, slice_index bytes p))
All-cells_at P bytes (place ∷ places) h =
    All-cons (λ p. P (p, slice_index bytes p)) place places (All-head P (place, slice_index bytes place) (cells_at bytes places) h)
    (All-cells_at P bytes places (All-tail P (place, slice_index bytes place) (cells_at bytes places) h))

-- a place that is not written keeps its byte
bytes_after-not_among : (bytes new places : List ℕ) (k : ℕ) → is_among k places ≡ false
    → slice_index (bytes_after bytes (cells_at new places)) k ≡ slice_index bytes k
bytes_after-not_among bytes new [] k h = refl
bytes_after-not_among bytes new (place ∷ places) k h =
    let both = or_parts (place == k) (is_among k places) h in
    let apart : k ≡ place → ⊥ = λ e. false≢true (sym both.0 ∙ eq-eqb place k (sym e)) in
    bytes_after-not_among (slice_set bytes place (slice_index new place)) new places k both.1
    ∙ get_or-set_other bytes place k (slice_index new place) 0 apart

-- where the second test fails both come to the first
or_false : (x y : Bool) → y ≡ false → x || y ≡ true → x ≡ true
or_false true y e h = refl
or_false false y e h = absurd (cc)

-- a place that is written has its new byte
bytes_after-among : (bytes new places : List ℕ) (k : ℕ) → k < length bytes → is_among k places ≡ true
    → slice_index (bytes_after bytes (cells_at new places)) k ≡ slice_index new k
bytes_after-among bytes new [] k lt h = absurd (cc)
bytes_after-among bytes new (place ∷ places) k lt h =
    let byte = slice_index new place in
    let changed = slice_set bytes place byte in
    elim (cases_Bool (is_among k places)) [
      | inl later ↦ bytes_after-among changed new places k (omega (arith, length-set bytes place byte)) later
      | inr last ↦
          let same = eqb-true place k (or_false (place == k) (is_among k places) last h) in
          bytes_after-not_among changed new places k last ∙ ap (λ p. slice_index (slice_set bytes p (slice_index new p)) k) same
          ∙ get_or-set_same bytes k (slice_index new k) 0 lt
    ]

-- the cells of a state are cells of its shape
cells_among-IsListing : (places : List ℕ) (s : State) → IsState s → IsListing s.shape (cells_among places s)
cells_among-IsListing places s good =
    let listed = places_among places (length s.bytes) in
    record {
      rise = subst IsStrictlyIncreasing (sym (places-cells_at s.bytes listed)) (increasing-RisesFrom 0 listed (RisesFrom-filter (λ p. is_among p places) 0 (length s.bytes)));
      places = All-map (λ (cell : ℕ × ℕ). cell.0 < length_of s.shape) (λ p. (p, slice_index s.bytes p)) listed
          (All-filter (λ p. is_among p places) (λ p. p < length_of s.shape) (places_from 0 (length s.bytes))
          (places_from-AllBelow (length_of s.shape) 0 (length s.bytes) (omega (arith, good.length))));
      bytes = All-map (λ (cell : ℕ × ℕ). cell.1 < 2 ^ 8) (λ p. (p, slice_index s.bytes p)) listed (λ k d lt. good.bytes (get_or listed k d));
    }

-- the same places of states of one length that agree on them make the same cells
cells_among-same : (places others : List ℕ) (s t : State) → others ≡ places → length t.bytes ≡ length s.bytes
    → AgreeOn places s t
    → cells_among others t ≡ cells_among places s
cells_among-same places others s t e long agree =
    let same = λ (p : ℕ). slice_index s.bytes p ≡ slice_index t.bytes p in
    let listed = places_among places (length s.bytes) in
    ap (λ list. cells_among list t) e ∙ ap (λ n. cells_at t.bytes (places_among places n)) long
    ∙ cells_at-same s.bytes t.bytes listed
    (all_of_each same listed (λ p h. one_of_all same places p (parts-places_among places (length s.bytes) p h).0 agree))

-- a state of the length of another that has the bytes of its cells agrees with it on their places
agree_by_cells : (places : List ℕ) (s t : State) → length t.bytes ≡ length s.bytes
    → All (λ cell. slice_index t.bytes cell.0 ≡ cell.1) (cells_among places s) → AgreeOn places s t
agree_by_cells places s t long h =
    let same = λ (p : ℕ). slice_index s.bytes p ≡ slice_index t.bytes p in
    let n = length s.bytes in
    let listed = places_among places n in
    let here = All-cells_at (λ (cell : ℕ × ℕ). slice_index t.bytes cell.0 ≡ cell.1) s.bytes listed h in
    all_of_each same places (λ p among. elim (cases_lt p n) [
      | inl lt ↦ sym (one_of_all (λ (q : ℕ). slice_index t.bytes q ≡ slice_index s.bytes q) listed p (from-places_among places n p among lt) here)
      | inr past ↦ get_or_past s.bytes p 0 past ∙ sym (get_or_past t.bytes p 0 (omega (arith, long)))
    ])

-- ---- the entry of steps

-- the entry of n steps of a state that lead to another
abbrev pub made : ℕ → (s after : State) → Entry
made n s after = record {
  shape = s.shape;
  reads = cells_among (first_reads n s) s;
  writes = cells_among (written_in n s) after;
  steps = n;
}

-- the entry of n steps of a state, by what they come to
abbrev pub entry_at : ℕ → State → Next → Option Entry
entry_at n s (Went after) = Some (made n s after)
entry_at n s Call = None
entry_at n s (Faulted fault) = None

-- steps that come to this have this entry
pub entry_of-is : (n : ℕ) (s : State) (x : Next) → plain n s ≡ x → entry_of n s ≡ entry_at n s x
unfolding entry_of
entry_of-is n s x e = ap (entry_at n s) e

-- steps that have an entry go on, and it is the one of the state to which they lead
pub entry_by : (n : ℕ) (s : State) (e : Entry) (x : Next) → plain n s ≡ x → entry_of n s ≡ Some e
    → (after : State) × (plain n s ≡ Went after) × (made n s after ≡ e)
entry_by n s e (Went after) p h = (after, p, let same : Some (made n s after) ≡ Some e = sym (entry_of-is n s (Went after) p) ∙ h in cc)
entry_by n s e Call p h = let none : None ≡ Some e = sym (entry_of-is n s Call p) ∙ h in absurd (cc)
entry_by n s e (Faulted fault) p h = let none : None ≡ Some e = sym (entry_of-is n s (Faulted fault) p) ∙ h in absurd (cc)

-- states of one shape with the same bytes
same_state : (a b : State) → a.shape ≡ b.shape → a.bytes ≡ b.bytes → a ≡ b
same_state a b p q = λ i. record { shape = p i; bytes = q i }

-- each of many zeros is 0
zeros-byte : (n k : ℕ) → slice_index (replicate n 0) k ≡ 0
zeros-byte zero k = refl
zeros-byte (suc n) zero = refl
zeros-byte (suc n) (suc k) = zeros-byte n k

module _ (n : ℕ) (s after : State) (good : IsState s) (goes : plain n s ≡ Went after) where
  -- their entry
  abbrev e : Entry
  e = made n s after

  -- the places that are read first
  abbrev places : List ℕ
  places = places_among (first_reads n s) (length s.bytes)

  -- they lead to a state of the shape
  kept : IsState after × (after.shape ≡ s.shape)
  kept = plain_steps_keep_states n s after good goes

  -- a state of the shape has as many bytes
  same_length : (t : State) → IsState t → t.shape ≡ s.shape → length t.bytes ≡ length s.bytes
  same_length t good' same = good'.length ∙ ap length_of same ∙ sym good.length

  -- a state that the entry matches takes the steps alike
  goes_alike : (t : State) → IsState t → Matches e t → PlainStepsAlike n s after t
  goes_alike t good' h =
      many_steps_frame n s after t good good' h.shape goes (agree_by_cells (first_reads n s) s t (same_length t good' h.shape) h.reads)

  -- each byte after such steps is the one after the entry's writes
  byte_left : (t : State) → IsState t → t.shape ≡ s.shape → (alike : PlainStepsAlike n s after t) → (k : ℕ)
      → k < length t.bytes
      → slice_index alike.other.bytes k ≡ slice_index (put_entry e t).bytes k
  byte_left t good' same alike k lt =
      let written = written_in n s in
      let long = length after.bytes in
      let below : k < long = omega (arith, lt, same_length t good' same, same_length after kept.0 kept.1) in
      elim (cases_Bool (is_among k written)) [
        | inl h ↦
            sym (one_of_all (λ (p : ℕ). slice_index after.bytes p ≡ slice_index alike.other.bytes p) written k h alike.alike.agree)
            ∙ sym (bytes_after-among t.bytes after.bytes (places_among written long) k lt (from-places_among written long k h below))
        | inr h ↦
            alike.alike.other_kept k (none_of_all written k h)
            ∙ sym (bytes_after-not_among t.bytes after.bytes (places_among written long) k (not_among-places_among written long k h))
      ]

  everywhere : HoldsEverywhere e
  everywhere t good' h =
      let alike = goes_alike t good' h in
      let other = alike.other in
      let put = put_entry e t in
      let kept' = plain_steps_keep_states n t other good' alike.goes in
      let long : length other.bytes ≡ length t.bytes = kept'.0.length ∙ ap length_of kept'.1 ∙ sym good'.length in
      let bytes : other.bytes ≡ put.bytes = ext_get_or 0 other.bytes put.bytes (long ∙ sym (length-bytes_after t.bytes e.writes))
      (λ k lt. byte_left t good' h.shape alike k (omega (arith, lt, long))) in
      alike.goes ∙ ap Went (same_state other put kept'.1 bytes)

  is_entry : 1 ≤ n → IsEntry e
  is_entry least = record {
    shape = good.shape;
    reads = cells_among-IsListing (first_reads n s) s good;
    writes = subst (λ shape. IsListing shape (cells_among (written_in n s) after)) kept.1 (cells_among-IsListing (written_in n s) after kept.0);
    steps = least;
  }

  -- ---- its own start

  -- a place that is read has its byte there
  own-read : (k : ℕ) → is_among k places ≡ true → slice_index (own_start e).bytes k ≡ slice_index s.bytes k
  own-read k h =
      let below : k < length s.bytes = (parts-places_among (first_reads n s) (length s.bytes) k h).1 in
      bytes_after-among (replicate (length_of s.shape) 0) s.bytes places k (omega (arith, below, good.length, length-replicate {A = ℕ} (length_of s.shape) 0)) h

  -- each other place has 0
  own-other : (k : ℕ) → is_among k places ≡ false → slice_index (own_start e).bytes k ≡ 0
  own-other k h = bytes_after-not_among (replicate (length_of s.shape) 0) s.bytes places k h ∙ zeros-byte (length_of s.shape) k

  own-AreBytes : AreBytes (own_start e).bytes
  own-AreBytes k = elim (cases_Bool (is_among k places)) [
    | inl h ↦ subst (λ byte. byte < 2 ^ 8) (sym (own-read k h)) (good.bytes k)
    | inr h ↦ subst (λ byte. byte < 2 ^ 8) (sym (own-other k h)) (omega arith)
  ]

  own-IsState : IsState (own_start e)
  own-IsState = record {
    shape = good.shape;
    length = length-bytes_after (replicate (length_of s.shape) 0) e.reads ∙ length-replicate (length_of s.shape) 0;
    bytes = own-AreBytes;
  }

  -- the entry matches it
  own-Matches : Matches e (own_start e)
  own-Matches = record {
    shape = refl;
    reads = All-map (λ (cell : ℕ × ℕ). slice_index (own_start e).bytes cell.0 ≡ cell.1) (λ p. (p, slice_index s.bytes p)) places
        (all_of_each (λ p. slice_index (own_start e).bytes p ≡ slice_index s.bytes p) places own-read);
  }

  -- from each state that the entry matches it is the entry of as many steps
  pub again : (t : State) → IsState t → Matches e t → entry_of n t ≡ Some e
  again t good' h =
      let alike = goes_alike t good' h in
      let other = alike.other in
      let kept' = plain_steps_keep_states n t other good' alike.goes in
      let long : length other.bytes ≡ length after.bytes = same_length other kept'.0 (kept'.1 ∙ h.shape) ∙ sym (same_length after kept.0 kept.1) in
      let agree = agree_by_cells (first_reads n s) s t (same_length t good' h.shape) h.reads in
      let reads = cells_among-same (first_reads n s) (first_reads n t) s t alike.read (same_length t good' h.shape) agree in
      let writes = cells_among-same (written_in n s) (written_in n t) after other alike.written long alike.alike.agree in
      entry_of-is n t (Went other) alike.goes ∙ λ i. Some (record { shape = h.shape i; reads = reads i; writes = writes i; steps = n })

  is_own : IsCanonical e
  is_own = again (own_start e) own-IsState own-Matches

pub entries_are_true : EntriesAreTrue
entries_are_true n s e good least h =
    let found = entry_by n s e (plain n s) refl h in
    subst IsTrueEntry found.2 (record {
      entry = is_entry n s found.0 good found.1 least;
      everywhere = everywhere n s found.0 good found.1;
      own = is_own n s found.0 good found.1;
    })
