-- The index is kept: where an entry is put, and where the oldest goes.
use Rattle.std.proofs.lemmas.List.Folds.{fold-map, list_any_at, list_any_none}
use Rattle.std.proofs.lemmas.Simd.{map-map}
use Rattle.std.proofs.Common.{◌≡◌, ℕ, zero, suc, ◌+◌, ◌-◌, ◌<◌, ◌≤◌, ◌==◌, ◌&&◌, Bool, true, false, cond, List, [], ◌∷◌, ◌++◌, length, get_or, map, None, Some, refl, sym, ap, subst, ◌∙◌, inl, inr, arith, add-one}
use Rattle.std.specs.Prelude.{All, count_by, nat_lt}
use Rattle.std.specs.List.{AllPairs, insert, list_any, position_or_len, remove}
use Rattle.std.specs.Ordering.{nat_cmp, ordering_reverse, is_eq, is_lt}
use Rattle.std.specs.Cmp.Lexicographic.{slice_cmp}
use Rattle.std.specs.declared.cmp.Ordering.TheVariants.{Less, Equal}
use lib.Pointwise.{pointwise}
use Rattle.std.proofs.lemmas.Bool.{and_parts, and_from, cases_Bool, cases_eq, cases_order, eq-eqb, eqb-true, ne_eqb, false≢true, false_from_ne_true, cond-true, cond-false, lt-ltb, ltb-false}
use Rattle.std.proofs.lemmas.Cmp.{tied_itself, alike_right}
use Rattle.std.proofs.lemmas.List.{length-map, get_or_append_left, get_or_push, get_or_default, length_push}
use Rattle.std.proofs.lemmas.List.Elements.{All-from_get_or, All-head, All-push, All-tail, All-map}
use Rattle.std.proofs.lemmas.List.Edits.{length-insert, length-remove}
use Rattle.std.proofs.lemmas.List.Quantifiers.{all_pairs_remove, position-Some}
use Rattle.std.proofs.lemmas.List.Sums.{get_or-le-sum_by, sum_by-cons, sum_by-insert, sum_by-remove, fails_before_first}
use Rattle.asc_model.specs.Shape.{Shape, is_same_shape}
use Rattle.asc_model.specs.Entry.{Entry, IsTrueEntry}
use Rattle.asc_shard.specs.Content.{is_same_entry}
use Rattle.asc_shard.specs.Inside.{IsIndex, by_all, by_group, by_head, by_key, by_tail, bytes_of, count_below, key_of, no_entry, places_of, sorted_of}
use Rattle.asc_shard.proofs.Orders.{all_total, is-equal, nat-equal, not-less, then-equal}
use Rattle.asc_shard.proofs.Lists.{count-none, all-insert, all-remove, map-insert, map-remove, pairs-insert}
use Rattle.asc_shard.proofs.Slots.{nth, sorted-length}
use Rattle.asc_shard.proofs.Ranges.{count-index, group-shape, group-places, same-list}
use Rattle.asc_model.proofs.Shapes.{is_same_shape-refl, is_same_shape-true}

-- ---- entries that are the same

abbrev is_same_cell : ℕ × ℕ → ℕ × ℕ → Bool
is_same_cell x y = (x.0 == y.0) && (x.1 == y.1)

same-cells : (xs ys : List (ℕ × ℕ)) → pointwise is_same_cell xs ys ≡ true → xs ≡ ys
same-cells [] [] e = refl
same-cells [] (y ∷ ys) e = cc
same-cells (x ∷ xs) [] e = cc
same-cells (x ∷ xs) (y ∷ ys) e =
    let parts = and_parts (is_same_cell x y) (pointwise is_same_cell xs ys) e in
    let both = and_parts (x.0 == y.0) (x.1 == y.1) parts.0 in
    λ i. (eqb-true x.0 y.0 both.0 i, eqb-true x.1 y.1 both.1 i) ∷ same-cells xs ys parts.1 i

cells-same : (xs ys : List (ℕ × ℕ)) → places_of xs ≡ places_of ys → bytes_of xs ≡ bytes_of ys → pointwise is_same_cell ys xs ≡ true
cells-same [] [] e k = refl
cells-same [] (y ∷ ys) e k = cc
cells-same (x ∷ xs) [] e k = cc
cells-same (x ∷ xs) (y ∷ ys) e k =
    let places : places_of xs ≡ places_of ys = cc in
    let bytes : bytes_of xs ≡ bytes_of ys = cc in
    and_from (is_same_cell y x) (pointwise is_same_cell ys xs) (and_from (y.0 == x.0) (y.1 == x.1) (eq-eqb y.0 x.0 cc) (eq-eqb y.1 x.1 cc)) (cells-same xs ys places bytes)

-- the order looks at these parts alone
abbrev parts_of : Shape → List (ℕ × ℕ) → ℕ → Entry
parts_of shape reads steps = record { shape = shape; reads = reads; writes = []; steps = steps }

pub same-equal : (e h : Entry) → is_same_entry e h ≡ true → by_all h e ≡ Equal
same-equal e h same =
    let parts = and_parts (is_same_shape e.shape h.shape && (e.steps == h.steps)) (pointwise is_same_cell e.reads h.reads) same in
    let first = and_parts (is_same_shape e.shape h.shape) (e.steps == h.steps) parts.0 in
    (λ i. by_all h (parts_of (is_same_shape-true e.shape h.shape first.0 i) (same-cells e.reads h.reads parts.1 i) (eqb-true e.steps h.steps first.1 i))) ∙ tied_itself all_total h

pub equal-same : (e h : Entry) → by_all h e ≡ Equal → is_same_entry e h ≡ true
equal-same e h equal =
    let parts = then-equal (by_head h e) (by_tail h e) equal in
    let group = (then-equal (by_key (key_of h) (key_of e)) (by_group h e) parts.0).1 in
    let tail = then-equal (slice_cmp nat_cmp (bytes_of h.reads) (bytes_of e.reads)) (nat_cmp h.steps e.steps) parts.1 in
    and_from (is_same_shape e.shape h.shape && (e.steps == h.steps)) (pointwise is_same_cell e.reads h.reads)
    (and_from (is_same_shape e.shape h.shape) (e.steps == h.steps) (ap (is_same_shape e.shape) (group-shape h e group) ∙ is_same_shape-refl e.shape)
    (eq-eqb e.steps h.steps (sym (nat-equal h.steps e.steps tail.1))))
    (cells-same h.reads e.reads (group-places h e group) (same-list (bytes_of h.reads) (bytes_of e.reads) tail.0))

-- ---- whether one is held

any-count : (f : Entry → Bool) (held : List Entry) → list_any f held ≡ nat_lt 0 (count_by f held)
any-count f [] = refl
any-count f (e ∷ held) =
    let counted = sum_by-cons (λ x. cond (f x) 1 0) e held in
    elim (cases_Bool (f e)) [
      | inl is ↦ rw (counted, is) (sym (lt-ltb 0 (1 + count_by f held) (omega arith)))
      | inr not ↦ rw (counted, not) (any-count f held ∙ ap (nat_lt 0) (let same : count_by f held ≡ 0 + count_by f held = omega arith in same))
    ]

pub any-index : (f : Entry → Bool) (held : List Entry) (slots : List ℕ) → IsIndex held slots → list_any f (sorted_of held slots) ≡ list_any f held
any-index f held slots index = any-count f (sorted_of held slots) ∙ ap (nat_lt 0) (count-index f held slots index) ∙ sym (any-count f held)

pub any-none : (f : Entry → Bool) (xs : List Entry) → ((i : ℕ) → i < length xs → f (nth xs i) ≡ false) → list_any f xs ≡ false
any-none f xs none = list_any_none f xs (All-from_get_or (λ x. f x ≡ false) xs no_entry none)

module _ (held : List Entry) (slots : List ℕ) (index : IsIndex held slots) (e : Entry) (place : ℕ)
    (before : (i : ℕ) → i < place → by_all (nth (sorted_of held slots) i) e ≡ Less)
    (rest : (i : ℕ) → place ≤ i → i < length slots → is_lt (by_all (nth (sorted_of held slots) i) e) ≡ false) where
  abbrev at : ℕ → Entry
  at i = nth (sorted_of held slots) i

  apart-from : (i : ℕ) → (by_all (at i) e ≡ Equal → ⊥) → is_same_entry e (at i) ≡ false
  apart-from i apart = false_from_ne_true (is_same_entry e (at i)) (λ same. apart (same-equal e (at i) same))

  -- where none stands behind the place
  pub same-none : length slots ≤ place → false ≡ list_any (is_same_entry e) held
  same-none done =
      sym (sym (any-index (is_same_entry e) held slots index) ∙ any-none (is_same_entry e) (sorted_of held slots)
      (λ i lt. apart-from i (λ equal. let no = sym (before i (omega (arith, sorted-length held slots))) ∙ equal in cc)))

  -- and else it is the one there, or none
  pub same-there : (r : Bool) → r ≡ is_eq (by_all (at place) e) → place < length slots → r ≡ list_any (is_same_entry e) held
  same-there r is lt = elim (cases_Bool (is_eq (by_all (at place) e))) [
    | inl equal ↦
        is ∙ equal ∙ sym (sym (any-index (is_same_entry e) held slots index)
        ∙ list_any_at (is_same_entry e) (sorted_of held slots) place no_entry (omega (arith, sorted-length held slots)) (equal-same e (at place) (is-equal (by_all (at place) e) equal)))
    | inr not ↦
        is ∙ not ∙ sym (sym (any-index (is_same_entry e) held slots index) ∙ any-none (is_same_entry e) (sorted_of held slots)
        (λ i below. apart-from i (λ equal. elim (cases_order i place) [
          | inl here ↦ false≢true (sym not ∙ ap (λ k. is_eq (by_all (at k) e)) (sym here) ∙ ap is_eq equal)
          | inr (inl first) ↦ let no = sym (before i first) ∙ equal in cc
          | inr (inr later) ↦
              let less = index.rise place i no_entry later below in
              let no = sym (rest place (omega arith) lt) ∙ ap is_lt (sym (alike_right all_total (at i) e (at place) equal) ∙ less) in
              false≢true no
        ])))
  ]

  -- where none is the same those behind the place come behind the entry
  pub behind-place : list_any (is_same_entry e) held ≡ false → (i : ℕ) → place ≤ i → i < length slots → by_all e (at i) ≡ Less
  behind-place none i least lt = elim (not-less (by_all (at i) e) (rest i least lt)) [
    | inl equal ↦
        let there = list_any_at (is_same_entry e) (sorted_of held slots) i no_entry (omega (arith, sorted-length held slots)) (equal-same e (at i) equal) in
        absurd (false≢true (sym (any-index (is_same_entry e) held slots index ∙ none) ∙ there))
    | inr more ↦ all_total.antisymm e (at i) ∙ ap ordering_reverse more
  ]

-- ---- an entry is put

map-same : (f g : ℕ → Entry) (slots : List ℕ) → All (λ slot. f slot ≡ g slot) slots → map f slots ≡ map g slots
map-same f g [] all = refl
map-same f g (slot ∷ slots) all =
    λ i. All-head (λ x. f x ≡ g x) slot slots all i ∷ map-same f g slots (All-tail (λ x. f x ≡ g x) slot slots all) i

pub sorted-added : (held : List Entry) (slots : List ℕ) (e : Entry) (place : ℕ) → IsIndex held slots → sorted_of (held ++ e ∷ []) (insert slots place (length held)) ≡ insert (sorted_of held slots) place e
sorted-added held slots e place index =
    let more = held ++ e ∷ [] in
    let old : (p : ℕ) → p < length held → nth more p ≡ nth held p = λ p lt. get_or_append_left held (e ∷ []) no_entry p lt in
    let last : nth more (length held) ≡ e = get_or_push held e no_entry (length held) refl in
    map-insert (nth more) slots place (length held)
    ∙ ap (λ list. insert list place (nth more (length held))) (map-same (nth more) (nth held) slots (λ k d lt. old (get_or slots k d) (index.within k d lt)))
    ∙ ap (insert (sorted_of held slots) place) last

pub index-added : (held : List Entry) (slots : List ℕ) (e : Entry) (place : ℕ) → IsIndex held slots → IsTrueEntry e → place ≤ length slots
    → ((i : ℕ) → i < place → by_all (nth (sorted_of held slots) i) e ≡ Less)
    → ((i : ℕ) → place ≤ i → i < length slots → is_lt (by_all (nth (sorted_of held slots) i) e) ≡ false)
    → list_any (is_same_entry e) held ≡ false → IsIndex (held ++ e ∷ []) (insert slots place (length held))
index-added held slots e place index true_e most before rest none =
    let more = held ++ e ∷ [] in
    let slot = length held in
    let longer : length more ≡ length held + 1 = length_push held e in
    let xs = sorted_of held slots in
    let size = sorted-length held slots in
    let sorted = sorted-added held slots e place index in
    record {
      true_all = All-push IsTrueEntry held e index.true_all true_e;
      size = length-insert slots place slot most ∙ ap (λ n. n + 1) index.size ∙ sym longer;
      within = all-insert (λ x. x < length more) slots place slot (λ k d lt. let within = index.within k d lt in omega (arith, within, longer)) (omega (arith, longer));
      once = λ f. sum_by-insert (λ x. cond (f x) 1 0) slots place slot ∙ ap (λ n. n + cond (f (length held)) 1 0) (index.once f)
          ∙ ap (count_below f) (sym (add-one (length held)) ∙ sym longer);
      rise = subst (AllPairs (λ a b. by_all a b ≡ Less)) (sym sorted)
          (pairs-insert (λ a b. by_all a b ≡ Less) xs place e (omega (arith, size)) index.rise
          (λ i d lt. ap (λ (x : Entry). by_all x e) (get_or_default xs i d no_entry (omega (arith, size))) ∙ before i lt)
          (λ i d least lt. ap (by_all e) (get_or_default xs i d no_entry lt) ∙ behind-place held slots index e place before rest none i least (omega (arith, size))));
    }

-- ---- the oldest goes

count-after : (f : ℕ → Bool) (n : ℕ) → count_below (λ p. f (p - 1)) (suc n) ≡ cond (f 0) 1 0 + count_below f n
count-after f zero = let e : 0 + cond {A = ℕ} (f 0) 1 0 ≡ cond (f 0) 1 0 + 0 = omega arith in ap (λ k. 0 + cond {A = ℕ} (f k) 1 0) (let z : 0 - 1 ≡ 0 = omega arith in z) ∙ e
count-after f (suc n) =
    let ih = count-after f n in
    let last = ap (λ k. cond {A = ℕ} (f k) 1 0) (let z : suc n - 1 ≡ n = omega arith in z) in
    omega (arith, ih, last)

none-zero : (slots : List ℕ) → count_by (λ p. p == 0) slots ≡ 0 → All (λ p. 1 ≤ p) slots
none-zero slots none k d lt =
    let le = get_or-le-sum_by (λ (x : ℕ). cond (x == 0) 1 0) slots k d lt in
    elim (cases_eq (get_or slots k d) 0) [
      | inl is ↦ let one = ap (λ (b : Bool). cond {A = ℕ} b 1 0) (eq-eqb (get_or slots k d) 0 is) in absurd (omega (arith, le, one, none))
      | inr apart ↦ omega (arith, apart)
    ]

count-zero : (n : ℕ) → 0 < n → count_below (λ p. p == 0) n ≡ 1
count-zero zero some = absurd (omega arith)
count-zero (suc zero) some = refl
count-zero (suc (suc n)) some =
    let ih = count-zero (suc n) (omega arith) in
    let here : cond {A = ℕ} (suc n == 0) 1 0 ≡ 0 = cond-false (suc n == 0) 1 0 (ne_eqb (suc n) 0 (λ e. omega arith)) in
    omega (arith, ih, here)

-- the oldest stands somewhere
pub oldest-there : (held : List Entry) (slots : List ℕ) → IsIndex held slots → 0 < length held → (k : ℕ) × (k < length slots) × (get_or slots k 0 ≡ 0)
oldest-there held slots index some =
    let is_oldest = λ (p : ℕ). p == 0 in
    let first = position_or_len is_oldest slots in
    let once = index.once (λ p. p == 0) in
    let one = count-zero (length held) some in
    elim (cases_Bool (nat_lt first (length slots))) [
      | inl there ↦
          let is = position-Some is_oldest slots first 0 (cond-true (nat_lt first (length slots)) (Some first) None there) in
          (first, is.0, eqb-true (get_or slots first 0) 0 is.1)
      | inr not ↦
          let most = ltb-false first (length slots) not in
          let none = count-none is_oldest slots (λ k d lt. fails_before_first is_oldest slots k d (omega (arith, most, lt))) in
          absurd (omega (arith, once, one, none))
    ]

module _ (x : Entry) (held : List Entry) (slots : List ℕ) (place : ℕ) (index : IsIndex (x ∷ held) slots) (lt : place < length slots) (is : get_or slots place 0 ≡ 0) where
  abbrev pub left : List ℕ
  left = remove slots place

  -- no other position is the oldest one's
  pub later : All (λ p. 1 ≤ p) left
  later =
      let counted = sum_by-remove (λ (x : ℕ). cond (x == 0) 1 0) slots place 0 lt in
      let here = ap (λ (b : Bool). cond {A = ℕ} b 1 0) (eq-eqb (get_or slots place 0) 0 is) in
      none-zero left (omega (arith, counted, here, index.once (λ p. p == 0), count-zero (length (x ∷ held)) (omega arith)))

  behind : (k d : ℕ) → k < length left → nth (x ∷ held) (get_or left k d) ≡ nth held (get_or left k d - 1)
  behind k d below = let least = later k d below in ap (nth (x ∷ held)) (let e : get_or left k d ≡ suc (get_or left k d - 1) = omega (arith, least) in e)

  pub sorted-without : sorted_of held (map (λ p. p - 1) left) ≡ remove (sorted_of (x ∷ held) slots) place
  sorted-without =
      map-map (nth held) (λ (p : ℕ). p - 1) left ∙ sym (map-same (nth (x ∷ held)) (λ p. nth held (p - 1)) left behind) ∙ map-remove (nth (x ∷ held)) slots place

  pub index-without : IsIndex held (map (λ p. p - 1) left)
  index-without =
      let within = all-remove (λ p. p < length (x ∷ held)) slots place index.within in
      let fell = length-map left (λ (p : ℕ). p - 1) in
      let short = length-remove slots place lt in
      record {
        true_all = All-tail IsTrueEntry x held index.true_all;
        size = let size = index.size in omega (arith, fell, short, size);
        within = All-map (λ p. p < length held) (λ (p : ℕ). p - 1) left
            (λ k d below. let least = later k d below in let most = within k d below in omega (arith, least, most));
        once = λ f.
            let counted = sum_by-remove (λ (p : ℕ). cond (f (p - 1)) 1 0) slots place 0 lt in
            let once = index.once (λ p. f (p - 1)) in
            let after = count-after f (length held) in
            let here = ap (λ p. cond {A = ℕ} (f (p - 1)) 1 0) is in
            fold-map (λ (a p : ℕ). a + cond (f p) 1 0) (λ (p : ℕ). p - 1) 0 left ∙ (omega (arith, counted, once, after, here));
        rise = subst (AllPairs (λ a b. by_all a b ≡ Less)) (sym sorted-without)
            (all_pairs_remove (λ a b. by_all a b ≡ Less) (sorted_of (x ∷ held) slots) place (omega (arith, lt, sorted-length (x ∷ held) slots)) index.rise);
      }
