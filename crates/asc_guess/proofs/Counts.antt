-- The counts at which an address stands, in a profile and in the same pairs in order.
use Rattle.std.proofs.Common.{◌≡◌, inl, inr, ℕ, suc, ◌+◌, ◌<◌, ◌≤◌, Bool, true, false, cond, ◌&&◌, ◌==◌, List, [], ◌∷◌, length, map, filter, get_or, count_by, IsPermutation, IsSorted, refl, sym, ap, ◌∙◌, arith, nat_cmp, is_lt, eqb-true}
use Rattle.std.specs.Ordering.{ordering_then}
use Rattle.std.specs.Cmp.{IsStrictWeakOrder}
use Rattle.std.specs.List.Sorted.{IsNonDecreasingBy, IsNonDecreasing}
use Rattle.std.proofs.lemmas.Bool.Decides.{nat_tests}
use Rattle.std.proofs.lemmas.Bool.{cases_lt}
use Rattle.std.proofs.lemmas.List.{get_or-map}
use Rattle.std.proofs.lemmas.List.Sums.{sum_by-cons}
use Rattle.std.proofs.lemmas.List.Sorted.{sum_by-IsPermutation, IsNonDecreasingBy-from_all_adjacent}
use Rattle.std.proofs.lemmas.List.Kept.{IsNonDecreasingBy-filter, IsSortedBy-filter}
use Rattle.std.proofs.lemmas.List.Elements.{filter_passes}
use Rattle.std.proofs.Math.ListN.{length-map}
use Rattle.asc_guess.specs.Choice.{CountsRise, counts_with, candidate_of, distance_in}

-- ---- lists of numbers that do not fall

abbrev times : ℕ → List ℕ → ℕ
times v xs = count_by (λ x. x == v) xs

times-cons : (v x : ℕ) (xs : List ℕ) → times v (x ∷ xs) ≡ cond (x == v) 1 0 + times v xs
times-cons v x xs = sum_by-cons (λ y. cond (y == v) 1 0) x xs

tail_up : (x : ℕ) (xs : List ℕ) → IsNonDecreasing (x ∷ xs) → IsNonDecreasing xs
tail_up x xs up = λ i j d l m. up (suc i) (suc j) d (omega arith) (omega arith)

none_below : (v : ℕ) (xs : List ℕ) → ((k : ℕ) → k < length xs → v < get_or xs k 0) → times v xs ≡ 0
none_below v [] h = refl
none_below v (x ∷ xs) h =
    let e = times-cons v x xs in let f = none_below v xs (λ k l. h (suc k) (omega arith)) in
    let g : v < x = h 0 (omega arith) in
    grind (arith, nat_tests)

-- the first is no greater than that of another with the same numbers
first_le : (x y : ℕ) (xs ys : List ℕ) → IsNonDecreasing (x ∷ xs) → ((v : ℕ) → times v (x ∷ xs) ≡ times v (y ∷ ys)) → x ≤ y
first_le x y xs ys up h = elim (cases_lt y x) [
  | inl below ↦ absurd (
      let e = none_below y (x ∷ xs) (λ k l. let m = up 0 k 0 (omega arith) l in omega arith) in
      let f = times-cons y y ys in let g = h y in grind (arith, nat_tests))
  | inr least ↦ least
]

rest_same : (x v a b : ℕ) → cond (x == v) 1 0 + a ≡ cond (x == v) 1 0 + b → a ≡ b
rest_same x v a b h = omega arith

same_numbers : (xs ys : List ℕ) → IsNonDecreasing xs → IsNonDecreasing ys → ((v : ℕ) → times v xs ≡ times v ys) → xs ≡ ys
same_numbers [] [] a b h = refl
same_numbers [] (y ∷ ys) a b h = absurd (let e = h y in let f = times-cons y y ys in grind (arith, nat_tests))
same_numbers (x ∷ xs) [] a b h = absurd (let e = h x in let f = times-cons x x xs in grind (arith, nat_tests))
same_numbers (x ∷ xs) (y ∷ ys) a b h =
    let least = first_le x y xs ys a h in
    let most = first_le y x ys xs b (λ v. sym (h v)) in
    let e : y ≡ x = omega arith in
    let rest : (v : ℕ) → times v xs ≡ times v ys = λ v.
    rest_same x v (times v xs) (times v ys) (sym (times-cons v x xs) ∙ h v ∙ times-cons v y ys ∙ ap (λ n. cond (n == v) 1 0 + times v ys) e) in
    ap (λ l. x ∷ l) (same_numbers xs ys (tail_up x xs a) (tail_up y ys b) rest) ∙ ap (λ n. n ∷ ys) (sym e)

-- ---- pairs

-- how often a count stands at an address
abbrev stands_with : (a v : ℕ) → ℕ × ℕ → Bool
stands_with a v pair = (pair.0 == a) && (pair.1 == v)

times_if : (v c : ℕ) (b : Bool) (ns : List ℕ) → times v (cond b (c ∷ ns) ns) ≡ cond (b && (c == v)) 1 0 + times v ns
times_if v c true ns = times-cons v c ns
times_if v c false ns = omega arith

map_if : (b : Bool) (x : ℕ × ℕ) (xs : List (ℕ × ℕ)) → map (λ (pair : ℕ × ℕ). pair.1) (cond b (x ∷ xs) xs) ≡ cond b (x.1 ∷ map (λ (pair : ℕ × ℕ). pair.1) xs) (map (λ (pair : ℕ × ℕ). pair.1) xs)
map_if true x xs = refl
map_if false x xs = refl

times-counts_with : (a v : ℕ) (profile : List (ℕ × ℕ)) → times v (counts_with profile a) ≡ count_by (stands_with a v) profile
times-counts_with a v [] = refl
times-counts_with a v (x ∷ xs) =
    ap (times v) (map_if (x.0 == a) x (filter (λ (pair : ℕ × ℕ). pair.0 == a) xs))
    ∙ times_if v x.1 (x.0 == a) (counts_with xs a)
    ∙ ap (λ n. cond (stands_with a v x) 1 0 + n) (times-counts_with a v xs)
    ∙ sym (sum_by-cons (λ (pair : ℕ × ℕ). cond (stands_with a v pair) 1 0) x xs)

mapped_up : (xs : List (ℕ × ℕ)) → IsNonDecreasingBy (λ (pair : ℕ × ℕ). pair.1) xs → IsNonDecreasing (map (λ (pair : ℕ × ℕ). pair.1) xs)
mapped_up xs up = λ i j d l m.
    let n : j < length xs = omega (arith, length-map xs (λ (pair : ℕ × ℕ). pair.1)) in
    let e = get_or-map (λ (pair : ℕ × ℕ). pair.1) xs i (0, 0) d (omega arith) in
    let f = get_or-map (λ (pair : ℕ × ℕ). pair.1) xs j (0, 0) d n in
    let g = up i j (0, 0) l n in
    omega arith

-- the counts of a profile do not fall, nor do those of an address
profile_up : (profile : List (ℕ × ℕ)) (a : ℕ) → CountsRise profile → IsNonDecreasing (counts_with profile a)
profile_up profile a rise = mapped_up (filter (λ (pair : ℕ × ℕ). pair.0 == a) profile)
    (IsNonDecreasingBy-filter (λ (pair : ℕ × ℕ). pair.1) (λ (pair : ℕ × ℕ). pair.0 == a) profile
    (IsNonDecreasingBy-from_all_adjacent (λ (pair : ℕ × ℕ). pair.1) profile (λ k d l. let h = rise k d l in omega arith)))

-- ---- pairs in order

abbrev pub comes_before : ℕ × ℕ → ℕ × ℕ → Bool
comes_before x y = is_lt (ordering_then (nat_cmp x.0 y.0) (nat_cmp x.1 y.1))

abbrev pub AreInOrder : List (ℕ × ℕ) → Type 0
AreInOrder sorted = IsSorted (λ (x y : ℕ × ℕ). ordering_then (nat_cmp x.0 y.0) (nat_cmp x.1 y.1)) sorted

-- one that does not come before another
pub record NotBefore (a b c d : ℕ) : Type 0 where
  pub address : c ≤ a
  pub count : a ≡ c → d ≤ b

pub not_before : (a b c d : ℕ) → is_lt (ordering_then (nat_cmp a c) (nat_cmp b d)) ≡ false → NotBefore a b c d
not_before a b c d h = record { address = grind (arith, nat_tests); count = λ e. grind (arith, nat_tests) }

not_before-is : (a b c d : ℕ) → NotBefore a b c d → is_lt (ordering_then (nat_cmp a c) (nat_cmp b d)) ≡ false
not_before-is a b c d h = let p = h.address in let q = h.count in grind (arith, nat_tests)

pub in_order : IsStrictWeakOrder comes_before
in_order = record {
  one_way = λ x y h. grind (arith, nat_tests);
  chain = λ x y z h k.
      let p = not_before x.0 x.1 y.0 y.1 h in let q = not_before y.0 y.1 z.0 z.1 k in
      not_before-is x.0 x.1 z.0 z.1 (record {
        address = omega (arith, p.address, q.address);
        count = λ e. omega (arith, p.address, q.address, p.count (omega (arith, p.address, q.address)), q.count (omega (arith, p.address, q.address)));
      });
}

sorted_up : (sorted : List (ℕ × ℕ)) (a : ℕ) → AreInOrder sorted → IsNonDecreasing (counts_with sorted a)
sorted_up sorted a order =
    let there = filter (λ (pair : ℕ × ℕ). pair.0 == a) sorted in
    let ordered = IsSortedBy-filter comes_before in_order (λ (pair : ℕ × ℕ). pair.0 == a) sorted order in
    let passes = filter_passes (λ (pair : ℕ × ℕ). pair.0 == a) sorted in
    mapped_up there (IsNonDecreasingBy-from_all_adjacent (λ (pair : ℕ × ℕ). pair.1) there (λ k d l.
    let x = get_or there k d in let y = get_or there (k + 1) d in
    let e : x.0 ≡ a = eqb-true x.0 a (passes k d (omega arith)) in
    let f : y.0 ≡ a = eqb-true y.0 a (passes (k + 1) d l) in
    let h = not_before y.0 y.1 x.0 x.1 (ordered k d (omega arith) l) in
    h.count (f ∙ sym e)))

-- the same pairs have the same candidates
pub candidates_same : (profile sorted : List (ℕ × ℕ)) (a : ℕ) → CountsRise profile → AreInOrder sorted → IsPermutation profile sorted
    → candidate_of sorted a ≡ candidate_of profile a
candidates_same profile sorted a rise order shuffled =
    let same : counts_with sorted a ≡ counts_with profile a = same_numbers (counts_with sorted a) (counts_with profile a) (sorted_up sorted a order) (profile_up profile a rise)
    (λ v. times-counts_with a v sorted ∙ sum_by-IsPermutation (λ (pair : ℕ × ℕ). cond (stands_with a v pair) 1 0) profile sorted shuffled ∙ sym (times-counts_with a v profile)) in
    ap (λ (counts : List ℕ). record { address = a; times = length counts; distance = distance_in counts }) same
