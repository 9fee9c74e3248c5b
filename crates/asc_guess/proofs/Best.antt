-- Which candidate is the best of several.
use Rattle.std.proofs.Common.{◌≡◌, ◌⊎◌, inl, inr, ℕ, zero, suc, ◌-◌, ◌*◌, ◌<◌, ◌≤◌, Bool, true, false, cond, ◌||◌, ◌&&◌, ◌==◌, nat_lt, nat_le, List, [], ◌∷◌, length, map, filter, fold, get_or, Option, Some, None, MatchOption, refl, sym, ap, ◌∙◌, subst, arith, All, IsPermutation}
use Rattle.std.proofs.lemmas.List.{get_or_default}
use Rattle.std.proofs.lemmas.List.Sorted.{All-permutation, IsPermutation-sym}
use Rattle.std.proofs.lemmas.Nat.{mul-le}
use Rattle.std.proofs.lemmas.Bool.Decides.{nat_tests}
use Rattle.std.proofs.Math.Nat.{mul_right_comm, le_of_mul-le-mul_right}
use Rattle.asc_guess.specs.declared.choosing.Candidate.{Candidate}
use Rattle.asc_guess.specs.Choice.{candidate_of, is_better, better_of, chosen_address}

-- ---- the order of candidates

-- of three quotients x / p, y / q, z / r, each is at most the next
cross : (x y z p q r : ℕ) → 0 < p → 0 < q → 0 < r → x * q ≤ y * p → y * r ≤ z * q
    → (x * r ≤ z * p) × (x * r ≡ z * p → (x * q ≡ y * p) × (y * r ≡ z * q))
cross x y z p q r lp lq lr h k =
    let a : (x * q) * r ≤ (y * p) * r = mul-le (x * q) r (y * p) r h (omega arith) in
    let b : (y * r) * p ≤ (z * q) * p = mul-le (y * r) p (z * q) p k (omega arith) in
    let e1 : x * q * r ≡ x * r * q = mul_right_comm x q r in
    let e2 : y * p * r ≡ y * r * p = mul_right_comm y p r in
    let e3 : z * q * p ≡ z * p * q = mul_right_comm z q p in
    let all : x * r * q ≤ z * p * q = omega arith in (
      le_of_mul-le-mul_right {k = q} all lq,
      λ e.
          let back : x * r * q ≡ z * p * q = ap (λ n. n * q) e in
          let c : (y * p) * r ≤ (x * q) * r = omega arith in
          let d : (z * q) * p ≤ (y * r) * p = omega arith in
          let c' = le_of_mul-le-mul_right {k = r} c lr in
          let d' = le_of_mul-le-mul_right {k = p} d lp in
          (omega arith, omega arith),
    )

-- what the test of two candidates tells, x and y being the cross products, s and t the times, a and b the addresses
abbrev test : (x y s t a b : ℕ) → Bool
test x y s t a b = nat_lt y x || ((x == y) && (nat_lt t s || ((s == t) && nat_lt a b)))

record NotAbove (x y s t a b : ℕ) : Type 0 where
  pub product : x ≤ y
  pub times : x ≡ y → s ≤ t
  pub address : x ≡ y → s ≡ t → b ≤ a

tells_false : (x y s t a b : ℕ) → test x y s t a b ≡ false → NotAbove x y s t a b
tells_false x y s t a b h = record {
  product = grind (arith, nat_tests);
  times = λ e. grind (arith, nat_tests);
  address = λ e f. grind (arith, nat_tests);
}

is_false : (x y s t a b : ℕ) → NotAbove x y s t a b → test x y s t a b ≡ false
is_false x y s t a b h =
    let p = h.product in let q = h.times in let r = h.address in grind (arith, nat_tests)

one_way_in : (x y s t a b : ℕ) → test x y s t a b ≡ true → test y x t s b a ≡ false
one_way_in x y s t a b h = grind (arith, nat_tests)

one_way : (a b : Candidate) → is_better a b ≡ true → is_better b a ≡ false
one_way a b h = one_way_in (a.distance * (b.times - 1)) (b.distance * (a.times - 1)) a.times b.times a.address b.address h

itself : (a : Candidate) → is_better a a ≡ false
itself a = let x = a.distance * (a.times - 1) in is_false x x a.times a.times a.address a.address
    (record { product = omega arith; times = λ _. omega arith; address = λ _ _. omega arith })

chain : (a b c : Candidate) → 2 ≤ a.times → 2 ≤ b.times → 2 ≤ c.times → is_better a b ≡ false → is_better b c ≡ false
    → is_better a c ≡ false
chain a b c la lb lc h k =
    let p = a.times - 1 in let q = b.times - 1 in let r = c.times - 1 in
    let x = a.distance in let y = b.distance in let z = c.distance in
    let ab = tells_false (x * q) (y * p) a.times b.times a.address b.address h in
    let bc = tells_false (y * r) (z * q) b.times c.times b.address c.address k in
    let ac = cross x y z p q r (omega arith) (omega arith) (omega arith) ab.product bc.product in
    is_false (x * r) (z * p) a.times c.times a.address c.address (record {
      product = ac.0;
      times = λ e. let both = ac.1 e in omega (arith, ab.times both.0, bc.times both.1);
      address = λ e f. let both = ac.1 e in
          let s = ab.times both.0 in let t = bc.times both.1 in
          omega (arith, ab.address both.0 (omega arith), bc.address both.1 (omega arith));
    })

total : (a b : Candidate) → is_better a b ≡ false → is_better b a ≡ false → a.address ≡ b.address
total a b h k =
    let x = a.distance * (b.times - 1) in let y = b.distance * (a.times - 1) in
    let ab = tells_false x y a.times b.times a.address b.address h in
    let ba = tells_false y x b.times a.times b.address a.address k in
    let p = ab.product in let q = ba.product in
    let e : x ≡ y = omega arith in
    let s = ab.times e in let t = ba.times (sym e) in
    omega (arith, ab.address e (omega arith), ba.address (sym e) (omega arith))

-- ---- the best of some addresses of a profile

-- a candidate is that of one of some addresses, which stands there often enough, and none of them is better
pub record IsTop (profile : List (ℕ × ℕ)) (least : ℕ) (Has : ℕ → Type 0) (c : Candidate) : Type 0 where
  pub is : c ≡ candidate_of profile c.address
  pub has : Has c.address
  pub often : least ≤ c.times
  pub top : (a : ℕ) → Has a → least ≤ (candidate_of profile a).times → is_better (candidate_of profile a) c ≡ false

pub record IsNone (profile : List (ℕ × ℕ)) (least : ℕ) (Has : ℕ → Type 0) : Type 0 where
  pub none : (a : ℕ) → Has a → (candidate_of profile a).times < least

abbrev pub IsBest : List (ℕ × ℕ) → ℕ → (ℕ → Type 0) → Option Candidate → Type 0
IsBest profile least Has best = MatchOption best (IsNone profile least Has) (IsTop profile least Has)

-- some addresses, and one more
pub record HasMore (Has More : ℕ → Type 0) (a : ℕ) : Type 0 where
  pub new : More a
  pub old : (b : ℕ) → Has b → More b
  pub only : (b : ℕ) → More b → (b ≡ a) ⊎ Has b

-- one that stands there too rarely changes nothing
pub best-skips : (profile : List (ℕ × ℕ)) (least : ℕ) (Has More : ℕ → Type 0) (a : ℕ) (best : Option Candidate) → HasMore Has More a
    → (candidate_of profile a).times < least → IsBest profile least Has best → IsBest profile least More best
best-skips profile least Has More a None m few h = record {
  none = λ b there. elim (m.only b there) [
    | inl e ↦ subst (λ (n : ℕ). (candidate_of profile n).times < least) (sym e) few
    | inr before ↦ h.none b before
  ];
}
best-skips profile least Has More a (Some c) m few h = record {
  is = h.is;
  has = m.old c.address h.has;
  often = h.often;
  top = λ b there often. elim (m.only b there) [
    | inl e ↦ absurd (let l = subst (λ (n : ℕ). (candidate_of profile n).times < least) (sym e) few in omega arith)
    | inr before ↦ h.top b before often
  ];
}

takes : (profile : List (ℕ × ℕ)) (least : ℕ) (Has More : ℕ → Type 0) (a : ℕ) (c : Candidate) (b : Bool) → 2 ≤ least → HasMore Has More a
    → least ≤ (candidate_of profile a).times → IsTop profile least Has c → is_better (candidate_of profile a) c ≡ b
    → IsBest profile least More (cond b (Some (candidate_of profile a)) (Some c))
takes profile least Has More a c true two m often h better = record {
  is = refl;
  has = m.new;
  often = often;
  top = λ b there enough. elim (m.only b there) [
    | inl e ↦ subst (λ (n : ℕ). is_better (candidate_of profile n) (candidate_of profile a) ≡ false) (sym e) (itself (candidate_of profile a))
    | inr before ↦ chain (candidate_of profile b) c (candidate_of profile a) (omega arith) (omega (arith, h.often)) (omega arith)
        (h.top b before enough) (one_way (candidate_of profile a) c better)
  ];
}
takes profile least Has More a c false two m often h better = record {
  is = h.is;
  has = m.old c.address h.has;
  often = h.often;
  top = λ b there enough. elim (m.only b there) [
    | inl e ↦ subst (λ (n : ℕ). is_better (candidate_of profile n) c ≡ false) (sym e) better
    | inr before ↦ h.top b before enough
  ];
}

-- one that stands there often enough is the best where it is the better one
pub best-takes : (profile : List (ℕ × ℕ)) (least : ℕ) (Has More : ℕ → Type 0) (a : ℕ) (best : Option Candidate) → 2 ≤ least → HasMore Has More a
    → least ≤ (candidate_of profile a).times → IsBest profile least Has best → IsBest profile least More (better_of best (candidate_of profile a))
best-takes profile least Has More a None two m often h = record {
  is = refl;
  has = m.new;
  often = often;
  top = λ b there enough. elim (m.only b there) [
    | inl e ↦ subst (λ (n : ℕ). is_better (candidate_of profile n) (candidate_of profile a) ≡ false) (sym e) (itself (candidate_of profile a))
    | inr before ↦ absurd (omega (arith, h.none b before))
  ];
}
best-takes profile least Has More a (Some c) two m often h =
    takes profile least Has More a c (is_better (candidate_of profile a) c) two m often h refl

-- the same addresses, and the same candidates
pub best-like : (profile other : List (ℕ × ℕ)) (least : ℕ) (Has Those : ℕ → Type 0) (best : Option Candidate) → ((a : ℕ) → candidate_of profile a ≡ candidate_of other a)
    → ((a : ℕ) → Has a → Those a) → ((a : ℕ) → Those a → Has a) → IsBest profile least Has best → IsBest other least Those best
best-like profile other least Has Those None same to from h = record {
  none = λ a there. subst (λ (c : Candidate). c.times < least) (same a) (h.none a (from a there));
}
best-like profile other least Has Those (Some c) same to from h = record {
  is = h.is ∙ same c.address;
  has = to c.address h.has;
  often = h.often;
  top = λ a there enough. subst (λ (d : Candidate). is_better d c ≡ false) (same a)
      (h.top a (from a there) (subst (λ (d : Candidate). least ≤ d.times) (sym (same a)) enough));
}

-- there is one best
pub best-unique : (profile : List (ℕ × ℕ)) (least : ℕ) (Has : ℕ → Type 0) (b c : Option Candidate) → IsBest profile least Has b → IsBest profile least Has c → b ≡ c
best-unique profile least Has None None h k = refl
best-unique profile least Has None (Some c) h k = absurd (let l = h.none c.address k.has in let e = ap (λ (d : Candidate). d.times) k.is in omega (arith, k.often))
best-unique profile least Has (Some b) None h k = absurd (let l = k.none b.address h.has in let e = ap (λ (d : Candidate). d.times) h.is in omega (arith, h.often))
best-unique profile least Has (Some b) (Some c) h k =
    let oftenb = subst (λ (d : Candidate). least ≤ d.times) h.is h.often in
    let oftenc = subst (λ (d : Candidate). least ≤ d.times) k.is k.often in
    let bc = subst (λ (d : Candidate). is_better d c ≡ false) (sym h.is) (k.top b.address h.has oftenb) in
    let cb = subst (λ (d : Candidate). is_better d b ≡ false) (sym k.is) (h.top c.address k.has oftenc) in
    ap Some (h.is ∙ ap (candidate_of profile) (total b c bc cb) ∙ sym k.is)

-- ---- the best address of a profile, by its definition

-- an address stands among the first n pairs of a profile
abbrev pub Stands : List (ℕ × ℕ) → (n : ℕ) → ℕ → Type 0
Stands profile n a = (k : ℕ) × (k < n) × ((get_or profile k (0, 0)).0 ≡ a)

-- an address that stands in a list of pairs stands in the same pairs in another order
stands_in : (xs ys : List (ℕ × ℕ)) → IsPermutation xs ys → (a : ℕ) → Stands xs (length xs) a → Stands ys (length ys) a
stands_in xs ys shuffled a h =
    let Q : ℕ × ℕ → Type 0 = λ x. Stands ys (length ys) x.0 in
    let all : All Q ys = λ k d l. (k, l, ap (λ (x : ℕ × ℕ). x.0) (get_or_default ys k (0, 0) d l)) in
    subst (Stands ys (length ys)) h.2 (All-permutation Q ys xs (IsPermutation-sym xs ys shuffled) all h.0 (0, 0) h.1)

-- it stands in a list of pairs, or was there before
abbrev Joined : (ℕ → Type 0) → List (ℕ × ℕ) → ℕ → Type 0
Joined Has xs a = Has a ⊎ Stands xs (length xs) a

joined-more : (Has : ℕ → Type 0) (x : ℕ × ℕ) → HasMore Has (λ a. (x.0 ≡ a) ⊎ Has a) x.0
joined-more Has x = record {
  new = inl refl;
  old = λ b h. inr h;
  only = λ b h. elim h [ inl e ↦ inl (sym e) | inr before ↦ inr before ];
}

joined-to : (Has : ℕ → Type 0) (x : ℕ × ℕ) (xs : List (ℕ × ℕ)) (a : ℕ) → Joined (λ b. (x.0 ≡ b) ⊎ Has b) xs a → Joined Has (x ∷ xs) a
joined-to Has x xs a (inl (inl e)) = inr (0, omega arith, e)
joined-to Has x xs a (inl (inr h)) = inl h
joined-to Has x xs a (inr h) = inr (suc h.0, omega (arith, h.1), h.2)

joined_at : (Has : ℕ → Type 0) (x : ℕ × ℕ) (xs : List (ℕ × ℕ)) (a k : ℕ) → k < length (x ∷ xs) → (get_or (x ∷ xs) k (0, 0)).0 ≡ a → Joined (λ b. (x.0 ≡ b) ⊎ Has b) xs a
joined_at Has x xs a zero l e = inl (inl e)
joined_at Has x xs a (suc k) l e = inr (k, omega arith, e)

joined-from : (Has : ℕ → Type 0) (x : ℕ × ℕ) (xs : List (ℕ × ℕ)) (a : ℕ) → Joined Has (x ∷ xs) a → Joined (λ b. (x.0 ≡ b) ⊎ Has b) xs a
joined-from Has x xs a (inl h) = inl (inr h)
joined-from Has x xs a (inr h) = joined_at Has x xs a h.0 h.1 h.2

abbrev folded : List (ℕ × ℕ) → (least : ℕ) → Option Candidate → List (ℕ × ℕ) → Option Candidate
folded profile least best xs = fold better_of best (filter (λ c. nat_le least c.times) (map (λ pair. candidate_of profile pair.0) xs))

-- by whether the first pair's address stands there often enough
fold_at : (profile : List (ℕ × ℕ)) (least : ℕ) (Has : ℕ → Type 0) (best : Option Candidate) (x : ℕ × ℕ) (xs : List (ℕ × ℕ)) (b : Bool) → 2 ≤ least
    → ((More : ℕ → Type 0) (next : Option Candidate) → IsBest profile least More next → IsBest profile least (Joined More xs) (folded profile least next xs))
    → nat_le least (candidate_of profile x.0).times ≡ b → IsBest profile least Has best
    → IsBest profile least (Joined Has (x ∷ xs)) (fold better_of best (cond b (candidate_of profile x.0 ∷ filter (λ c. nat_le least c.times) (map (λ pair. candidate_of profile pair.0) xs)) (filter (λ c. nat_le least c.times) (map (λ pair. candidate_of profile pair.0) xs))))
fold_at profile least Has best x xs true two rest e h =
    let More : ℕ → Type 0 = λ a. (x.0 ≡ a) ⊎ Has a in
    let enough : least ≤ (candidate_of profile x.0).times = grind (arith, nat_tests) in
    best-like profile profile least (Joined More xs) (Joined Has (x ∷ xs)) (folded profile least (better_of best (candidate_of profile x.0)) xs) (λ a. refl) (joined-to Has x xs) (joined-from Has x xs)
    (rest More (better_of best (candidate_of profile x.0)) (best-takes profile least Has More x.0 best two (joined-more Has x) enough h))
fold_at profile least Has best x xs false two rest e h =
    let More : ℕ → Type 0 = λ a. (x.0 ≡ a) ⊎ Has a in
    let few : (candidate_of profile x.0).times < least = grind (arith, nat_tests) in
    best-like profile profile least (Joined More xs) (Joined Has (x ∷ xs)) (folded profile least best xs) (λ a. refl) (joined-to Has x xs) (joined-from Has x xs)
    (rest More best (best-skips profile least Has More x.0 best (joined-more Has x) few h))

fold-best : (profile : List (ℕ × ℕ)) (least : ℕ) (Has : ℕ → Type 0) (best : Option Candidate) (xs : List (ℕ × ℕ)) → 2 ≤ least
    → IsBest profile least Has best → IsBest profile least (Joined Has xs) (folded profile least best xs)
fold-best profile least Has best [] two h = best-like profile profile least Has (Joined Has []) best (λ a. refl) (λ a there. inl there)
    (λ a there. elim there [ inl before ↦ before | inr none ↦ absurd (omega (arith, none.1)) ]) h
fold-best profile least Has best (x ∷ xs) two h = fold_at profile least Has best x xs (nat_le least (candidate_of profile x.0).times) two (λ More next k. fold-best profile least More next xs two k) refl h

abbrev pub address_of : Option Candidate → Option ℕ
address_of best = elim best [ Some c ↦ Some c.address | None ↦ None ]

nothing : (profile : List (ℕ × ℕ)) (least : ℕ) → IsBest profile least (λ a. ⊥) None
nothing profile least = record { none = λ a h. absurd h }

-- the address of the best of all is the chosen one
pub chosen-best : (profile : List (ℕ × ℕ)) (least : ℕ) (best : Option Candidate) → 2 ≤ least → IsBest profile least (Stands profile (length profile)) best
    → address_of best ≡ chosen_address profile least
unfolding chosen_address
chosen-best profile least best two h =
    let Has : ℕ → Type 0 = λ a. ⊥ in
    let all = fold-best profile least Has None profile two (nothing profile least) in
    let same = best-unique profile least (Joined Has profile) best (folded profile least None profile)
    (best-like profile profile least (Stands profile (length profile)) (Joined Has profile) best (λ a. refl) (λ a there. inr there)
    (λ a there. elim there [ inl none ↦ absurd none | inr here ↦ here ]) h) all in
    ap address_of same

-- the same pairs in another order have the same choice
pub chosen-same : (profile sorted : List (ℕ × ℕ)) (least : ℕ) → 2 ≤ least → IsPermutation profile sorted → ((a : ℕ) → candidate_of sorted a ≡ candidate_of profile a)
    → chosen_address sorted least ≡ chosen_address profile least
unfolding chosen_address
chosen-same profile sorted least two shuffled same =
    let Has : ℕ → Type 0 = λ a. ⊥ in
    let all = fold-best sorted least Has None sorted two (nothing sorted least) in
    let best = folded sorted least None sorted in
    let there = best-like sorted profile least (Joined Has sorted) (Stands profile (length profile)) best same
    (λ a h. elim h [ inl none ↦ absurd none | inr here ↦ stands_in sorted profile (IsPermutation-sym profile sorted shuffled) a here ])
    (λ a h. inr (stands_in profile sorted shuffled a h)) all in
    chosen-best profile least best two there
