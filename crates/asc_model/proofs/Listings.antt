-- Lists of places against the tests that places pass: a rising list is the filtered one, and a list of each place
-- once is as long as their count.
use Rattle.std.proofs.Common.{◌≡◌, ℕ, zero, suc, ◌+◌, ◌<◌, ◌≤◌, Bool, true, false, ◌||◌, ◌==◌, cond, List, [], ◌∷◌, length, slice_index, All, filter, sum_by, count_by, if◌then◌else◌, refl, sym, ap, subst, ◌∙◌, inl, inr, arith, suc-add}
use Rattle.std.specs.List.Sorted.{IsStrictlyIncreasing}
use Rattle.std.proofs.lemmas.Bool.{cases_Bool, cases_eq, eq-eqb, ne_eqb, cond-true, cond-false, or_left, or_from}
use Rattle.std.proofs.lemmas.List.Elements.{All-tail}
use Rattle.std.proofs.lemmas.List.Sums.{sum_by-cons}
use Rattle.asc_model.specs.Places.{places_from}
use Rattle.asc_model.specs.DependencyVector.{is_among}

-- ---- rising lists

-- each number of the list is above the one before it, and the first one is at least low
abbrev pub RisesFrom : ℕ → List ℕ → Type 0
RisesFrom low [] = Unit {0}
RisesFrom low (x ∷ xs) = (low ≤ x) × RisesFrom (x + 1) xs

-- a list of a lower start
pub RisesFrom-lower : (low high : ℕ) (xs : List ℕ) → low ≤ high → RisesFrom high xs → RisesFrom low xs
RisesFrom-lower low high [] h rise = tt
RisesFrom-lower low high (x ∷ xs) h rise = (omega (arith, rise.0), rise.1)

-- a strictly increasing list rises from its first number on
pub RisesFrom-increasing : (low : ℕ) (xs : List ℕ) → IsStrictlyIncreasing xs
    → (0 < length xs → low ≤ slice_index xs 0) → RisesFrom low xs
RisesFrom-increasing low [] h first = tt
RisesFrom-increasing low (x ∷ xs) h first = (
  first (omega arith),
  RisesFrom-increasing (x + 1) xs
      (λ k lt. subst (λ j. slice_index xs k < slice_index (x ∷ xs) j) (suc-add k 1) (h (suc k) (omega arith)))
      (λ lt. let next : x < slice_index xs 0 = h 0 (omega arith) in omega arith),
)

-- the first number of a rising list is above what it rises from
RisesFrom-first : (low : ℕ) (xs : List ℕ) → RisesFrom low xs → 0 < length xs → low ≤ slice_index xs 0
RisesFrom-first low [] rise lt = absurd (omega arith)
RisesFrom-first low (x ∷ xs) rise lt = rise.0

-- a rising list is strictly increasing
pub increasing-RisesFrom : (low : ℕ) (xs : List ℕ) → RisesFrom low xs → IsStrictlyIncreasing xs
increasing-RisesFrom low [] rise k lt = absurd (omega arith)
increasing-RisesFrom low (x ∷ xs) rise zero lt =
    let next : x + 1 ≤ slice_index xs 0 = RisesFrom-first (x + 1) xs rise.1 (omega arith) in
    omega arith
increasing-RisesFrom low (x ∷ xs) rise (suc k) lt =
    subst (λ j. slice_index xs k < slice_index (x ∷ xs) j) (sym (suc-add k 1)) (increasing-RisesFrom (x + 1) xs rise.1 k (omega arith))

-- what passes a test, of places in a row, rises
pub RisesFrom-filter : (f : ℕ → Bool) (place n : ℕ) → RisesFrom place (filter f (places_from place n))
RisesFrom-filter f place zero = tt
RisesFrom-filter f place (suc n) =
    let rest = filter f (places_from (place + 1) n) in
    let rise = RisesFrom-filter f (place + 1) n in
    elim (cases_Bool (f place)) [
      | inl e ↦ subst (RisesFrom place) (sym (cond-true (f place) (place ∷ rest) rest e)) (omega arith, rise)
      | inr e ↦ subst (RisesFrom place) (sym (cond-false (f place) (place ∷ rest) rest e)) (RisesFrom-lower place (place + 1) rest (omega arith) rise)
    ]

-- a number below what a list rises from is not in it
pub not_among-RisesFrom : (low p : ℕ) (xs : List ℕ) → RisesFrom low xs → p < low → is_among p xs ≡ false
not_among-RisesFrom low p [] rise lt = refl
not_among-RisesFrom low p (x ∷ xs) rise lt =
    or_from (x == p) (is_among p xs) (ne_eqb x p (λ e. omega (arith, rise.0))) (not_among-RisesFrom (x + 1) p xs rise.1 (omega (arith, rise.0)))

-- a rising list of places in a row is what passes the test of being among it
rising_is_filter_from : (f : ℕ → Bool) (place n : ℕ) (xs : List ℕ) → RisesFrom place xs
    → All (λ p. p < place + n) xs
    → ((p : ℕ) → place ≤ p → p < place + n → is_among p xs ≡ f p) → xs ≡ filter f (places_from place n)
rising_is_filter_from f place zero [] rise below same = refl
rising_is_filter_from f place zero (x ∷ xs) rise below same = absurd (omega (arith, rise.0, below 0 0 (omega arith)))
rising_is_filter_from f place (suc n) [] rise below same =
    let rest = filter f (places_from (place + 1) n) in
    rising_is_filter_from f (place + 1) n [] tt (λ k d lt. absurd (omega arith)) (λ p least most. same p (omega arith) (omega arith))
    ∙ sym (cond-false (f place) (place ∷ rest) rest (sym (same place (omega arith) (omega arith))))
rising_is_filter_from f place (suc n) (x ∷ xs) rise below same =
    let rest = filter f (places_from (place + 1) n) in
    elim (cases_eq x place) [
      | inl e ↦
          let passes : f place ≡ true = sym (same place (omega arith) (omega arith)) ∙ or_left (x == place) (is_among place xs) (eq-eqb x place e) in
          let others = λ (p : ℕ) (least : place + 1 ≤ p) (most : p < place + 1 + n).
          sym (ap (λ b. b || is_among p xs) (ne_eqb x p (λ same_place. omega arith))) ∙ same p (omega arith) (omega arith) in
          let later = rising_is_filter_from f (place + 1) n xs (subst (λ low. RisesFrom low xs) (ap (λ low. low + 1) e) rise.1)
          (λ k d lt. let h = below (suc k) d (omega arith) in omega (arith, h)) others in
          ap (λ head. head ∷ xs) e ∙ ap (λ tail. place ∷ tail) later ∙ sym (cond-true (f place) (place ∷ rest) rest passes)
      | inr apart ↦
          let higher : RisesFrom (place + 1) (x ∷ xs) = (omega (arith, rise.0, apart), rise.1) in
          let fails : f place ≡ false = sym (same place (omega arith) (omega arith)) ∙ not_among-RisesFrom (place + 1) place (x ∷ xs) higher (omega arith) in
          rising_is_filter_from f (place + 1) n (x ∷ xs) higher (λ k d lt. let h = below k d lt in omega (arith, h)) (λ p least most. same p (omega arith) (omega arith))
          ∙ sym (cond-false (f place) (place ∷ rest) rest fails)
    ]

-- a strictly increasing list of numbers below n, which has just those that pass a test, is what passes it of those
-- numbers
pub rising_is_filter : (f : ℕ → Bool) (n : ℕ) (xs : List ℕ) → IsStrictlyIncreasing xs → All (λ p. p < n) xs
    → ((p : ℕ) → p < n → is_among p xs ≡ f p) → xs ≡ filter f (places_from 0 n)
rising_is_filter f n xs rise below same =
    rising_is_filter_from f 0 n xs (RisesFrom-increasing 0 xs rise (λ lt. omega arith))
    (λ k d lt. let h = below k d lt in omega (arith, h)) (λ p least most. same p (omega arith))

-- ---- counts

-- sums of terms that are the same at each of places in a row
sum_by-same : (f g : ℕ → ℕ) (place n : ℕ) → ((p : ℕ) → place ≤ p → p < place + n → f p ≡ g p)
    → sum_by f (places_from place n) ≡ sum_by g (places_from place n)
sum_by-same f g place zero same = refl
sum_by-same f g place (suc n) same =
    let rest = places_from (place + 1) n in
    let ih = sum_by-same f g (place + 1) n (λ p least most. same p (omega arith) (omega arith)) in
    omega (arith, sum_by-cons f place rest, sum_by-cons g place rest, same place (omega arith) (omega arith), ih)

-- a sum of sums, one after the other
sum_by-both : (f g : ℕ → ℕ) (xs : List ℕ) → sum_by (λ x. f x + g x) xs ≡ sum_by f xs + sum_by g xs
sum_by-both f g [] = refl
sum_by-both f g (x ∷ xs) =
    let ih = sum_by-both f g xs in
    omega (arith, sum_by-cons (λ y. f y + g y) x xs, sum_by-cons f x xs, sum_by-cons g x xs, ih)

-- nothing adds up to nothing
sum_by-none : (xs : List ℕ) → sum_by (λ x. 0) xs ≡ 0
sum_by-none [] = refl
sum_by-none (x ∷ xs) = omega (arith, sum_by-cons (λ y. 0) x xs, sum_by-none xs)

-- 1 at one number, and 0 at each other one
abbrev one_at : ℕ → ℕ → ℕ
one_at x p = cond (x == p) 1 0

one_at-same : (x p : ℕ) → x ≡ p → one_at x p ≡ 1
one_at-same x p e = cond-true (x == p) 1 0 (eq-eqb x p e)

one_at-other : (x p : ℕ) → (x ≡ p → ⊥) → one_at x p ≡ 0
one_at-other x p apart = cond-false (x == p) 1 0 (ne_eqb x p apart)

-- a number below places in a row is none of them
one_at-missed : (x place n : ℕ) → x < place → sum_by (one_at x) (places_from place n) ≡ 0
one_at-missed x place n lt =
    sum_by-same (one_at x) (λ p. 0) place n (λ p least most. one_at-other x p (λ e. omega arith)) ∙ sum_by-none (places_from place n)

-- a number of places in a row is one of them
one_at-hit : (x place n : ℕ) → place ≤ x → x < place + n → sum_by (one_at x) (places_from place n) ≡ 1
one_at-hit x place zero least most = absurd (omega arith)
one_at-hit x place (suc n) least most =
    let rest = places_from (place + 1) n in
    elim (cases_eq x place) [
      | inl e ↦ omega (arith, sum_by-cons (one_at x) place rest, one_at-same x place e, one_at-missed x (place + 1) n (omega arith))
      | inr apart ↦ omega (arith, sum_by-cons (one_at x) place rest, one_at-other x place apart, one_at-hit x (place + 1) n (omega (arith, apart)) (omega arith))
    ]

-- how often each number below n is in a list of such numbers adds up to its length
length_by_places : (n : ℕ) (xs : List ℕ) → All (λ p. p < n) xs
    → sum_by (λ p. count_by (λ x. x == p) xs) (places_from 0 n) ≡ length xs
length_by_places n [] below = sum_by-none (places_from 0 n)
length_by_places n (x ∷ xs) below =
    let all = places_from 0 n in
    let first : x < n = below 0 0 (omega arith) in
    let each = sum_by-same (λ p. count_by (λ y. y == p) (x ∷ xs)) (λ p. one_at x p + count_by (λ y. y == p) xs) 0 n
    (λ p least most. sum_by-cons (λ y. cond (y == p) 1 0) x xs) in
    let both = sum_by-both (one_at x) (λ p. count_by (λ y. y == p) xs) all in
    omega (arith, each, both, one_at-hit x 0 n (omega arith) (omega arith), length_by_places n xs (All-tail (λ p. p < n) x xs below))

-- a list of numbers below n that has each one that passes a test once, and no other, is as long as their count
pub count_of_places : (f : ℕ → Bool) (n : ℕ) (xs : List ℕ) → All (λ p. p < n) xs
    → ((p : ℕ) → p < n → count_by (λ x. x == p) xs ≡ (if f p then 1 else 0)) → length xs ≡ count_by f (places_from 0 n)
count_of_places f n xs below once =
    sym (length_by_places n xs below)
    ∙ sum_by-same (λ p. count_by (λ x. x == p) xs) (λ p. cond (f p) 1 0) 0 n (λ p least most. once p (omega arith))
