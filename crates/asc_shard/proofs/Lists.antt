-- Lists with one element more, and with one less.
use Rattle.std.proofs.Common.{◌≡◌, Bool, false, cond, ℕ, suc, ◌+◌, ◌-◌, ◌<◌, ◌≤◌, List, ◌∷◌, length, get_or, take, drop, map, ap, subst, ◌∙◌, inl, inr, arith}
use Rattle.std.specs.Prelude.{All, count_by}
use Rattle.std.proofs.lemmas.List.Sums.{sum_by-le}
use Rattle.std.specs.List.{AllPairs, insert, remove}
use Rattle.std.proofs.lemmas.Bool.{cases_order}
use Rattle.std.proofs.lemmas.List.{map-append, take-map, drop-map}
use Rattle.std.proofs.lemmas.List.Elements.{All-append, All-cons, All-drop, All-take}
use Rattle.std.proofs.lemmas.List.Edits.{length-insert, get_or-insert_below, get_or-insert_at, get_or-insert_above}

module _ {X Y : Type 0} (f : X → Y) where
  pub map-insert : (xs : List X) (place : ℕ) (x : X) → map f (insert xs place x) ≡ insert (map f xs) place (f x)
  map-insert xs place x = rw (take-map f place xs, drop-map f place xs) (map-append f (take place xs) (x ∷ drop place xs))

  pub map-remove : (xs : List X) (place : ℕ) → map f (remove xs place) ≡ remove (map f xs) place
  map-remove xs place = rw (take-map f place xs, drop-map f (suc place) xs) (map-append f (take place xs) (drop (suc place) xs))

module _ {X : Type 0} where
  pub all-insert : (P : X → Type 0) (xs : List X) (place : ℕ) (x : X) → All P xs → P x → All P (insert xs place x)
  all-insert P xs place x all one = All-append P (take place xs) (x ∷ drop place xs) (All-take P place xs all) (All-cons P x (drop place xs) one (All-drop P place xs all))

  pub all-remove : (P : X → Type 0) (xs : List X) (place : ℕ) → All P xs → All P (remove xs place)
  all-remove P xs place all = All-append P (take place xs) (drop (suc place) xs) (All-take P place xs all) (All-drop P (suc place) xs all)

  -- one that stands between those before and those behind it
  pub pairs-insert : (R : X → X → Type 0) (xs : List X) (place : ℕ) (x : X) → place ≤ length xs → AllPairs R xs
      → ((i : ℕ) (d : X) → i < place → R (get_or xs i d) x) → ((i : ℕ) (d : X) → place ≤ i → i < length xs → R x (get_or xs i d))
      → AllPairs R (insert xs place x)
  pairs-insert R xs place x most rise before behind i j d lt below =
      let below_more : j < length xs + 1 = subst (λ n. j < n) (length-insert xs place x most) below in
      let at : ℕ → X = λ k. get_or (insert xs place x) k d in
      let under = λ (k : ℕ) (lt : k < place). get_or-insert_below xs place x d k lt most in
      let here = λ (k : ℕ) (is : k ≡ place). ap at is ∙ get_or-insert_at xs place x d most in
      let over = λ (k : ℕ) (lt : place < k). ap at (let e : k ≡ (k - 1) + 1 = omega (arith, lt) in e) ∙ get_or-insert_above xs place x d (k - 1) (omega (arith, lt)) most in
      elim (cases_order j place) [
        | inl is ↦ rw (under i (omega (arith, is, lt)), here j is) (before i d (omega (arith, is, lt)))
        | inr (inl first) ↦ rw (under i (omega arith), under j first) (rise i j d lt (omega arith))
        | inr (inr later) ↦ elim (cases_order i place) [
          | inl is ↦ rw (here i is, over j later) (behind (j - 1) d (omega arith) (omega arith))
          | inr (inl first) ↦ rw (under i first, over j later) (rise i (j - 1) d (omega arith) (omega arith))
          | inr (inr more) ↦ rw (over i more, over j later) (rise (i - 1) (j - 1) d (omega arith) (omega arith))
        ]
      ]

  -- where none passes none is counted
  pub count-none : (f : X → Bool) (xs : List X) → All (λ x. f x ≡ false) xs → count_by f xs ≡ 0
  count-none f xs none =
      let few = sum_by-le (λ x. cond (f x) 1 0) 0 xs (λ k d lt. rw (none k d lt) (omega arith)) in
      omega (arith, few)
