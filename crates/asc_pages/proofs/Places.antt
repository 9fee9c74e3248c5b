-- Lemmas on numbers of pages.
use Rattle.std.proofs.Common.{◌≡◌, ◌≢◌, inl, inr, ℕ, zero, suc, ◌%◌, ◌≤◌, ◌<◌, Bool, true, false, nat_eq, List, [], ◌∷◌, length, ap, sym, ◌∙◌, arith, slice_index, slice_index_or, eq-eqb}
use Rattle.std.proofs.lemmas.List.Sums.{position_or_len_is, fails_before_first, passes_at_first}
use Rattle.std.proofs.lemmas.Bool.{cases_lt, eqb-true}
use Rattle.std.proofs.lemmas.Bool.Decides.{nat_tests}
use Rattle.asc_pages.specs.DirtyPages.{IsUnlisted}
use Rattle.asc_pages.specs.Numbers.{HasRemainders, end_of, place_of}

-- the place of a number
pub place_is : (numbers : List ℕ) (p k : ℕ) → k ≤ length numbers → ((j : ℕ) → j < k → slice_index numbers j ≢ p) → (k < length numbers → slice_index numbers k ≡ p) → place_of numbers p ≡ k
unfolding place_of
place_is numbers p k most others here = position_or_len_is (λ n. nat_eq n p) numbers k 0 most (λ j below. let h = others j below in grind (arith, nat_tests)) (λ inside. eq-eqb _ _ (here inside))

pub place_found : (numbers : List ℕ) (p : ℕ) → place_of numbers p < length numbers → slice_index numbers (place_of numbers p) ≡ p
unfolding place_of
place_found numbers p found = eqb-true _ _ (passes_at_first (λ n. nat_eq n p) numbers 0 found)

pub place_past : (numbers : List ℕ) (p : ℕ) → IsUnlisted numbers p → length numbers ≤ place_of numbers p
place_past numbers p other = elim (cases_lt (place_of numbers p) (length numbers)) [
  | inl found ↦ absurd (other (place_of numbers p) found (place_found numbers p found))
  | inr past ↦ past
]

pub past_unlisted : (numbers : List ℕ) (p : ℕ) → length numbers ≤ place_of numbers p → IsUnlisted numbers p
unfolding place_of
past_unlisted numbers p past j below same =
    let no : nat_eq (slice_index numbers j) p ≡ false = fails_before_first (λ n. nat_eq n p) numbers j 0 (omega arith) in
    let yes : nat_eq (slice_index numbers j) p ≡ true = eq-eqb _ _ same in
    cc

pub end_each : (numbers : List ℕ) (k : ℕ) → k < length numbers → slice_index numbers k < end_of numbers
end_each [] k below = absurd (omega arith)
end_each (p ∷ numbers) zero below = omega arith
end_each (p ∷ numbers) (suc k) below = let h = end_each numbers k (omega arith) in omega arith

-- a number whose remainder is not there is none of them
pub unlisted_remainder : (has : List Bool) (numbers : List ℕ) (p : ℕ) → HasRemainders has numbers → slice_index_or has (p % 32) false ≡ false → length numbers ≡ place_of numbers p
unlisted_remainder has numbers p so apart = sym (place_is numbers p (length numbers) (omega arith)
    (λ j below same. let there : slice_index_or has (p % 32) false ≡ true = ap (λ q. slice_index_or has (q % 32) false) (sym same) ∙ so j below in cc)
    (λ inside. absurd (omega arith)))
