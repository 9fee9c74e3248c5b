-- The longest match so far, one entry more.
use Rattle.std.proofs.Common.{◌≡◌, ◌<◌, ◌≤◌, ◌+◌, ◌&&◌, ℕ, Bool, true, false, List, length, take, map, get_or, Option, Some, None, ◌∙◌, arith, Global}
use Rattle.std.specs.Prelude.{nat_le, nat_lt, if◌then◌else◌}
use Rattle.std.specs.Arc.{arc_value}
use Rattle.std.specs.declared.sync.Arc.{Arc}
use Rattle.std.proofs.lemmas.Bool.{and_parts, lt-ltb, leb-true}
use Rattle.std.proofs.lemmas.Bool.Decides.{nat_tests}
use Rattle.asc_model.specs.State.{State}
use Rattle.asc_model.specs.Entry.{Entry}
use Rattle.asc_traj.specs.Content.{longer_of, longest, matches}
use Rattle.asc_traj.proofs.Looks.{fold_more}

abbrev pub step : (left : ℕ) → Bool → Option ℕ → ℕ → Option ℕ
step left fits best n = if fits then longer_of left best n else best

pub longest-more : (s : State) (left : ℕ) (xs : List (Arc Entry Global)) (i : ℕ) (d : Arc Entry Global) → i < length xs
    → longest (take (i + 1) (map arc_value xs)) s left ≡ step left (matches s (arc_value (get_or xs i d))) (longest (take i (map arc_value xs)) s left) (arc_value (get_or xs i d)).steps
longest-more s left xs i d h = fold_more (λ (best : Option ℕ) (e : Entry). if matches s e then longer_of left best e.steps else best) None xs i d h

-- what is known of the longest so far
abbrev pub IsMost : Option ℕ → ℕ → Type 0
IsMost None most = most ≡ 0
IsMost (Some n) most = n ≡ most

-- tests one after another are one test
both : {X : Type 0} (fits le lt : Bool) (x y : X) → (if fits then (if le && lt then x else y) else y) ≡ (if fits && le && lt then x else y)
both fits le lt x y = grind arith

-- and so where the last one passes
first-two : {X : Type 0} (fits le lt : Bool) (x y : X) → lt ≡ true → (if fits then (if le then x else y) else y) ≡ (if fits && le && lt then x else y)
first-two fits le lt x y e = grind arith

-- a longer one
pub step-up : (o : Option ℕ) (fits : Bool) (left most n : ℕ) → IsMost o most → (fits && nat_le n left && nat_lt most n) ≡ true → step left fits o n ≡ Some n
step-up None fits left most n is h = first-two fits (nat_le n left) (nat_lt most n) (Some n) None (and_parts _ _ h).1 ∙ (rw h)
step-up (Some m) fits left most n is h = both fits (nat_le n left) (nat_lt m n) (Some n) (Some m) ∙ (rw (is, h))

-- none longer
pub step-stay : (o : Option ℕ) (fits : Bool) (left most n : ℕ) → IsMost o most → 1 ≤ n → (fits && nat_le n left && nat_lt most n) ≡ false → step left fits o n ≡ o
step-stay None fits left most n is least h = grind (arith, nat_tests, first-two, lt-ltb)
step-stay (Some m) fits left most n is least h = both fits (nat_le n left) (nat_lt m n) (Some n) (Some m) ∙ (rw (is, h))

-- an entry that is longer is the longest now, and after one that is not the longest stays
pub found-up : (s : State) (left most : ℕ) (xs : List (Arc Entry Global)) (i : ℕ) (d : Arc Entry Global) (e : Entry) (o : Option ℕ) → i < length xs → arc_value (get_or xs i d) ≡ e
    → longest (take i (map arc_value xs)) s left ≡ o → IsMost o most → (matches s e && nat_le e.steps left && nat_lt most e.steps) ≡ true
    → longest (take (i + 1) (map arc_value xs)) s left ≡ Some e.steps
found-up s left most xs i d e o h same found is up =
    longest-more s left xs i d h ∙ (λ k. step left (matches s (same k)) (found k) (same k).steps) ∙ step-up o (matches s e) left most e.steps is up

pub found-stay : (s : State) (left most : ℕ) (xs : List (Arc Entry Global)) (i : ℕ) (d : Arc Entry Global) (e : Entry) (o : Option ℕ) → i < length xs → arc_value (get_or xs i d) ≡ e
    → longest (take i (map arc_value xs)) s left ≡ o → IsMost o most → 1 ≤ e.steps → (matches s e && nat_le e.steps left && nat_lt most e.steps) ≡ false
    → longest (take (i + 1) (map arc_value xs)) s left ≡ o
found-stay s left most xs i d e o h same found is least stay =
    longest-more s left xs i d h ∙ (λ k. step left (matches s (same k)) (found k) (same k).steps) ∙ step-stay o (matches s e) left most e.steps is least stay

-- what a longer one is
pub is-longer : (s : State) (left most : ℕ) (e : Entry) → (matches s e && nat_le e.steps left && nat_lt most e.steps) ≡ true → (matches s e ≡ true) × (e.steps ≤ left)
is-longer s left most e h = grind (arith, nat_tests, and_parts, leb-true)
