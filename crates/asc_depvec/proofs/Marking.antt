-- Lemmas on marks: that they fit their places stays so through touches, and through a touch taken back.
use Rattle.std.proofs.Common.{◌≡◌, ◌≢◌, ℕ, ◌+◌, ◌<◌, ◌≤◌, ◌==◌, Bool, true, false, cond, List, [], ◌∷◌, ◌++◌, ◌∙◌, slice_set, arith, if◌then◌else◌}
use Rattle.std.specs.List.{count_by}
use Rattle.std.proofs.lemmas.Grind.{get_or-set_at}
use Rattle.std.proofs.lemmas.List.{get_or-set_other, get_or_past, length-set}
use Rattle.std.proofs.lemmas.List.Sums.{sum_by-append, sum_by-cons}
use Rattle.std.proofs.lemmas.Bool.{ne_eqb}
use Rattle.asc_model.specs.declared.status.Status.{Status}
use Rattle.asc_model.specs.declared.status.Status.TheVariants.{Untouched}
use Rattle.asc_shape.specs.Face.{Told, FitPlaces, status_at, is_untouched, status_after_read, status_after_write}

-- that marks fit their places, which their cap has no part in
abbrev pub Fits : ℕ → List Status → List (ℕ × ℕ) → Type 0
Fits n statuses touched = FitPlaces n (Told 0 statuses touched)

-- how often a place is listed
abbrev pub times : ℕ → List (ℕ × ℕ) → ℕ
times place touched = count_by (λ noted. noted.0 == place) touched

-- in a list and one place more
pub times-last : (place : ℕ) (touched : List (ℕ × ℕ)) (noted : ℕ × ℕ) → times place (touched ++ noted ∷ []) ≡ times place touched + cond (noted.0 == place) 1 0
times-last place touched noted =
    let one : ℕ × ℕ → ℕ = λ x. cond (x.0 == place) 1 0 in
    omega (arith, sum_by-append one touched (noted ∷ []), sum_by-cons one noted [])

-- in a list behind one place more
pub times-first : (place : ℕ) (noted : ℕ × ℕ) (touched : List (ℕ × ℕ)) → times place (noted ∷ touched) ≡ cond (noted.0 == place) 1 0 + times place touched
times-first place noted touched =
    let one : ℕ × ℕ → ℕ = λ x. cond (x.0 == place) 1 0 in
    omega (arith, sum_by-cons one noted touched)

-- in a list behind another place
pub times-first_other : (place : ℕ) (noted : ℕ × ℕ) (touched : List (ℕ × ℕ)) → noted.0 ≢ place → times place (noted ∷ touched) ≡ times place touched
times-first_other place noted touched other = rw (times-first place noted touched, ne_eqb noted.0 place other) (omega arith)

-- an untouched status is Untouched
pub untouched_is : (status : Status) → is_untouched status ≡ true → status ≡ Untouched
untouched_is status h = grind arith

-- marks that fit their places do so after a touch of a place
pub FitPlaces-touch : (n : ℕ) (statuses : List Status) (touched : List (ℕ × ℕ)) (place byte : ℕ) (after : Status) → place < n → is_untouched after ≡ false
    → Fits n statuses touched
    → Fits n (slice_set statuses place after) (if is_untouched (status_at statuses place) then touched ++ (place, byte) ∷ [] else touched)
FitPlaces-touch n statuses touched place byte after within touches fits = (
  length-set statuses place after ∙ fits.0,
  λ k. grind (arith, times-last k touched (place, byte), get_or-set_at, get_or-set_other, fits.0, fits.1 k, fits.1 place),
)

-- a place that is listed is one of the places
pub listed_within : (n : ℕ) (statuses : List Status) (touched : List (ℕ × ℕ)) (place : ℕ) → Fits n statuses touched → 1 ≤ times place touched → place < n
listed_within n statuses touched place fits listed = grind (arith, get_or_past, fits.0, fits.1 place)

-- a place that is untouched again
pub untouched-set : (statuses : List Status) (place : ℕ) → is_untouched (status_at (slice_set statuses place Untouched) place) ≡ true
untouched-set statuses place = grind (arith, get_or-set_at, get_or_past, length-set)

-- at most once
pub times-once : (b : Bool) (count : ℕ) → count ≡ (if b then 0 else 1) → count ≤ 1
times-once b count e = grind arith

-- marks that fit their places do so once the last touch is taken back
pub FitPlaces-cut : (n : ℕ) (statuses : List Status) (touched : List (ℕ × ℕ)) (noted : ℕ × ℕ) → Fits n statuses (touched ++ noted ∷ [])
    → Fits n (slice_set statuses noted.0 Untouched) touched
FitPlaces-cut n statuses touched noted fits = (
  length-set statuses noted.0 Untouched ∙ fits.0,
  λ k. grind (arith, times-last k touched noted, untouched-set statuses noted.0, get_or-set_other, fits.1 k),
)

-- a status after a read is not untouched
pub touched-after_read : (s : Status) → is_untouched (status_after_read s) ≡ false
touched-after_read s = grind arith

-- a status after a write is not untouched
pub touched-after_write : (s : Status) → is_untouched (status_after_write s) ≡ false
touched-after_write s = grind arith
