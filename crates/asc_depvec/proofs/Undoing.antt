-- Lemmas on touches taken back.
use Rattle.std.proofs.Common.{◌≡◌, ℕ, ◌<◌, ◌≤◌, List, [], ◌∷◌, ◌++◌, length, refl, ◌∙◌, arith, append_assoc}
use Rattle.std.specs.Prelude.{All}
use Rattle.std.proofs.lemmas.List.{append-nil, length-set}
use Rattle.std.proofs.lemmas.List.Elements.{All-cons, All-nil}
use Rattle.asc_model.specs.declared.status.Status.{Status}
use Rattle.asc_model.specs.declared.status.Status.TheVariants.{Untouched}
use Rattle.asc_depvec.specs.Tracer.{untouch}
use Rattle.asc_depvec.proofs.Marking.{Fits, FitPlaces-cut, listed_within, times, times-first}

-- two lists of places, the last one first
pub untouch-append : (statuses : List Status) (a b : List (ℕ × ℕ)) → untouch statuses (a ++ b) ≡ untouch (untouch statuses b) a
untouch-append statuses [] b = refl
untouch-append statuses (noted ∷ a) b = rw (untouch-append statuses a b)

-- the number of statuses stays
pub length-untouch : (statuses : List Status) (list : List (ℕ × ℕ)) → length (untouch statuses list) ≡ length statuses
length-untouch statuses [] = refl
length-untouch statuses (noted ∷ list) = length-set (untouch statuses list) noted.0 Untouched ∙ length-untouch statuses list

-- marks that fit their places do so once some touches are taken back
pub FitPlaces-untouch : (n : ℕ) (statuses : List Status) (a b : List (ℕ × ℕ)) → Fits n statuses (a ++ b) → Fits n (untouch statuses b) a
FitPlaces-untouch n statuses a [] fits = rw append-nil at fits
FitPlaces-untouch n statuses a (noted ∷ b) fits =
    FitPlaces-cut n (untouch statuses b) a noted (FitPlaces-untouch n statuses (a ++ noted ∷ []) b (rw append_assoc fits))

-- the places of a list of which each is listed at least once
listed : (cells : List (ℕ × ℕ)) (P : ℕ → Type 0) → ((place : ℕ) → 1 ≤ times place cells → P place) → All (λ cell. P cell.0) cells
listed [] P h = All-nil (λ cell. P cell.0)
listed (cell ∷ cells) P h =
    All-cons (λ c. P c.0) cell cells (h cell.0 (grind (arith, times-first cell.0 cell cells)))
    (listed cells P (λ place least. h place (omega (arith, least, times-first place cell cells))))

-- the places that are listed as touched are places
pub touched-within : (n : ℕ) (statuses : List Status) (touched : List (ℕ × ℕ)) → Fits n statuses touched → All (λ cell. cell.0 < n) touched
touched-within n statuses touched fits = listed touched (λ place. place < n) (λ place least. listed_within n statuses touched place fits least)
