-- The places that a tracer touched, and those that steps touch.
use Rattle.std.proofs.Common.{◌≡◌, ℕ, ◌+◌, ◌<◌, ◌≤◌, Bool, not, ◌||◌, ◌==◌, cond, List, [], ◌∷◌, ◌++◌, map, length, if◌then◌else◌, refl, sym, ap, ◌∙◌, arith}
use Rattle.std.specs.Prelude.{All, count_by}
use Rattle.std.proofs.lemmas.Bool.{eq-eqb}
use Rattle.std.proofs.lemmas.List.{length-map}
use Rattle.std.proofs.lemmas.List.Elements.{All-nil, All-cons}
use Rattle.std.proofs.lemmas.List.Folds.{list_any-append}
use Rattle.std.proofs.lemmas.List.Sums.{sum_by-cons}
use Rattle.asc_model.specs.declared.status.Status.{Status}
use Rattle.asc_model.specs.State.{State}
use Rattle.asc_model.specs.Places.{places_from}
use Rattle.asc_model.specs.DependencyVector.{is_among, first_reads, written_in}
use Rattle.asc_model.specs.Reach.{touched_in}
use Rattle.asc_model.proofs.Listings.{count_of_places}
use Rattle.asc_shape.specs.Face.{Told, FitPlaces, is_untouched}
use Rattle.asc_depvec.specs.Dependency.{status_by}
use Rattle.asc_depvec.specs.Laws.{HasStatusesOf}
use Rattle.asc_depvec.specs.Tracer.{Tracing, face_of}
use Rattle.asc_depvec.proofs.Marking.{listed_within}

-- the places of cells
abbrev pub places_of : List (ℕ × ℕ) → List ℕ
places_of cells = map (λ cell. cell.0) cells

-- how often a place is listed
pub times-places : (place : ℕ) (cells : List (ℕ × ℕ)) → count_by (λ x. x == place) (places_of cells) ≡ count_by (λ cell. cell.0 == place) cells
times-places place [] = refl
times-places place (cell ∷ cells) =
    sum_by-cons (λ x. cond (x == place) 1 0) cell.0 (places_of cells)
    ∙ ap (λ n. cond (cell.0 == place) 1 0 + n) (times-places place cells)
    ∙ sym (sum_by-cons (λ c. cond (c.0 == place) 1 0) cell cells)

-- a listed place is listed at least once
listed : (cells : List (ℕ × ℕ)) (P : ℕ → Type 0) → ((place : ℕ) → 1 ≤ count_by (λ cell. cell.0 == place) cells → P place) → All P (places_of cells)
listed [] P h = All-nil P
listed (cell ∷ cells) P h =
    let here = sum_by-cons (λ c. cond (c.0 == cell.0) 1 0) cell cells ∙ ap (λ b. cond b 1 0 + count_by (λ c. c.0 == cell.0) cells) (eq-eqb cell.0 cell.0 refl) in
    All-cons P cell.0 (places_of cells) (h cell.0 (omega (arith, here)))
    (listed cells P (λ place least. h place (omega (arith, least, sum_by-cons (λ c. cond (c.0 == place) 1 0) cell cells))))

-- the places that are listed as touched are places
pub touched-within : (n : ℕ) (statuses : List Status) (touched : List (ℕ × ℕ)) → FitPlaces n (Told 0 statuses touched) → All (λ place. place < n) (places_of touched)
touched-within n statuses touched fits = listed touched (λ place. place < n) (λ place least. listed_within n statuses touched place fits least)

-- a status by whether its place was read first or written says whether it was touched
touched_by : (read written : Bool) → is_untouched (status_by read written) ≡ not (read || written)
touched_by read written = grind arith

once_by : (b : Bool) → ◌≡◌ {A = ℕ} (if not b then 0 else 1) (if b then 1 else 0)
once_by b = grind arith

-- a tracer that has the statuses of n steps has as many touched places as these steps touch
pub length-touched : (n : ℕ) (start : State) (t : Tracing) → FitPlaces (length t.state.bytes) (face_of t).marks → HasStatusesOf n start t → length start.bytes ≡ length t.state.bytes
    → length t.touched ≡ touched_in n start
length-touched n start t fits has size =
    let among : ℕ → Bool = λ place. is_among place (first_reads n start ++ written_in n start) in
    let once = λ (place : ℕ) (within : place < length t.state.bytes).
    times-places place t.touched ∙ fits.1 place
    ∙ ap (λ (s : Status). if is_untouched s then 0 else 1) (has place within)
    ∙ ap (λ (b : Bool). if b then 0 else 1) (touched_by (is_among place (first_reads n start)) (is_among place (written_in n start)))
    ∙ ap (λ (b : Bool). if not b then 0 else 1) (sym (list_any-append (λ other. other == place) (first_reads n start) (written_in n start)))
    ∙ once_by (among place) in
    sym (length-map t.touched (λ cell. cell.0))
    ∙ count_of_places among (length t.state.bytes) (places_of t.touched) (touched-within (length t.state.bytes) t.statuses t.touched fits) once
    ∙ ap (λ m. count_by among (places_from 0 m)) (sym size)
