-- Lemmas on tracers of which nothing is touched.
use Rattle.std.proofs.Common.{◌≡◌, ℕ, zero, suc, ◌⊎◌, Bool, true, List, [], ◌∷◌, length, replicate, refl, sym, ap, ◌∙◌, inl, inr, slice_index_or, arith, if◌then◌else◌}
use Rattle.std.proofs.lemmas.List.{get_or-map, length-map, get_or-set_other, get_or-replicate, get_or_past, ext_get_or, length-replicate}
use Rattle.std.proofs.lemmas.Bool.{cases_eq}
use Rattle.asc_model.specs.declared.status.Status.{Status}
use Rattle.asc_model.specs.declared.status.Status.TheVariants.{Untouched}
use Rattle.asc_shape.specs.Face.{status_at, is_untouched}
use Rattle.asc_depvec.specs.Tracer.{untouch}
use Rattle.asc_depvec.specs.Inside.{status_of, statuses_of}
use Rattle.asc_depvec.proofs.Marking.{Fits, times, times-first_other, untouched-set, untouched_is}
use Rattle.asc_depvec.proofs.Undoing.{length-untouch}

-- a place that is listed is untouched again, and another one has its status
untouch_at : (statuses : List Status) (list : List (ℕ × ℕ)) (place : ℕ)
    → (is_untouched (status_at (untouch statuses list) place) ≡ true) ⊎ ((times place list ≡ 0) × (status_at (untouch statuses list) place ≡ status_at statuses place))
untouch_at statuses [] place = inr (refl, refl)
untouch_at statuses (noted ∷ list) place = elim (cases_eq place noted.0) [
  | inl same ↦ inl (rw same (untouched-set (untouch statuses list) noted.0))
  | inr other ↦
      let kept = get_or-set_other (untouch statuses list) noted.0 place Untouched Untouched other in
      elim (untouch_at statuses list place) [
        | inl again ↦ inl (rw kept again)
        | inr (none, e) ↦ inr (rw (times-first_other place noted list (λ s. other (sym s))) none, kept ∙ e)
      ]
]

-- where it is listed exactly if it is touched
not_listed : (b : Bool) (count : ℕ) → count ≡ 0 → count ≡ (if b then 0 else 1) → b ≡ true
not_listed b count none e = grind arith

-- once all that are listed are untouched again, all are
pub untouch-all : (n : ℕ) (statuses : List Status) (touched : List (ℕ × ℕ)) → Fits n statuses touched → untouch statuses touched ≡ replicate n Untouched
untouch-all n statuses touched fits =
    let size : length (untouch statuses touched) ≡ n = length-untouch statuses touched ∙ fits.0 in
    ext_get_or Untouched (untouch statuses touched) (replicate n Untouched) (size ∙ sym (length-replicate n Untouched))
    (λ i h. untouched_is _ (elim (untouch_at statuses touched i) [
      | inl again ↦ again
      | inr (none, e) ↦ ap is_untouched e ∙ not_listed (is_untouched (status_at statuses i)) (times i touched) none (fits.1 i)
    ]) ∙ sym (get_or-replicate n i Untouched Untouched (omega arith)))

-- each place is untouched
pub status_at-replicate : (n place : ℕ) → status_at (replicate n Untouched) place ≡ Untouched
status_at-replicate n place = grind (arith, get_or-replicate, get_or_past, length-replicate)

-- the status that the mark of a place tells
pub status_told : (marks : List ℕ) (place : ℕ) → status_of (slice_index_or marks place 3) ≡ status_at (statuses_of marks) place
status_told marks place = grind (arith, get_or-map, get_or_past, length-map)

-- marks of untouched places
pub statuses-replicate : (n : ℕ) → statuses_of (replicate n 3) ≡ replicate n Untouched
statuses-replicate zero = refl
statuses-replicate (suc n) = rw (statuses-replicate n)

-- statuses that fit while nothing is touched
pub Fits-fresh : (n : ℕ) (statuses : List Status) → statuses ≡ replicate n Untouched → Fits n statuses []
Fits-fresh n statuses all = (rw (all, length-replicate), λ place. rw (all, status_at-replicate))
