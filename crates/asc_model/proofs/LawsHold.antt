-- The laws, from the lemmas on views, changes and steps.
use Rattle.std.proofs.Common.{◌≡◌, ◌≢◌, ℕ, suc, List, [], ◌∷◌, map, All, slice_index, slice_set, refl, sym, ap, subst, ◌∙◌, arith}
use Rattle.std.proofs.lemmas.List.{get_or-set_other}
use Rattle.asc_model.specs.Places.{writes, bytes_after}
use Rattle.asc_model.specs.State.{State, IsState}
use Rattle.asc_model.specs.Machine.{after_changes, view_of, state_of}
use Rattle.asc_model.specs.Step.{Outcome, Went, Call, Faulted, outcome, next_of, next}
use Rattle.asc_model.specs.Laws.{ViewsDetermineStates, StatesDetermineViews, WritesOfStep, StepWritesBytes, StepsKeepStates}
use Rattle.asc_model.proofs.Changes.{state_of-view_of, view_of-state_of, IsMachine-view_of, IsState-state_of, IsMachine-after_changes}
use Rattle.asc_model.proofs.Steps.{outcome-AreChanges, next-goes, next-calls, next-fails, writes-calls, writes-fails}

pub views_determine_states : ViewsDetermineStates
views_determine_states s good = (IsMachine-view_of s good, state_of-view_of s good)

pub states_determine_views : StatesDetermineViews
states_determine_views shape m good = (IsState-state_of shape m good, view_of-state_of shape m good)

-- a place that is not written keeps its byte
bytes_after-other : (bytes : List ℕ) (list : List (ℕ × ℕ)) (place : ℕ) → All (λ written. written ≢ place) (map (λ cell. cell.0) list) → slice_index (bytes_after bytes list) place ≡ slice_index bytes place
bytes_after-other bytes [] place apart = refl
bytes_after-other bytes (cell ∷ list) place apart =
    let first : place ≢ cell.0 = λ e. apart 0 0 (omega arith) (sym e) in
    bytes_after-other (slice_set bytes cell.0 cell.1) list place (λ k d h. apart (suc k) d (omega arith))
    ∙ get_or-set_other bytes cell.0 place cell.1 0 first

by_outcome : (s : State) → IsState s → (o : Outcome) → outcome s.shape (view_of s) ≡ o → WritesOfStep s
by_outcome s good (Went list) e =
    let n = next-goes s list good e in
    record {
      goes = λ after h. cc;
      others = λ after h place apart.
          let same : after ≡ record s { bytes = bytes_after s.bytes (writes s) } = cc in
          ap (λ (t : State). slice_index t.bytes place) same ∙ bytes_after-other s.bytes (writes s) place apart;
      calls = λ h. absurd (cc);
      fails = λ fault h. absurd (cc);
    }
by_outcome s good Call e =
    let n = next-calls s e in
    record {
      goes = λ after h. absurd (cc);
      others = λ after h place apart. absurd (cc);
      calls = λ h. writes-calls s e;
      fails = λ fault h. absurd (cc);
    }
by_outcome s good (Faulted kind) e =
    let n = next-fails s kind e in
    record {
      goes = λ after h. absurd (cc);
      others = λ after h place apart. absurd (cc);
      calls = λ h. absurd (cc);
      fails = λ fault h. writes-fails s kind e;
    }

pub step_writes_bytes : StepWritesBytes
step_writes_bytes s good = by_outcome s good (outcome s.shape (view_of s)) refl

kept_by_outcome : (s after : State) → IsState s → (o : Outcome) → outcome s.shape (view_of s) ≡ o → next s ≡ Went after → IsState after × (after.shape ≡ s.shape)
unfolding next state_of
kept_by_outcome s after good (Went list) e h =
    let n : next s ≡ Went (state_of s.shape (after_changes s.shape (view_of s) list)) = ap (next_of s.shape (view_of s)) e in
    let same : state_of s.shape (after_changes s.shape (view_of s) list) ≡ after = cc in
    let machine = IsMachine-after_changes s.shape (view_of s) list (IsMachine-view_of s good) (outcome-AreChanges s list good e) in
    (subst IsState same (IsState-state_of s.shape (after_changes s.shape (view_of s) list) machine), sym (ap (λ (t : State). t.shape) same))
kept_by_outcome s after good Call e h = let n = next-calls s e in absurd (cc)
kept_by_outcome s after good (Faulted fault) e h = let n = next-fails s fault e in absurd (cc)

pub steps_keep_states : StepsKeepStates
steps_keep_states s after good h = kept_by_outcome s after good (outcome s.shape (view_of s)) refl h
