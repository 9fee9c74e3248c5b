-- The rows, by computing.
use Rattle.std.proofs.Common.{◌≡◌, ◌+◌, ℕ, zero, suc, Bool, true, false, [], refl, subst, arith, inl, inr}
use Rattle.std.specs.Prelude.{not, ◌&&◌}
use Rattle.std.proofs.lemmas.Bool.{cases_lt}
use Rattle.asc_model.specs.DependencyVector.{first_reads, written_in}
use Rattle.asc_model.specs.Entry.{entry_of}
use Rattle.asc_model.specs.Instruction.{decode}
use Rattle.asc_model.specs.Join.{join_of}
use Rattle.asc_model.specs.Machine.{words, view_of, state_of}
use Rattle.asc_model.specs.Places.{places_read, writes}
use Rattle.asc_model.specs.Plain.{plain}
use Rattle.asc_model.specs.Reach.{reach_from}
use Rattle.asc_model.specs.Step.{outcome, next}
use Rattle.asc_shape.specs.Stride.{strided}
use Rattle.asc_calls.specs.GuestCall.{guest_call}
use Rattle.asc_run.specs.declared.recognised.Recognised.TheVariants as recognised
use Rattle.asc_run.specs.Execution.{progress}
use Rattle.asc_run.specs.Visits.{visit_rule, HasNoVisit}
use Rattle.asc_find.specs.Serial.{visited}
use Rattle.asc_run.specs.Rows.{Laps, Targets, Strides, Both, Joins, LoopVisits, loop_run}

pub laps : Laps
unfolding plain next outcome words view_of state_of decode strided
laps = record { enters = refl; laps = refl; guess = refl }

pub targets : Targets
targets = record { first = refl; second = refl; third = refl; none = refl }

pub strides : Strides
unfolding plain next outcome words view_of state_of decode strided places_read writes first_reads written_in entry_of reach_from visited
strides = record {
  made2 = refl;
  made3 = refl;
  content2 = refl;
  reply2 = refl;
  reply3 = refl;
  content4 = refl;
  made4 = refl;
  reply4 = refl;
  reply4_of_3 = refl;
}

pub both : Both
unfolding plain next outcome words view_of state_of decode strided places_read writes first_reads written_in entry_of reach_from visited
both = record { made2 = refl; reply2 = refl; reply3 = refl; reply4 = refl }

pub joins : Joins
unfolding plain next outcome words view_of state_of decode strided places_read writes first_reads written_in entry_of reach_from join_of visited
joins = record {
  made2 = refl;
  content2 = refl;
  reply2 = refl;
  made3 = refl;
  content3 = refl;
  reply3 = refl;
  reply3_of_5 = refl;
  made4 = refl;
  content4 = refl;
  reply4 = refl;
  content5 = refl;
  reply5 = refl;
}

-- ---- visits

-- whether none of n counts is a visit
none_of : (ℕ → Bool) → (from n : ℕ) → Bool
none_of rule from zero = true
none_of rule from (suc n) = not (rule from) && none_of rule (from + 1) n

both_true : (x y : Bool) → (not x && y) ≡ true → (x ≡ false) × (y ≡ true)
both_true false true e = (refl, refl)
both_true false false e = cc
both_true true y e = cc

HasNoVisit-none_of : (rule : ℕ → Bool) (a n : ℕ) → none_of rule a n ≡ true → HasNoVisit rule a (a + n)
unfolding none_of
HasNoVisit-none_of rule a zero e k le lt = absurd (let x : ⊥ = omega arith in x)
HasNoVisit-none_of rule a (suc n) e k le lt =
    let b = both_true (rule a) (none_of rule (a + 1) n) e in
    elim (cases_lt a k) [
      | inl x ↦ HasNoVisit-none_of rule (a + 1) n b.1 k (omega arith) (omega arith)
      | inr x ↦ (let same : a ≡ k = omega arith in subst (λ i. rule i ≡ false) same b.0)
    ]

pub visits : LoopVisits
unfolding none_of plain next outcome words view_of state_of decode guest_call progress
visits =
    let none = HasNoVisit-none_of (visit_rule (recognised.At 0x10008) loop_run []) in
    record {
      four = (
        (
          (
            (none 0 2 refl, (refl, (tt, (omega arith, none 3 1 refl)))),
            (refl, (tt, (omega arith, none 5 1 refl))),
          ),
          (refl, ((omega arith, (omega arith, (_, refl))), (omega arith, none 8 0 refl))),
        ),
        (refl, ((omega arith, (omega arith, (_, refl))), (omega arith, none 12 8 refl))),
      );
      limited = (
        (
          (
            (none 0 2 refl, (refl, (tt, (omega arith, none 3 1 refl)))),
            (refl, (tt, (omega arith, none 5 1 refl))),
          ),
          (refl, ((omega arith, (omega arith, (_, refl))), (omega arith, none 8 0 refl))),
        ),
        (refl, (tt, (omega arith, none 9 2 refl))),
      );
      replies = refl;
      counts = refl;
      joined = (
        (
          (none 0 2 refl, (refl, (tt, (omega arith, none 3 1 refl)))),
          (refl, (tt, (omega arith, none 5 1 refl))),
        ),
        (refl, ((omega arith, (omega arith, (_, refl))), (omega arith, none 12 8 refl))),
      );
      joined_counts = refl;
    }
