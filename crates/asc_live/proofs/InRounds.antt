-- A visit in rounds: its jobs were planned, run by lanes, and are settled one after another.
use Rattle.std.proofs.Common.{◌≡◌, ◌≢◌, inl, inr, ℕ, ◌+◌, ◌<◌, ◌≤◌, true, List, length, get_or, set, Option, Some, None, refl, sym, ap, subst, ◌∙◌, arith}
use Rattle.std.specs.Option.{is_some}
use Rattle.std.proofs.lemmas.List.{get_or-set_other}
use Rattle.asc_model.specs.State.{State}
use Rattle.asc_guess.specs.declared.kind.Kind.TheVariants.{Last}
use Rattle.asc_guess.specs.Guess.{guess_of, Task}
use Rattle.asc_traj.specs.declared.made.Made.{Made}
use Rattle.asc_traj.specs.Made.{IsMade}
use Rattle.asc_find.specs.declared.guessing.Guessing.{Guessing}
use Rattle.asc_find.specs.Serial.{Serial, bounds_at}
use Rattle.asc_work.specs.Lanes.{Lanes, IsDone}
use Rattle.asc_run.specs.VisitedBy.{IsVisit}
use Rattle.asc_run.specs.SerialHelper.{SerialHelper, IsPlanned, IsSettled, aid_of}
use Rattle.asc_run.specs.SerialInside.{MakesJob}
use Rattle.asc_run.proofs.Visiting.{Counts, Works, visit-is, works-more}
use Rattle.asc_live.specs.Rounds.{AreDone, AreFor, AreThere, HaveRun}

-- ---- one job

-- the results of later jobs stay where one was taken
pub there_more : (plan : SerialHelper) (results : List (Option Made)) (i : ℕ) → AreThere plan results i → AreThere plan (set results i None) (i + 1)
there_more plan results i there j from within =
    ap is_some (get_or-set_other results i j None None (λ e. absurd (let x : ⊥ = omega (arith, e, from) in x))) ∙ there j (omega (arith, from)) within

pub done_more : (plan : SerialHelper) (results : List (Option Made)) (i : ℕ) → AreDone plan results i → AreDone plan (set results i None) (i + 1)
done_more plan results i done prev last p q j d from within =
    subst (IsDone plan.machine.guessing.laps plan.machine.guessing.span prev last (get_or plan.jobs j d))
    (sym (get_or-set_other results i j None None (λ e. absurd (let x : ⊥ = omega (arith, e, from) in x))))
    (done prev last p q j d (omega (arith, from)) within)

-- what a lane made is what became of the job
pub made_by_lane : (plan now : SerialHelper) (results : List (Option Made)) (i : ℕ) (made : Made) → Works plan now i → AreDone plan results i → i < length plan.jobs → get_or results i None ≡ Some made → MakesJob now i made
made_by_lane plan now results i made w done within is prev last p q kind ahead here r =
    let guessing : now.machine.guessing ≡ plan.machine.guessing = ap (λ (m : Serial). m.guessing) w.machine in
    let prev_is : plan.machine.prev ≡ Some prev = sym (ap (λ (m : Serial). m.prev) w.machine) ∙ p in
    let last_is : plan.machine.last ≡ Some last = sym (ap (λ (m : Serial). m.last) w.machine) ∙ q in
    let task : get_or plan.jobs i (kind, ahead) ≡ (kind, ahead) = sym (ap (λ (jobs : List Task). get_or jobs i (kind, ahead)) w.jobs) ∙ here in
    let all = done prev last prev_is last_is i (kind, ahead) (omega arith) within in
    let of_task : IsDone plan.machine.guessing.laps plan.machine.guessing.span prev last (kind, ahead) (get_or results i None) =
    subst (λ (t : Task). IsDone plan.machine.guessing.laps plan.machine.guessing.span prev last t (get_or results i None)) task all in
    let of_made : IsDone plan.machine.guessing.laps plan.machine.guessing.span prev last (kind, ahead) (Some made) =
    subst (IsDone plan.machine.guessing.laps plan.machine.guessing.span prev last (kind, ahead)) is of_task in
    subst (λ (g : Guessing). IsMade (bounds_at g last) (guess_of kind ahead prev last) 0 0 made) (sym guessing) (of_made r)

-- a job that is there
pub done_there : (laps span : ℕ) (prev last : State) (job : Task) (made : Option Made) → IsDone laps span prev last job made → is_some made ≡ true
done_there laps span prev last job None done = absurd done
done_there laps span prev last job (Some made) done = refl

-- ---- what lanes have run

-- the results are there, and are what becomes of the jobs
pub have_run : (h : SerialHelper) (old new : Lanes) (jobs : List Task) (prev last : State) → AreFor h old → jobs ≡ h.jobs → h.machine.prev ≡ Some prev → h.machine.last ≡ Some last
    → ((i : ℕ) (d : Task) → i < length jobs → IsDone old.laps old.span prev last (get_or jobs i d) (get_or new.results i None)) → new ≡ record old { results = new.results; ran = new.ran } → HaveRun h old new
have_run h old new jobs prev last fits same p q done rest = record {
  there = λ i from within. done_there old.laps old.span prev last (get_or h.jobs i (Last, 0)) (get_or new.results i None) (moved i (Last, 0) within);
  done = λ prev_too last_too p_too q_too i d from within.
      let prev_is : prev ≡ prev_too = cc in
      let last_is : last ≡ last_too = cc in
      let Told : ℕ → ℕ → State → State → Type 0 = λ laps span a b. IsDone laps span a b (get_or h.jobs i d) (get_or new.results i None) in
      subst (λ (laps : ℕ). Told laps h.machine.guessing.span prev_too last_too) fits.laps
      (subst (λ (span : ℕ). Told old.laps span prev_too last_too) fits.span
      (subst (λ (a : State). Told old.laps old.span a last_too) prev_is
      (subst (λ (b : State). Told old.laps old.span prev b) last_is (moved i d within))));
  same = rest;
}
  where
    moved : (i : ℕ) (d : Task) → i < length h.jobs → IsDone old.laps old.span prev last (get_or h.jobs i d) (get_or new.results i None)
    moved i d within =
        subst (λ (js : List Task). IsDone old.laps old.span prev last (get_or js i d) (get_or new.results i None)) same
        (done i d (subst (λ (js : List Task). i < length js) (sym same) within))

-- ---- the visit

-- what a plan leaves of the counts
planned_counts : (number : ℕ) (now : State) (old plan : SerialHelper) → IsPlanned number now old plan → Counts old plan
planned_counts number now old plan (inl (same, inl is)) = subst (Counts old) (sym is) (record { jumps = refl; made = refl; refused = omega arith })
planned_counts number now old plan (inl (same, inr is)) = subst (Counts old) (sym is) (record { jumps = refl; made = omega arith; refused = omega arith })
planned_counts number now old plan (inr (other, is)) = subst (Counts old) (sym is) (record { jumps = refl; made = omega arith; refused = omega arith })

-- once all jobs of the plan are settled, the visit is one
pub visit_done : (number : ℕ) (now left : State) (old plan done : SerialHelper) (i : ℕ) → IsPlanned number now old plan → Works plan done i → i ≡ length plan.jobs → length plan.jobs ≤ 128 → left ≡ now
    → IsVisit number now left (aid_of old) (aid_of done)
visit_done number now left old plan done i p w n few stays =
    let c = planned_counts number now old plan p in
    let made = w.made in
    let made_before = c.made in
    let refused = w.refused in
    let refused_before = c.refused in
    record {
      jumps = w.jumps ∙ c.jumps;
      replies = refl;
      plan = record { made = omega (arith, made, made_before); full = omega arith; few = omega (arith, made, made_before, few); refused = omega (arith, refused, refused_before); queue = refl };
      seen = λ before is. absurd (cc);
      stays = stays;
      machine = visit-is number now old plan done i p w n;
    }

-- a visit of a state of another shape leaves what is told
pub visit_elsewhere : (number : ℕ) (now : State) (old plan done : SerialHelper) (i : ℕ) → IsPlanned number now old plan → Works plan done i → i ≡ length plan.jobs → now.shape ≢ old.machine.shape → aid_of done ≡ aid_of old
visit_elsewhere number now old plan done i (inl (same, planned)) w n other = absurd (other same)
visit_elsewhere number now old plan done i (inr (apart, is)) w n other =
    ap aid_of (w.none (n ∙ ap (λ (h : SerialHelper). length h.jobs) is) ∙ is)

-- ---- the loop over the jobs

-- what the first i jobs leave: they were settled, and the results of the others are there
pub record Settles (plan now : SerialHelper) (was lanes : Lanes) (i : ℕ) : Type 0 where
  pub works : Works plan now i
  pub there : AreThere plan lanes.results i
  pub done : AreDone plan lanes.results i
  pub same : lanes ≡ record was { results = lanes.results }

-- one job more
pub settles_more : (plan now next : SerialHelper) (was lanes left : Lanes) (i : ℕ) (made : Made) → Settles plan now was lanes i → i < length plan.jobs → get_or lanes.results i None ≡ Some made
    → left ≡ record lanes { results = set lanes.results i None } → IsSettled now made next → Settles plan next was left (i + 1)
settles_more plan now next was lanes left i made s within is taken settled = record {
  works = works-more plan now now next i made s.works within refl (made_by_lane plan now lanes.results i made s.works s.done within is) settled;
  there = subst (λ (l : Lanes). AreThere plan l.results (i + 1)) (sym taken) (there_more plan lanes.results i s.there);
  done = subst (λ (l : Lanes). AreDone plan l.results (i + 1)) (sym taken) (done_more plan lanes.results i s.done);
  same = taken ∙ (λ j. record (s.same j) { results = set lanes.results i None }) ∙ (λ j. record was { results = (sym taken j).results });
}
