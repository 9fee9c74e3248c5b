-- A trace on its way, turn by turn.
use Rattle.std.proofs.Common.{◌≡◌, ℕ, zero, suc, ◌+◌, ◌-◌, ◌^◌, ◌<◌, ◌≤◌, Bool, true, false, ◌==◌, cond, List, [], length, nat_lt, Option, Some, None, if◌then◌else◌, refl, sym, ap, subst, ◌∙◌, arith, add-zero}
use Rattle.std.specs.Prelude.{count_by, map, sum_by}
use Rattle.std.specs.List.{range_with_len}
use Rattle.std.specs.Option.{option_or}
use Rattle.std.proofs.lemmas.Bool.{cond-true, eq-eqb, eqb-false, false≢true}
use Rattle.std.proofs.lemmas.Bool.Decides.{nat_tests}
use Rattle.std.proofs.lemmas.List.{map-id}
use Rattle.std.proofs.lemmas.List.FromFn.{sum_by-map-range_with_len_more}
use Rattle.std.proofs.lemmas.Option.{same_Some}
use Rattle.std.proofs.Math.Nat.{mod-eq_of_lt}
use Rattle.asc_model.specs.declared.limits.TheConstants.{STEP_ROOM}
use Rattle.asc_model.specs.declared.why.Why.{Why}
use Rattle.asc_model.specs.declared.why.Why.TheVariants as whys
use Rattle.asc_model.specs.Shape.{length_of}
use Rattle.asc_model.specs.State.{State, IsState}
use Rattle.asc_model.specs.Machine.{view_of}
use Rattle.asc_model.specs.Step.{Next, Went, Call, Faulted, next}
use Rattle.asc_model.specs.Places.{places_read, writes, bytes_after}
use Rattle.asc_model.specs.Plain.{plain}
use Rattle.asc_model.specs.Reach.{Bounds, leads_to, laps_in, touched_in, bound_met, why_no_step, why_after, GoesOn, IsReach}
use Rattle.asc_model.proofs.LawsHold.{step_writes_bytes}
use Rattle.asc_model.proofs.PlainSteps.{plain-zero, plain_steps_join, plain_steps_keep_states, plain-suc_next}
use Rattle.asc_model.proofs.Touches.{state-TouchesPlaces}
use Rattle.asc_shape.specs.Face.{Face, FitPlaces, room_of, status_at, is_untouched, face_after_reads}
use Rattle.asc_shape.proofs.Faces.{state-reads, state-puts}
use Rattle.asc_step.specs.Step.{face_after}
use Rattle.asc_step.proofs.Rooms.{room_after_step}
use Rattle.asc_depvec.specs.Tracer.{Tracing, IsTracing, face_of, start_of_face}
use Rattle.asc_depvec.specs.Laws.{HasStatusesOf}
use Rattle.asc_depvec.proofs.Dependencies.{no_statuses, statuses_follow}
use Rattle.asc_depvec.proofs.Marking.{untouched_is}
use Rattle.asc_depvec.proofs.Starts.{starts_stay}
use Rattle.asc_traj.specs.Inside.{AreSure, counted, met}
use Rattle.asc_traj.specs.Trace.{Asked, CountsAsk, LosesPatience, asks_of, origin_of}
use Rattle.asc_traj.proofs.Attempts.{room-told}
use Rattle.asc_traj.proofs.Places.{length-touched}

-- After n steps of a start, of which so many were laps, a tracer is on its way: it stands where they lead, with their
-- statuses, and nothing ended the trace before.
pub record IsOnWay (bounds : Bounds) (start : State) (n laps : ℕ) (t : Tracing) : Type 0 where
  pub good : IsState start
  pub began : origin_of t ≡ start
  pub goes : plain n start ≡ Went t.state
  pub statuses : HasStatusesOf n start t
  pub own : t.shape ≡ start.shape
  pub cap : t.cap ≡ bounds.cap
  pub counted : laps ≡ laps_in bounds.pc n start
  pub least : GoesOn bounds start n
  pub most : laps ≤ n
  pub span : n ≤ bounds.span

-- a tracer of which nothing is touched has done no step
pub begins : (bounds : Bounds) (t : Tracing) → t.touched ≡ [] → t.state.shape ≡ t.shape → t.cap ≡ bounds.cap → IsState t.state
    → FitPlaces (length t.state.bytes) (face_of t).marks → IsOnWay bounds t.state 0 0 t
begins bounds t none own same_cap good fits =
    let start : origin_of t ≡ t.state = ap (λ (list : List (ℕ × ℕ)). record t.state { bytes = bytes_after t.state.bytes list }) none in
    record {
      good = good;
      began = start;
      goes = plain-zero t.state;
      statuses = λ place within.
          let unlisted : count_by (λ noted. noted.0 == place) t.touched ≡ 0 = ap (count_by (λ (noted : ℕ × ℕ). noted.0 == place)) none in
          untouched_is (status_at t.statuses place) (untouched_by (is_untouched (status_at t.statuses place)) (sym unlisted ∙ fits.1 place))
          ∙ sym (no_statuses t.state place);
      own = sym own;
      cap = same_cap;
      counted = refl;
      least = λ k now lt. absurd (omega arith);
      most = omega arith;
      span = omega arith;
    }
  where
    untouched_by : (b : Bool) → ◌≡◌ {A = ℕ} 0 (if b then 0 else 1) → b ≡ true
    untouched_by true e = refl
    untouched_by false e = absurd (cc)

-- ---- the bounds

room_left : (cap n : ℕ) → n ≤ cap → nat_lt (cap - n) 32 ≡ nat_lt cap (n + 32)
room_left cap n h = grind (arith, nat_tests)

-- what is left of a tracer's places is what its steps leave
few_left : (bounds : Bounds) (start : State) (n laps : ℕ) (t : Tracing) → IsOnWay bounds start n laps t → IsTracing t
    → FitPlaces (length t.state.bytes) (face_of t).marks → nat_lt (room_of (face_of t).marks) STEP_ROOM ≡ nat_lt bounds.cap (touched_in n start + 32)
few_left bounds start n laps t on is fits =
    let kept = plain_steps_keep_states n start t.state on.good on.goes in
    let size : length start.bytes ≡ length t.state.bytes = on.good.length ∙ ap length_of (sym kept.1) ∙ sym kept.0.length in
    ap (λ r. nat_lt r 32) (room-told t is ∙ ap (λ c. c - length t.touched) on.cap)
    ∙ room_left bounds.cap (length t.touched) (subst (λ c. length t.touched ≤ c) on.cap is.room)
    ∙ ap (λ m. nat_lt bounds.cap (m + 32)) (length-touched n start t fits on.statuses size)

-- none is left where all steps of the span are taken
none_left : (span n : ℕ) → n ≤ span → (span - n == 0) ≡ (n == span)
none_left span n most = grind (arith, nat_tests)

-- A turn of the loop, after some steps: it counted so many laps, which are too few. So the bound that its test meets is
-- the trace's.
pub turn : {bounds : Bounds} {start : State} {n laps counts : ℕ} {t : Tracing} {all : Bool} → IsOnWay bounds start n counts t → laps ≡ counts → all ≡ (laps == bounds.laps) → all ≡ false
    → IsTracing t → FitPlaces (length t.state.bytes) (face_of t).marks → bound_met bounds n start ≡ met (bounds.span - n) t
turn {bounds} {start} {n} {counts} {t} way same tests few is fits =
    let laps = ap (λ (l : ℕ). l == bounds.laps) (sym way.counted ∙ sym same) ∙ sym tests ∙ few in
    let span = none_left bounds.span n way.span in
    let room = few_left bounds start n counts t way is fits in
    sym (λ i. if sym laps i then Some whys.Lap else (if span i then Some whys.Span else (if room i then Some whys.Room else None)))

-- where no bound is met some are left, and there is room for a step
pub some_left : (left : ℕ) (t : Tracing) → met left t ≡ None → 0 < left
some_left left t none = grind (arith, nat_tests)

pub room_for_step : (left : ℕ) (t : Tracing) → met left t ≡ None → STEP_ROOM ≤ room_of (face_of t).marks
room_for_step left t none = grind (arith, nat_tests)

-- the first bound that is met is that of laps
pub lapped : (bounds : Bounds) (start : State) (n laps : ℕ) (t : Tracing) → IsOnWay bounds start n laps t → laps ≡ bounds.laps → bound_met bounds n start ≡ Some whys.Lap
lapped bounds start n laps t on e = cond-true (laps_in bounds.pc n start == bounds.laps) _ _ (eq-eqb (laps_in bounds.pc n start) bounds.laps (sym on.counted ∙ e))

-- ---- ends

ends : (bounds : Bounds) (start : State) (n laps : ℕ) (t : Tracing) (why : Why) → IsOnWay bounds start n laps t → why_after bounds n start t.state ≡ Some why → IsReach bounds start n why
ends bounds start n laps t why on e = record { now = t.state; goes = on.goes; ends = e; least = on.least }

-- it ends where a bound is met
pub ends-bound : (bounds : Bounds) (start : State) (n laps : ℕ) (t : Tracing) (why : Why) → IsOnWay bounds start n laps t → bound_met bounds n start ≡ Some why → IsReach bounds start n why
ends-bound bounds start n laps t why on e = ends bounds start n laps t why on (ap (λ o. option_or o (why_no_step (next t.state))) e)

-- and where there is no next step
pub ends-step : (bounds : Bounds) (start : State) (n laps : ℕ) (t : Tracing) (why : Why) → IsOnWay bounds start n laps t → bound_met bounds n start ≡ None
    → why_no_step (next t.state) ≡ Some why → IsReach bounds start n why
ends-step bounds start n laps t why on e last = ends bounds start n laps t why on (ap (λ o. option_or o (why_no_step (next t.state))) e ∙ last)

-- ---- one step more

-- where no bound is met neither that of steps is nor that of places
pub unmet : (a b c : Bool) → (if a then Some whys.Lap else (if b then Some whys.Span else (if c then Some whys.Room else None))) ≡ None → (b ≡ false) × (c ≡ false)
unmet a b c e = (grind arith, grind arith)

-- laps by the last of some steps
count-last : (p : ℕ → Bool) (a n : ℕ) → count_by p (range_with_len a (suc n)) ≡ count_by p (range_with_len a n) + cond (p (a + n)) 1 0
count-last p a n =
    let once = λ (k : ℕ). cond {A = ℕ} (p k) 1 0 in
    let next : suc n ≡ n + 1 = omega arith in
    sym (ap (sum_by once) (map-id (range_with_len a (suc n)))) ∙ ap (λ (m : ℕ). sum_by once (map (λ (k : ℕ). k) (range_with_len a m))) next
    ∙ sum_by-map-range_with_len_more once (λ k. k) a n (a + n) refl ∙ ap (λ (list : List ℕ). sum_by once list + once (a + n)) (map-id (range_with_len a n))

laps-last : (pc n : ℕ) (start after : State) → plain (suc n) start ≡ Went after → laps_in pc (suc n) start ≡ laps_in pc n start + cond ((view_of after).pc == pc) 1 0
laps-last pc n start after e =
    count-last (λ k. leads_to pc (plain k start)) 1 n
    ∙ ap (λ k. laps_in pc n start + cond (leads_to pc (plain k start)) 1 0) (omega arith)
    ∙ ap (λ x. laps_in pc n start + cond (leads_to pc x) 1 0) e

-- where a step is not ended it leads to a state
pub goes_by : (x : Next) → why_no_step x ≡ None → (after : State) × (x ≡ Went after)
goes_by (Went after) e = (after, refl)
goes_by Call e = absurd (cc)
goes_by (Faulted fault) e = absurd (cc)

-- the state of a face after a step
state-after : (f : Face) (after : State) → IsState f.state → next f.state ≡ Went after → (face_after f).state ≡ after
state-after f after good e =
    state-puts (face_after_reads f (places_read f.state)) (writes f.state)
    ∙ ap (λ (s : State). record s { bytes = bytes_after s.bytes (writes f.state) }) (state-reads f (places_read f.state))
    ∙ sym ((step_writes_bytes f.state good).goes after e)

-- nothing ended the trace before one step more
least-more : (bounds : Bounds) (start : State) (n : ℕ) (t : State) → plain n start ≡ Went t → GoesOn bounds start n → bound_met bounds n start ≡ None → why_no_step (next t) ≡ None → GoesOn bounds start (suc n)
least-more bounds start n t goes least bound step k now lt at = grind (arith, nat_tests, goes, least)

-- the next turn: a step was taken, and it was a lap or not
pub goes_on : (bounds : Bounds) (start : State) (n laps : ℕ) (t later : Tracing) → IsOnWay bounds start n laps t
    → IsState t.state → FitPlaces (length t.state.bytes) (face_of t).marks
    → bound_met bounds n start ≡ None → why_no_step (next t.state) ≡ None
    → face_of later ≡ face_after (face_of t) → later.shape ≡ t.shape → later.cap ≡ t.cap
    → (more : ℕ) → more ≡ laps + cond ((view_of later.state).pc == bounds.pc) 1 0 → IsOnWay bounds start (n + 1) more later
goes_on bounds start n laps t later on good fits bound step face shape same_cap more is =
    let one_more : suc n ≡ n + 1 = omega arith in
    let went = goes_by (next t.state) step in
    let after = went.0 in
    let places = state-TouchesPlaces t.state good in
    let at : later.state ≡ after = ap (λ (f : Face). f.state) face ∙ state-after (face_of t) after good went.1 in
    let goes : plain (suc n) start ≡ Went later.state =
    ap (λ k. plain k start) one_more ∙ plain_steps_join n 1 start t.state on.goes ∙ plain-suc_next 0 t.state (Went after) went.1 ∙ plain-zero after ∙ ap Went (sym at) in
    let lap = ap (λ l. l + cond ((view_of later.state).pc == bounds.pc) 1 0) on.counted in
    let bound_lap = cond_most ((view_of later.state).pc == bounds.pc) in
    subst (λ k. IsOnWay bounds start k more later) one_more (record {
      good = on.good;
      began = ap start_of_face face ∙ starts_stay t (places_read t.state) (writes t.state) fits places.read places.written ∙ on.began;
      goes = goes;
      statuses = statuses_follow n start after t later on.goes went.1 fits on.statuses face;
      own = shape ∙ on.own;
      cap = same_cap ∙ on.cap;
      counted = is ∙ lap ∙ sym (laps-last bounds.pc n start later.state goes);
      least = least-more bounds start n t.state on.goes on.least bound step;
      most = omega (arith, is, bound_lap, on.most);
      span = omega (arith, on.span, eqb-false n bounds.span (unmet (laps_in bounds.pc n start == bounds.laps) (n == bounds.span) _ bound).0);
    })
  where
    cond_most : (b : Bool) → cond b 1 0 ≤ 1
    cond_most true = omega arith
    cond_most false = omega arith

-- of the steps that are sure one fewer is left
pub sure-next : (span n sure : ℕ) (t later : Tracing) → AreSure span n sure (room_of (face_of t).marks) → n < sure → IsState t.state → FitPlaces (length t.state.bytes) (face_of t).marks
    → face_of later ≡ face_after (face_of t) → AreSure span (n + 1) sure (room_of (face_of later).marks)
sure-next span n sure t later was more good fits face = record {
  least = omega (arith, more);
  most = was.most;
  room = omega (arith, more, was.room, room_after_step (face_of t) (face_of later) good fits face);
}

-- ---- the count of laps

-- at the start none is counted
pub counted-start : (laps : ℕ) (there : Bool) → laps ≡ (if there then 2 ^ 64 - 1 else 0) → counted laps there ≡ 0
counted-start laps there e = grind arith

pub few-start : (laps all : ℕ) (there : Bool) → laps ≡ (if there then 2 ^ 64 - 1 else 0) → 1 ≤ all → there ≡ false → (laps == all) ≡ false
few-start laps all there e some away = grind (arith, nat_tests)

-- and later one more, where the state stands at the pc of laps
pub counted-more : (laps : ℕ) (there : Bool) → laps + 1 < 2 ^ 64 → counted laps there ≡ laps + cond there 1 0
counted-more laps true below = mod-eq_of_lt below
counted-more laps false below = sym (add-zero laps)

-- ---- patience

-- of n answers that may be no, so many were, and the others are left
pub record HasLeft (patience : Option ℕ) (steps n : ℕ) : Type 0 where
  pub left : ℕ
  pub told : patience ≡ Some left
  pub sum : steps + left ≡ n

pub left-first : (patience : Option ℕ) (n : ℕ) → patience ≡ Some n → HasLeft patience 0 n
left-first patience n e = record { left = n; told = e; sum = omega arith }

-- after a no there is one fewer
pub left-next : (before now : Option ℕ) (steps n : ℕ) → HasLeft before steps n → LosesPatience before now false → HasLeft now (steps + 1) n
left-next None now steps n has loses = let none = has.told in absurd (cc)
left-next (Some zero) now steps n has loses = absurd (false≢true loses)
left-next (Some (suc m)) now steps n has loses =
    let same : suc m ≡ has.left = let some = has.told in cc in
    record { left = m; told = loses refl; sum = omega (arith, same, has.sum) }

-- ---- questions

-- before a trace asks, its number of questions is as it was
pub asked-none : (asks : Option ℕ) → Asked asks asks 0
asked-none None = tt
asked-none (Some n) = omega arith

-- it is one more after the next
pub asked-next : (first before now : Option ℕ) (n : ℕ) → Asked first before n → CountsAsk before now → Asked first now (n + 1)
asked-next first before None n asked one = tt
asked-next first None (Some now) n asked one = absurd one
asked-next None (Some before) (Some now) n asked one = absurd asked
asked-next (Some first) (Some before) (Some now) n asked one = omega arith

-- where a bound is met it was not asked after the last step
pub asked-bound : (b c : Bool) (why : Why) (first now : Option ℕ) (n : ℕ) → Asked first now n
    → (if b then Some whys.Span else (if c then Some whys.Room else None)) ≡ Some why → Asked first now (asks_of n why)
asked-bound true c why first now n asked e = subst (λ w. Asked first now (asks_of n w)) (same_Some whys.Span why e) asked
asked-bound false true why first now n asked e = subst (λ w. Asked first now (asks_of n w)) (same_Some whys.Room why e) asked
asked-bound false false why first now n asked e = absurd (cc)

-- and where there is no next step it was
pub asked-step : (s : Next) (why : Why) (first now : Option ℕ) (n : ℕ) → Asked first now (n + 1) → why_no_step s ≡ Some why → Asked first now (asks_of n why)
asked-step (Went after) why first now n asked e = absurd (cc)
asked-step Call why first now n asked e = subst (λ w. Asked first now (asks_of n w)) (same_Some whys.Call why e) asked
asked-step (Faulted fault) why first now n asked e = grind (arith, nat_tests, same_Some)
