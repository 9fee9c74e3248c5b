-- Whether a trace takes a step at all, and what became of its guess.
use Rattle.std.proofs.Common.{◌≡◌, ℕ, zero, suc, ◌+◌, ◌<◌, ◌≤◌, Bool, true, false, ◌&&◌, Option, Some, None, length, refl, sym, ap, ◌∙◌, subst, arith, if◌then◌else◌, inl, inr}
use Rattle.std.proofs.lemmas.Bool.{ltb-false}
use Rattle.std.specs.Option.{is_none, option_or}
use Rattle.std.proofs.lemmas.Bool.Decides.{nat_tests}
use Rattle.asc_model.specs.declared.limits.TheConstants.{STEP_ROOM}
use Rattle.asc_model.specs.declared.why.Why.{Why}
use Rattle.asc_model.specs.State.{State}
use Rattle.asc_model.specs.Step.{Next, Went, Call, Faulted, next}
use Rattle.asc_model.specs.Entry.{Entry, entry_of}
use Rattle.asc_model.specs.Reach.{Bounds, why_after, why_no_step, touched_in, reach_from, reach_of}
use Rattle.asc_model.proofs.PlainSteps.{plain-zero}
use Rattle.asc_model.proofs.Computing.{reaches_are_computed}
use Rattle.asc_shape.specs.Face.{room_of}
use Rattle.asc_depvec.specs.Tracer.{Tracing, IsTracing, face_of}
use Rattle.asc_traj.specs.declared.made.Made.{Made}
use Rattle.asc_traj.specs.declared.made.Made.TheVariants.{One, Empty, Stopped, Refused}
use Rattle.asc_traj.specs.Trace.{is_stopped, origin_of}
use Rattle.asc_traj.specs.Inside.{HasTraced}
use Rattle.asc_traj.specs.Made.{IsMade}
use Rattle.asc_traj.proofs.Attempts.{room-told}
use Rattle.asc_traj.proofs.Traces.{goes_by, unmet}
use Rattle.asc_traj.proofs.Places.{length-touched}

-- ---- how many steps a trace takes

-- a trace that ends at its start takes no step
ends_at_once : (bounds : Bounds) (start : State) (why : Why) → why_after bounds 0 start start ≡ Some why → reach_of bounds start ≡ 0
ends_at_once bounds start why e = reaches_are_computed bounds start 0 why (record {
  now = start;
  goes = plain-zero start;
  ends = e;
  least = λ k now l h. absurd (omega arith);
})

-- where nothing ends it, there is a next state
no_end : (met : Option Why) (x : Next) → option_or met (why_no_step x) ≡ None → (after : State) × (x ≡ Went after)
no_end (Some why) x e = absurd (cc)
no_end None x e = goes_by x e

-- from k steps on it takes no fewer
by_end : (bounds : Bounds) (start : State) (k fuel : ℕ) (w : Option Why) (x : Next) → ((after : State) → k + 1 ≤ reach_from bounds start (k + 1) fuel after)
    → k ≤ elim w [ Some why ↦ k | None ↦ elim x [ Went after ↦ reach_from bounds start (k + 1) fuel after | Call ↦ k | Faulted fault ↦ k ] ]
by_end bounds start k fuel (Some why) x h = omega arith
by_end bounds start k fuel None (Went after) h = omega (arith, h after)
by_end bounds start k fuel None Call h = omega arith
by_end bounds start k fuel None (Faulted fault) h = omega arith

at_least : (bounds : Bounds) (start : State) (k fuel : ℕ) (now : State) → k ≤ reach_from bounds start k fuel now
unfolding reach_from
at_least bounds start k zero now = omega arith
at_least bounds start k (suc fuel) now =
    by_end bounds start k fuel (why_after bounds k start now) (next now) (λ after. at_least bounds start (k + 1) fuel after)

one_at_least : (bounds : Bounds) (start after : State) (span : ℕ) → 1 ≤ span → why_after bounds 0 start start ≡ None → next start ≡ Went after
    → 1 ≤ reach_from bounds start 0 span start
unfolding reach_from
one_at_least bounds start after zero l e h = absurd (omega arith)
one_at_least bounds start after (suc fuel) l e h = grind (arith, nat_tests, at_least)

-- a trace that does not end at its start takes a step
goes_once : (bounds : Bounds) (start : State) → 1 ≤ bounds.span → why_after bounds 0 start start ≡ None → 1 ≤ reach_of bounds start
goes_once bounds start l e = grind (arith, nat_tests, no_end, one_at_least)

-- ---- a trace of a guess

-- the steps of one that was not stopped are its reach
steps-are : {bounds : Bounds} {guess : State} {n : ℕ} {why : Why} {before now : ℕ} {t : Tracing} → HasTraced bounds guess n why before now t → is_stopped why ≡ false → reach_of bounds guess ≡ n
steps-are {bounds} {guess} {n} {why} has going = reaches_are_computed bounds guess n why (has.reach going)

-- a tracer of no step stands where it started
start-is : {bounds : Bounds} {guess : State} {why : Why} {before now : ℕ} {t : Tracing} → HasTraced bounds guess 0 why before now t → t.state ≡ guess
start-is {t} has = grind (arith, nat_tests, plain-zero)

-- one that was stopped at its start has room for a step
room-at_start : (bounds : Bounds) (guess : State) (t : Tracing) (why : Why) (before now : ℕ) → HasTraced bounds guess 0 why before now t → IsTracing t → is_stopped why ≡ true
    → STEP_ROOM ≤ room_of (face_of t).marks
room-at_start bounds guess t why before now has is stopped =
    let size = ap (λ (s : State). length s.bytes) (has.start ∙ sym (start-is has)) in
    let touched : length t.touched ≡ touched_in 0 guess = length-touched 0 (origin_of t) t has.stands.touched has.stands.statuses size ∙ ap (touched_in 0) has.start in
    let some = ltb-false bounds.cap (touched_in 0 guess + STEP_ROOM) (unmet _ _ _ (has.stopped stopped).unmet).1 in
    omega (arith, touched, some, has.cap, room-told t is)

pub room-for_one : {bounds : Bounds} {guess : State} {n : ℕ} {why : Why} {before now : ℕ} {t : Tracing} → HasTraced bounds guess n why before now t → IsTracing t → n ≡ 0 → is_stopped why ≡ true
    → STEP_ROOM ≤ room_of (face_of t).marks
room-for_one {bounds} {guess} {n} {why} {before} {now} {t} has is none stopped =
    room-at_start bounds guess t why before now (subst (λ k. HasTraced bounds guess k why before now t) none has) is stopped

-- ---- what became of it

-- A trace was stopped at its start. A step that is tried tells whether its guess has one.
by_step : {bounds : Bounds} {guess : State} {why : Why} {before now : ℕ} {t : Tracing} → HasTraced bounds guess 0 why before now t → is_stopped why ≡ true → 1 ≤ bounds.span
    → (x : Option Why) → why_no_step (next guess) ≡ x → IsMade bounds guess before now (if is_none x then Stopped else Empty)
by_step {bounds} {guess} has stopped span None e = grind (arith, nat_tests, goes_once, unmet)
by_step {bounds} {guess} has stopped span (Some why) e =
    (ends_at_once bounds guess why (ap (λ met. option_or met (why_no_step (next guess))) (has.stopped stopped).unmet ∙ e), inr (has.halt.rose stopped))

by_why : {bounds : Bounds} {guess : State} {why : Why} {before now : ℕ} {t : Tracing} → HasTraced bounds guess 0 why before now t → 1 ≤ bounds.span → (b : Bool) → is_stopped why ≡ b
    → IsMade bounds guess before now (if b && is_none (why_no_step (next guess)) then Stopped else Empty)
by_why {guess} has span true e = by_step has e span (why_no_step (next guess)) refl
by_why has span false e = (steps-are has e, inl (has.halt.stays e))

-- a guess of which no step was traced
pub none-made : (bounds : Bounds) (guess : State) (n : ℕ) (why : Why) (before now : ℕ) (t : Tracing) → HasTraced bounds guess n why before now t → 1 ≤ bounds.span → n ≡ 0
    → (made : Made) → made ≡ (if is_stopped why && is_none (why_no_step (next t.state)) then Stopped else Empty) → IsMade bounds guess before now made
none-made bounds guess n why before now t has span none made is = grind (arith, nat_tests, by_why, start-is)

-- one of which steps were traced has a step
pub stopped-later : {bounds : Bounds} {guess : State} {n : ℕ} {why : Why} {before now : ℕ} {t : Tracing} → HasTraced bounds guess n why before now t → 1 ≤ bounds.span → 0 < n → is_stopped why ≡ true
    → 1 ≤ reach_of bounds guess
stopped-later {bounds} {guess} has span some stopped = goes_once bounds guess span ((has.stopped stopped).least 0 guess some (plain-zero guess))

pub ended-later : {bounds : Bounds} {guess : State} {n : ℕ} {why : Why} {before now : ℕ} {t : Tracing} → HasTraced bounds guess n why before now t → 0 < n → is_stopped why ≡ false
    → 1 ≤ reach_of bounds guess
ended-later has some going = omega (arith, steps-are has going, some)

-- and its entry is that of all of them
pub entry-is : {bounds : Bounds} {guess : State} {n : ℕ} {why : Why} {before now : ℕ} {t : Tracing} → HasTraced bounds guess n why before now t → is_stopped why ≡ false → (e : Entry)
    → entry_of n (origin_of t) ≡ Some e → entry_of (reach_of bounds guess) guess ≡ Some e
entry-is {guess} {n} has going e is = ap (λ k. entry_of k guess) (steps-are has going) ∙ ap (entry_of n) (sym has.start) ∙ is

-- a guess with no step is told to be empty
pub empty-is : (bounds : Bounds) (guess : State) (before now : ℕ) (made : Made) → IsMade bounds guess before now made → reach_of bounds guess ≡ 0 → made ≡ Empty
empty-is bounds guess before now (One entry) is none = let some = is.0 in absurd (omega (arith, some, none))
empty-is bounds guess before now Empty is none = refl
empty-is bounds guess before now Stopped is none = let some = is.0 in absurd (omega (arith, some, none))
empty-is bounds guess before now Refused is none = grind (arith, nat_tests)
