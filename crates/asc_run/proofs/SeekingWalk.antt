-- A walk that seeks its address, so far: one landing more, one turn more, and the end.
use Rattle.std.proofs.Common.{◌≡◌, ◌≢◌, inl, inr, ◌≤◌, ◌<◌, ◌+◌, ◌-◌, ℕ, Bool, false, List, [], length, Option, Some, None, refl, sym, ap, ◌∙◌, subst, arith}
use Rattle.asc_model.specs.State.{State}
use Rattle.asc_model.specs.Step.{Went}
use Rattle.asc_model.specs.Plain.{plain}
use Rattle.asc_model.proofs.PlainSteps.{plain-none}
use Rattle.asc_traj.specs.Jump.{IsJump}
use Rattle.asc_outside.specs.Outside.{Given}
use Rattle.asc_calls.specs.GuestCall.{Device}
use Rattle.asc_calls.specs.World.{CallState, DeviceFaults, World, world}
use Rattle.asc_seek.specs.declared.seeker.Seeking.{Seeking}
use Rattle.asc_seek.specs.declared.seeker.Phase.TheVariants as phase
use Rattle.asc_seek.specs.Heads.{led_back}
use Rattle.asc_seek.specs.Seek.{Seek, is_over, new_seek, advanced, watched_in}
use Rattle.asc_run.specs.declared.recognised.Recognised.TheVariants.{Sought}
use Rattle.asc_run.specs.declared.walk.Ended.{Ended}
use Rattle.asc_run.specs.declared.walk.Ended.TheVariants.{Limit}
use Rattle.asc_run.specs.Execution.{device_of}
use Rattle.asc_run.specs.Sought.{NotesAlong, learning, noting, pc_in}
use Rattle.asc_run.specs.Turn.{Turns, TurnFails}
use Rattle.asc_run.specs.Visits.{Visit, Passes, is_at, visit_rule, with_landing}
use Rattle.asc_run.specs.Helped.{Helped, HasVisits, Lands}
use Rattle.asc_find.specs.Finder.{Aid}
use Rattle.asc_run.specs.Way.{Reaches}
use Rattle.asc_run.specs.Walk.{GoesHelped, HasNotBegun, StopsAt}
use Rattle.asc_run.proofs.Reach.{Reaches-first_position, Reaches-turn, Reaches-says, Reaches-along, Reaches-jump, Reaches-steps, Follows-turn, Follows-limit, StopsAt-fails}
use Rattle.asc_run.proofs.Landings.{Helped-none, Helped-more, number-more}
use Rattle.asc_run.proofs.Seeking.{MayGo}
use Rattle.asc_run.proofs.SeekingLandings.{Landed, Landed-end, Landed-plain, Landed-stood, Seeks, Seeks-first, Seeks-jump, Seeks-step, Stood, Stood-call, phase-cases}

module _ (limit : ℕ) (s : Seeking) (old : World) where
  -- From old to now a walk went on for c steps, of which k were jumped over. Its visits, which are so many, are all before
  -- that, and its search stands behind m, whose phase may be over.
  abbrev pub SeeksOn : (now : World) → (c k number : ℕ) → (m : Seek) → (first last : Aid) → Type 0
  SeeksOn now c k number m first last = (visits : List Visit) × Helped visits first last × ((number ≡ length visits)
      × Reaches (Seeks limit s old.state visits first last c m) old.calls.low old.calls.high old.state old now c k)

  -- the same behind a landing from which it does not jump
  abbrev pub LandsOn : (is_visit : Bool) → (now : World) → (c k number : ℕ) → (m : Seek) → (first last : Aid) → Type 0
  LandsOn is now c k number m first last = (visits : List Visit) × Helped visits first last × ((number ≡ length visits)
      × Reaches (Landed limit s old.state is visits first last c m) old.calls.low old.calls.high old.state old now c k)

  -- a walk that has not begun
  pub seeks-first : (c k number : ℕ) (m : Seek) (a : Aid) → HasNotBegun c old.calls → k ≡ 0 → number ≡ 0 → m ≡ new_seek s → SeeksOn old c k number m a a
  seeks-first c k number m a start none_skipped none_asked new = rw (new, none_skipped, start.none) (
    [],
    Helped-none a,
    (
      none_asked,
      Reaches-first_position (Seeks limit s old.state [] a a 0 (new_seek s)) old 0 (λ run. Seeks-first limit s old.state a run) start.going start.brk refl,
    ),
  )

  module _ (st t : State) (calls calls' : CallState) (left : Option (List ℕ)) (out err : Given) (steps : ℕ) (faults : DeviceFaults) (c c' k k' number number' : ℕ) (m m' m'' : Seek) (address : Option ℕ) (first now new : Aid)
      (same_calls : calls' ≡ calls) (same_count : c' ≡ c) (same_skipped : k' ≡ k) (turned : m' ≡ advanced c m) (going : is_over c m' ≡ false) (watched : address ≡ watched_in m'.phase) (below : c < limit) where
    -- a landing that jumps
    pub seeks-jump : (n : ℕ) → m'' ≡ learning (is_at address st) c (Some n) m' → IsJump (Some n) (limit - c) st t → (is_at address st ≡ false → Some n ≡ None) → SeeksOn (world st calls left out err steps faults) c k number m first now
        → number' ≡ number + length (with_landing (is_at address st) c (Some n) []) → Helped (with_landing (is_at address st) c (Some n) []) now new → Lands (is_at address st) number st (limit - c) (Some n) now new
        → SeeksOn (world t calls' left out err steps faults) (c' + n) (k' + n) number' m'' first new
    seeks-jump n learnt jump passed w more helped lands =
        let is = is_at address st in
        let r = w.2.1 in
        rw (same_calls, same_count, same_skipped, learnt) (
          with_landing is c (Some n) w.0,
          Helped-more is c (Some n) w.0 first now new w.1 helped,
          (
            number-more is c (Some n) w.0 number' number w.2.0 more,
            Reaches-jump _ _ old.calls.low old.calls.high old.state old st t calls left out err steps faults c n k r jump.goes
                (Seeks-jump limit s old.state st c number w.0 first now new m m' is r.shape w.2.0 w.1.plans.refused helped.plans.refused turned going (ap (λ a. is_at a st) (sym watched)) t n jump passed below lands),
          ),
        )

    -- a landing that does not
    pub seeks-step : m'' ≡ learning (is_at address st) c None m' → t ≡ st → SeeksOn (world st calls left out err steps faults) c k number m first now
        → number' ≡ number + length (with_landing (is_at address st) c None []) → Helped (with_landing (is_at address st) c None []) now new → Lands (is_at address st) number st (limit - c) None now new
        → LandsOn (is_at address st) (world t calls' left out err steps faults) c' k' number' m'' first new
    seeks-step learnt same w more helped lands =
        let is = is_at address st in
        let r = w.2.1 in
        rw (same_calls, same_count, same_skipped, learnt, same) (
          with_landing is c None w.0,
          Helped-more is c None w.0 first now new w.1 helped,
          (
            number-more is c None w.0 number' number w.2.0 more,
            Reaches-says _ _ old.calls.low old.calls.high old.state old (world st calls left out err steps faults) c k r
                (Seeks-step limit s old.state st c number w.0 first now new m m' is r.shape w.2.0 w.1.plans.refused helped.plans.refused turned going (ap (λ a. is_at a st) (sym watched)) lands),
          ),
        )

  module _ (is : Bool) (st t : State) (calls calls' : CallState) (left : Option (List ℕ)) (out err : Given) (steps steps' : ℕ) (faults : DeviceFaults) (c c' k number most : ℕ) (m m' : Seek) (address : Option ℕ) (first last : Aid)
      (may : MayGo is address c most m) (same_calls : calls' ≡ calls) (counted : steps' ≡ steps + (c' - c)) (goes : plain (c' - c) st ≡ Went t)
      (noted : m.phase ≡ phase.Profile → NotesAlong st (c' - c) c' t m m') (other : m.phase ≢ phase.Profile → m' ≡ m) where
    -- plain steps from a landing to the next
    pub seeks-plain : c < c' → c' ≤ c + most → (m.phase ≢ phase.Profile → Passes address st (c' - c))
        → LandsOn is (world st calls left out err steps faults) c k number m first last → SeeksOn (world t calls' left out err steps' faults) c' k number m' first last
    seeks-plain some within passes w =
        let n : ℕ = c' - c in
        let sum : c + n ≡ c' = omega arith in
        let r = Reaches-along _ _ old.calls.low old.calls.high old.state old (world st calls left out err steps faults) c k w.2.1
        (Landed-plain limit s old.state is st t c n w.0 first last m m' address (omega arith) (λ visit. let e = may.one visit in omega (arith, e)) (λ none. let e = may.early none in omega (arith, e)) may.since goes may.watched passes
        (λ notes. subst (λ x. NotesAlong st n x t m m') (sym sum) (noted notes)) other) in
        rw (same_calls, counted) (
          w.0,
          w.1,
          (
            w.2.0,
            subst (λ x. Reaches (Seeks limit s old.state w.0 first last x m') old.calls.low old.calls.high old.state old (world t calls left out err (steps + n) faults) x k) sum
                (Reaches-steps _ old.calls.low old.calls.high old.state old st t calls left out err steps faults c n k r goes),
          ),
        )

    none_noted : c' ≡ c → m.phase ≡ phase.Profile → m' ≡ m
    none_noted none notes = elim (noted notes).1 [
      | inl (lowers, is) ↦ absurd (let x = lowers.0 in omega (arith, x, none))
      | inr (climbs, is) ↦ is
    ]

    same_seek : c' ≡ c → m' ≡ m
    same_seek none = elim (phase-cases m.phase) [ inl notes ↦ none_noted none notes | inr trial ↦ other trial ]

    -- no step from a landing
    pub seeks-still : c' ≡ c → LandsOn is (world st calls left out err steps faults) c k number m first last → LandsOn is (world t calls' left out err steps' faults) c' k number m' first last × MayGo is address c' most m'
    seeks-still none w =
        let no : c' - c ≡ 0 = omega arith in
        let same_steps : steps' ≡ steps = omega arith in
        let same : t ≡ st = sym (plain-none st t (ap (λ n. plain n st) (sym no) ∙ goes)) in
        (rw (same_calls, same_steps, same, same_seek none, none) w, rw (same_seek none, none) may)

  -- a turn after which it goes on
  pub seeks-turn : (is : Bool) (now new : World) (c d k number most : ℕ) (m m' : Seek) (address : Option ℕ) (first last : Aid) → MayGo is address c most m → LandsOn is now c k number m first last → Turns now new c d None
      → (m.phase ≡ phase.Profile → m' ≡ noting d (led_back (pc_in now.state) (pc_in new.state)) m) → (m.phase ≢ phase.Profile → m' ≡ m) → SeeksOn new d k number m' first last
  seeks-turn is now new c d k number most m m' address first last may w turn noted other =
      let one : d ≡ c + 1 = turn.one refl in
      let stood = Reaches-says _ _ old.calls.low old.calls.high old.state old now c k w.2.1 (Landed-stood limit s old.state is now.state c w.0 first last m) in
      let went = subst (λ x. Reaches (Stood limit s old.state is w.0 first last c m now.state) old.calls.low old.calls.high old.state old new x k) one (Reaches-turn _ old.calls.low old.calls.high old.state old now new c d k stood turn) in
      rw one (
        w.0,
        w.1,
        (
          w.2.0,
          Reaches-says _ _ old.calls.low old.calls.high old.state old new (c + 1) k went
              (Stood-call limit s old.state is now.state new.state c w.0 first last m m' (λ none. let e = may.early none in let some = may.some in omega (arith, e, some)) may.since
              (λ notes. noted notes ∙ ap (λ x. noting x (led_back (pc_in now.state) (pc_in new.state)) m) one) other),
        ),
      )

  -- a turn that ends it
  pub seeks-end : (is : Bool) (now new : World) (c d k number : ℕ) (m : Seek) (first last : Aid) (ended : Ended) → LandsOn is now c k number m first last → c < limit
      → (device_of ended ≡ None → Turns now new c d (Some ended)) → ((device : Device) → device_of ended ≡ Some device → TurnFails now new device) → ((device : Device) → device_of ended ≡ Some device → d ≡ c)
      → GoesHelped limit (visit_rule (Sought s)) old new first last d k ended
  seeks-end is now new c d k number m first last ended w below turn fails count = record {
    visits = w.0;
    helped = w.1;
    goes = record {
      follows = λ h. Follows-turn _ _ limit old now new c d k ended w.2.1 below (turn h) (Landed-end limit s old.state is now.state c w.0 first last m below);
      stops = λ device h.
          subst (λ x. StopsAt limit (HasVisits limit (visit_rule (Sought s)) old.state w.0 first last (x + 1)) old new x k device) (sym (count device h))
          (StopsAt-fails _ _ limit old now new c k device w.2.1 below (fails device h) (λ run _ _ _ q. q.has));
    };
  }

  -- the limit
  pub seeks-limit : (now : World) (c k number : ℕ) (m : Seek) (first last : Aid) → SeeksOn now c k number m first last → c ≡ limit → GoesHelped limit (visit_rule (Sought s)) old now first last c k Limit
  seeks-limit now c k number m first last w at = record {
    visits = w.0;
    helped = w.1;
    goes = record {
      follows = λ h. Follows-limit _ _ limit old now c k w.2.1 at (λ run q. subst (λ n. HasVisits limit (visit_rule (Sought s)) old.state w.0 first last n run) at q.has);
      stops = λ device h. absurd (cc);
    };
  }
