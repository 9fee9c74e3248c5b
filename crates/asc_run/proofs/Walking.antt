-- A walk so far: one landing more, one turn more, and the end.
use Rattle.std.proofs.Common.{◌≡◌, ◌≤◌, ◌<◌, ◌+◌, ◌-◌, ◌^◌, ℕ, Bool, false, List, [], length, Option, Some, None, sym, ap, ◌∙◌, subst, arith}
use Rattle.asc_model.specs.State.{State}
use Rattle.asc_model.specs.Step.{Went}
use Rattle.asc_model.specs.Plain.{plain}
use Rattle.asc_model.proofs.PlainSteps.{plain-none}
use Rattle.asc_traj.specs.Jump.{IsJump}
use Rattle.asc_find.specs.Finder.{Aid, Jumps, Plan}
use Rattle.asc_outside.specs.Outside.{Given}
use Rattle.asc_calls.specs.GuestCall.{Device}
use Rattle.asc_calls.specs.World.{CallState, DeviceFaults, World, world}
use Rattle.asc_run.specs.declared.walk.Ended.{Ended}
use Rattle.asc_run.specs.declared.walk.Ended.TheVariants.{Limit}
use Rattle.asc_run.specs.Execution.{device_of}
use Rattle.asc_run.specs.Turn.{Turns, TurnFails}
use Rattle.asc_run.specs.Visits.{Course, VisitRule, Visit, Passes, is_at, with_landing}
use Rattle.asc_run.specs.Helped.{HasRoom, Helped, Lands, HasVisits}
use Rattle.asc_find.specs.Helper.{Plans}
use Rattle.asc_run.specs.Way.{Reaches, ComesUnvisited}
use Rattle.asc_run.specs.Walk.{jumps, GoesHelped, StopsAt, IsRaisedBy}
use Rattle.asc_run.proofs.Reach.{Reaches-turn, Reaches-says, Reaches-along, Reaches-jump, Reaches-steps, Follows-turn, Follows-limit, StopsAt-fails}
use Rattle.asc_run.proofs.Landings.{Helped-none, Helped-more, number-more, SoFar, SoFar-first, SoFar-step, SoFar-jump, SoFar-passed, SoFar-end}

-- From old to now a walk went on for c steps, of which k were jumped over. Its visits, which are so many, are all up to a
-- count. It had no visit up to another, and from there on it has one wherever it goes on at an address.
abbrev pub WalksOn : (limit : ℕ) → (rule : Course → VisitRule) → (address : Option ℕ) → (from : ℕ) → (old now : World) → (c to k number : ℕ) → (first last : Aid) → Type 0
WalksOn limit rule address from old now c to k number first last = (visits : List Visit) × Helped visits first last × ((number ≡ length visits)
    × Reaches (SoFar limit rule address from old.state visits first last to) old.calls.low old.calls.high old.state old now c k)

module _ (limit : ℕ) (rule : Course → VisitRule) (address : Option ℕ) (from : ℕ) (old : World) where
  -- a walk that made no visit
  pub walk-first : (here : World) (k number : ℕ) (a : Aid) → k ≡ 0 → number ≡ 0 → ComesUnvisited limit rule address old here from → WalksOn limit rule address from old here from from k number a a
  walk-first here k number a none_skipped none_asked way = (
    [],
    Helped-none a,
    (
      none_asked,
      subst (λ j. Reaches (SoFar limit rule address from old.state [] a a from) old.calls.low old.calls.high old.state old here from j) (sym none_skipped)
          (Reaches-says _ _ old.calls.low old.calls.high old.state old here from 0 way (λ run _ _ _ q. SoFar-first limit rule address from old.state a run q)),
    ),
  )

  module _ (s t : State) (calls calls' : CallState) (left : Option (List ℕ)) (out err : Given) (steps : ℕ) (faults : DeviceFaults) (c c' k k' number number' : ℕ) (first now new : Aid)
      (least : from ≤ c) (below : c < limit) (same_calls : calls' ≡ calls) (same_count : c' ≡ c) (same_skipped : k' ≡ k) where
    -- a landing that jumps
    pub walk-jump : (m : ℕ) → IsJump (Some m) (limit - c) s t → (is_at address s ≡ false → Some m ≡ None) → WalksOn limit rule address from old (world s calls left out err steps faults) c c k number first now
        → number' ≡ number + length (with_landing (is_at address s) c (Some m) []) → Helped (with_landing (is_at address s) c (Some m) []) now new → Lands (is_at address s) number s (limit - c) (Some m) now new
        → WalksOn limit rule address from old (world t calls' left out err steps faults) (c' + m) (c' + m) (k' + m) number' first new
    walk-jump m jump passed w more helped lands =
        let r = w.2.1 in
        rw (same_calls, same_count, same_skipped) (
          with_landing (is_at address s) c (Some m) w.0,
          Helped-more (is_at address s) c (Some m) w.0 first now new w.1 helped,
          (
            number-more (is_at address s) c (Some m) w.0 number' number w.2.0 more,
            Reaches-jump _ _ old.calls.low old.calls.high old.state old s t calls left out err steps faults c m k r jump.goes
                (SoFar-jump limit rule address from old.state s c number w.0 first now new least below r.shape w.2.0 w.1.plans.refused helped.plans.refused t m jump passed lands),
          ),
        )

    -- a landing that does not
    pub walk-step : t ≡ s → WalksOn limit rule address from old (world s calls left out err steps faults) c c k number first now
        → number' ≡ number + length (with_landing (is_at address s) c None []) → Helped (with_landing (is_at address s) c None []) now new → Lands (is_at address s) number s (limit - c) None now new
        → WalksOn limit rule address from old (world t calls' left out err steps faults) c' (c' + 1) k' number' first new
    walk-step same w more helped lands =
        let r = w.2.1 in
        rw (same_calls, same_count, same_skipped, same) (
          with_landing (is_at address s) c None w.0,
          Helped-more (is_at address s) c None w.0 first now new w.1 helped,
          (
            number-more (is_at address s) c None w.0 number' number w.2.0 more,
            Reaches-says _ _ old.calls.low old.calls.high old.state old (world s calls left out err steps faults) c k r
                (SoFar-step limit rule address from old.state s c number w.0 first now new least below r.shape w.2.0 w.1.plans.refused helped.plans.refused lands),
          ),
        )

  -- plain steps from a landing to the next
  pub walk-plain : (s t : State) (calls calls' : CallState) (left : Option (List ℕ)) (out err : Given) (steps steps' : ℕ) (faults : DeviceFaults) (c c' k k' number number' : ℕ) (first last : Aid)
      → from ≤ c → c' ≤ limit → calls' ≡ calls → k' ≡ k → number' ≡ number → steps' ≡ steps + (c' - c) → c < c' → plain (c' - c) s ≡ Went t → Passes address s (c' - c)
      → WalksOn limit rule address from old (world s calls left out err steps faults) c (c + 1) k number first last → WalksOn limit rule address from old (world t calls' left out err steps' faults) c' c' k' number' first last
  walk-plain s t calls calls' left out err steps steps' faults c c' k k' number number' first last least within same_calls same_skipped same_number counted some goes passes w =
      let sum : c + (c' - c) ≡ c' = omega arith in
      let r = Reaches-along _ _ old.calls.low old.calls.high old.state old (world s calls left out err steps faults) c k w.2.1
      (SoFar-passed limit rule address from old.state s t c (c' - c) w.0 first last least (omega arith) (omega arith) goes passes) in
      rw (same_calls, same_skipped, same_number, counted) (
        w.0,
        w.1,
        (
          w.2.0,
          subst (λ n. Reaches (SoFar limit rule address from old.state w.0 first last n) old.calls.low old.calls.high old.state old (world t calls left out err (steps + (c' - c)) faults) n k) sum
              (Reaches-steps _ old.calls.low old.calls.high old.state old s t calls left out err steps faults c (c' - c) k r goes),
        ),
      )

  -- no step from a landing
  pub walk-still : (s t : State) (calls calls' : CallState) (left : Option (List ℕ)) (out err : Given) (steps steps' : ℕ) (faults : DeviceFaults) (c c' k k' number number' : ℕ) (first last : Aid)
      → calls' ≡ calls → k' ≡ k → number' ≡ number → steps' ≡ steps + (c' - c) → c' ≡ c → plain (c' - c) s ≡ Went t
      → WalksOn limit rule address from old (world s calls left out err steps faults) c (c + 1) k number first last → WalksOn limit rule address from old (world t calls' left out err steps' faults) c' (c' + 1) k' number' first last
  walk-still s t calls calls' left out err steps steps' faults c c' k k' number number' first last same_calls same_skipped same_number counted none goes w =
      let no : c' - c ≡ 0 = omega arith in
      let same_steps : steps' ≡ steps = omega arith in
      let same : t ≡ s = sym (plain-none s t (ap (λ n. plain n s) (sym no) ∙ goes)) in
      rw (same_calls, same_skipped, same_number, same_steps, same, none) w

  -- a turn after which it goes on
  pub walk-turn : (now new : World) (c d to k number : ℕ) (first last : Aid) → WalksOn limit rule address from old now c to k number first last → Turns now new c d None → to ≡ d → WalksOn limit rule address from old new d d k number first last
  walk-turn now new c d to k number first last w turn there =
      subst (λ n. WalksOn limit rule address from old new d n k number first last) there (w.0, w.1, (w.2.0, Reaches-turn _ old.calls.low old.calls.high old.state old now new c d k w.2.1 turn))

  -- a turn that ends it
  pub walk-end : (now new : World) (c d k number : ℕ) (first last : Aid) (ended : Ended) → from ≤ c → WalksOn limit rule address from old now c (c + 1) k number first last → c < limit
      → (device_of ended ≡ None → Turns now new c d (Some ended)) → ((device : Device) → device_of ended ≡ Some device → TurnFails now new device) → ((device : Device) → device_of ended ≡ Some device → d ≡ c)
      → GoesHelped limit rule old new first last d k ended
  walk-end now new c d k number first last ended least w below turn fails count = record {
    visits = w.0;
    helped = w.1;
    goes = record {
      follows = λ h. Follows-turn _ _ limit old now new c d k ended w.2.1 below (turn h) (SoFar-end limit rule address from old.state now.state c w.0 first last least below);
      stops = λ device h.
          subst (λ x. StopsAt limit (HasVisits limit rule old.state w.0 first last (x + 1)) old new x k device) (sym (count device h))
          (StopsAt-fails _ _ limit old now new c k device w.2.1 below (fails device h) (λ run _ _ _ q. q.has));
    };
  }

  -- the limit
  pub walk-limit : (now : World) (c k number : ℕ) (first last : Aid) → WalksOn limit rule address from old now c c k number first last → c ≡ limit → GoesHelped limit rule old now first last c k Limit
  walk-limit now c k number first last w at = record {
    visits = w.0;
    helped = w.1;
    goes = record {
      follows = λ h. Follows-limit _ _ limit old now c k w.2.1 at (λ run q. subst (λ n. HasVisits limit rule old.state w.0 first last n run) at q.has);
      stops = λ device h. absurd (cc);
    };
  }

-- what a helper tells is within the bounds that the next visit asks for
pub room-now : (asked given : ℕ) (old now : Aid) → HasRoom (2 ^ 61) old → now.jumps.asked ≡ old.jumps.asked + asked → now.jumps.given ≡ old.jumps.given + given → asked ≤ 2 ^ 40 → given ≤ 2 ^ 40
    → Plans asked old.plan now.plan → HasRoom (2 ^ 62) now
room-now asked given old now room is_asked is_given few_asked few_given plans =
    let a = room.asked in let b = room.given in let m = room.made in let f = room.full in
    let more_made = plans.made in let more_full = plans.full in let few = plans.few in
    record {
      asked = omega (arith, a, is_asked, few_asked);
      given = omega (arith, b, is_given, few_given);
      made = omega (arith, m, f, few, few_asked, more_made, more_full);
      full = omega (arith, m, f, few, few_asked, more_made, more_full);
    }

-- what was planned, with one landing more
pub Plans-more : (is : Bool) (c : ℕ) (r : Option ℕ) (before number : ℕ) (old : Plan) (now new : Aid) → Helped (with_landing is c r []) now new → number ≡ before + length (with_landing is c r [])
    → Plans before old now.plan → Plans number old new.plan
Plans-more is c r before number old now new helped is_number plans =
    let m = helped.plans.made in let f = helped.plans.full in let few = helped.plans.few in let refused = helped.plans.refused in
    let made' = plans.made in let full' = plans.full in let few' = plans.few in let refused' = plans.refused in
    record {
      made = omega (arith, m, made');
      full = omega (arith, f, full');
      few = omega (arith, few, few', is_number);
      refused = omega (arith, refused, refused');
      queue = helped.plans.queue ∙ plans.queue;
    }

-- a helper's counts that rose by each of a walk's
pub raised : (walk old new : Jumps) → new.asked ≡ old.asked + walk.asked → new.given ≡ old.given + walk.given → new.hits ≡ old.hits + walk.hits → IsRaisedBy walk old new
raised walk old new asked given hits =
    ap (λ n. jumps n new.given new.hits) asked
    ∙ ap (λ n. jumps (old.asked + walk.asked) n new.hits) given
    ∙ ap (λ n. jumps (old.asked + walk.asked) (old.given + walk.given) n) hits
