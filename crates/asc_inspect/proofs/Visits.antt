-- The visits of a program so far: one landing more, the steps behind it, and the end.
use Rattle.std.proofs.Common.{◌≡◌, ◌≤◌, ◌<◌, ◌+◌, ◌-◌, List, [], ℕ, zero, suc, Bool, true, false, if◌then◌else◌, Option, Some, None, refl, sym, ap, ◌∙◌, subst, arith, add-one}
use Rattle.asc_model.specs.State.{State}
use Rattle.asc_model.specs.Step.{Went}
use Rattle.asc_model.specs.Plain.{plain}
use Rattle.asc_model.proofs.PlainSteps.{plain-none}
use Rattle.asc_outside.specs.Outside.{Given}
use Rattle.asc_calls.specs.GuestCall.{Device}
use Rattle.asc_calls.specs.World.{CallState, DeviceFaults, World, world}
use Rattle.asc_run.specs.declared.walk.Ended.{Ended}
use Rattle.asc_run.specs.declared.walk.Ended.TheVariants.{Limit}
use Rattle.asc_run.specs.Execution.{device_of}
use Rattle.asc_run.specs.Turn.{Turns, TurnFails}
use Rattle.asc_run.specs.Visits.{Course, Passes, is_at, goes_on_at}
use Rattle.asc_run.specs.Way.{Reaches}
use Rattle.asc_run.specs.Walk.{StopsAt}
use Rattle.asc_run.proofs.Reach.{Reaches-first_position, Reaches-turn, Reaches-says, Reaches-along, Reaches-steps, Follows-turn, Follows-limit, StopsAt-fails}
use Rattle.asc_run.proofs.Shapes.{plain-part}
use Rattle.asc_run.proofs.VisitRules.{goes_on_at-on, goes_on_at-off}
use Rattle.asc_inspect.specs.Visited.{visits_before, Comes, IsVisit, EndsBefore}
use Rattle.asc_inspect.specs.Standing.{ComesFrom, IsOnWay, WasInAll}

-- a visit, or none
abbrev pub one : Bool → ℕ
one b = if b then 1 else 0

pub one-most : (b : Bool) → one b ≤ 1
one-most true = omega arith
one-most false = omega arith

-- one count more
visits-more : (address : ℕ) (run : Course) (n : ℕ)
    → visits_before address run (n + 1) ≡ visits_before address run n + one (goes_on_at (Some address) (run n))
unfolding visits_before
visits-more address run n = ap (visits_before address run) (add-one n)

-- further counts at which it is not there
visits-none : (address : ℕ) (run : Course) (n m : ℕ) → ((k : ℕ) → k < m → goes_on_at (Some address) (run (n + k)) ≡ false)
    → visits_before address run (n + m) ≡ visits_before address run n
visits-none address run n zero none = let same : n + 0 ≡ n = omega arith in ap (visits_before address run) same
visits-none address run n (suc m) none =
    let sum : n + suc m ≡ (n + m) + 1 = omega arith in
    let before = visits-none address run n m (λ k below. none k (omega arith)) in
    let last = ap one (none m (omega arith)) in
    ap (visits_before address run) sum ∙ visits-more address run (n + m) ∙ omega (arith, before, last)

-- up to a count it was there so often, and P
abbrev pub HasVisited : (P : Course → Type 0) → (address visits count : ℕ) → Course → Type 0
HasVisited P address visits count run = (visits_before address run count ≡ visits) × P run

-- from start to now a program came to a count, and up to another it was there so often
abbrev pub WalksTo : (P : Course → Type 0) → (address : ℕ) → (start now : World) → (visits count to : ℕ) → Type 0
WalksTo P address start now visits count to =
    Reaches (HasVisited P address visits to) start.calls.low start.calls.high start.state start now count 0

module _ (P : Course → Type 0) (address : ℕ) (old : World) where
  -- a program that has not begun
  pub visit-first : (n v : ℕ) → ((run : Course) → P run) → old.calls.ended ≡ false → old.calls.brk ≡ old.calls.low → n ≡ 0 → v ≡ 0 → WalksTo P address old old v n n
  unfolding visits_before
  visit-first n v says going brk none no_visit =
      Reaches-first_position (HasVisited P address v n) old n (λ run. (ap (visits_before address run) none ∙ sym no_visit, says run)) going brk none

  -- a landing
  pub visit-lands : (s s' : State) (calls calls' : CallState) (left : Option (List ℕ)) (out err : Given) (steps : ℕ) (faults : DeviceFaults) (c c' v v' : ℕ) → s' ≡ s → calls' ≡ calls → c' ≡ c
      → WalksTo P address old (world s calls left out err steps faults) v c c → v' ≡ v + one (is_at (Some address) s) → WalksTo P address old (world s' calls' left out err steps faults) v' c' (c' + 1)
  visit-lands s s' calls calls' left out err steps faults c c' v v' same_state same_calls same_count way more = rw (same_state, same_calls, same_count)
      (Reaches-says _ _ old.calls.low old.calls.high old.state old (world s calls left out err steps faults) c 0 way (λ run r e at so_far.
      let here = ap one (goes_on_at-on (Some address) (run c) r s e at) in
      let times = so_far.0 in
      (visits-more address run c ∙ omega (arith, times, here, more), so_far.1)))

  -- the visit that is wanted
  pub visit-there : (s s' : State) (calls calls' : CallState) (left : Option (List ℕ)) (out err : Given) (steps : ℕ) (faults : DeviceFaults) (c c' v number : ℕ) → s' ≡ s → calls' ≡ calls → c' ≡ c
      → WalksTo P address old (world s calls left out err steps faults) v c c → is_at (Some address) s ≡ true → v + 1 ≡ number
      → Reaches (λ run. IsVisit address number run c' × P run) old.calls.low old.calls.high old.state old (world s' calls' left out err steps faults) c' 0
  visit-there s s' calls calls' left out err steps faults c c' v number same_state same_calls same_count way stands wanted = rw (same_state, same_calls, same_count)
      (Reaches-says _ _ old.calls.low old.calls.high old.state old (world s calls left out err steps faults) c 0 way (λ run r e at so_far.
      let times = so_far.0 in (
        record {
          stands = goes_on_at-on (Some address) (run c) r s e at ∙ stands;
          times = omega (arith, times, wanted);
        },
        so_far.1,
      )))

  module _ (s t : State) (calls calls' : CallState) (left : Option (List ℕ)) (out err : Given) (steps steps' : ℕ) (faults : DeviceFaults) (c c' v v' : ℕ)
      (same_calls : calls' ≡ calls) (same_visits : v' ≡ v) (counted : steps' ≡ steps + (c' - c)) (goes : plain (c' - c) s ≡ Went t) where
    -- plain steps from a landing to the next
    pub visit-plain : c < c' → Passes (Some address) s (c' - c) → WalksTo P address old (world s calls left out err steps faults) v c (c + 1)
        → WalksTo P address old (world t calls' left out err steps' faults) v' c' c'
    visit-plain some passes way =
        let sum : c + (c' - c) ≡ c' = omega arith in
        let r = Reaches-along _ (HasVisited P address v c') old.calls.low old.calls.high old.state old (world s calls left out err steps faults) c 0 way (λ run r e at along so_far.
        let none = visits-none address run (c + 1) (c' - c - 1) (λ k below.
        let there : (c + 1) + k ≡ c + (k + 1) = omega arith in
        let reached = plain-part (k + 1) (c' - c) s t (omega arith) goes in
        goes_on_at-on (Some address) (run ((c + 1) + k)) (record r { state = reached.0 }) reached.0 refl (ap run there ∙ along (k + 1) reached.0 reached.1)
        ∙ passes (k + 1) (omega arith) (omega arith) reached.0 reached.1) in
        let all : c' ≡ (c + 1) + (c' - c - 1) = omega arith in
        (ap (visits_before address run) all ∙ none ∙ so_far.0, so_far.1)) in
        rw (same_calls, same_visits, counted)
        (subst (λ n. Reaches (HasVisited P address v c') old.calls.low old.calls.high old.state old (world t calls left out err (steps + (c' - c)) faults) n 0) sum
        (Reaches-steps _ old.calls.low old.calls.high old.state old s t calls left out err steps faults c (c' - c) 0 r goes))

    -- no step from a landing
    pub visit-still : c' ≡ c → WalksTo P address old (world s calls left out err steps faults) v c (c + 1)
        → WalksTo P address old (world t calls' left out err steps' faults) v' c' (c' + 1)
    visit-still none way =
        let no : c' - c ≡ 0 = omega arith in
        let same_steps : steps' ≡ steps = omega arith in
        let same : t ≡ s = sym (plain-none s t (ap (λ n. plain n s) (sym no) ∙ goes)) in
        rw (same_calls, same_visits, same_steps, same, none) way

  -- a turn after which it goes on
  pub visit-turn : (now new : World) (c d v v' : ℕ) → v' ≡ v → Turns now new c d None → WalksTo P address old now v c (c + 1) → WalksTo P address old new v' d d
  visit-turn now new c d v v' same turn way =
      let there : c + 1 ≡ d = sym (turn.one refl) in
      rw same (subst (λ n. WalksTo P address old new v d n) there (Reaches-turn _ old.calls.low old.calls.high old.state old now new c d 0 way turn))

  -- a turn that ends it
  pub visit-end : (limit : ℕ) (now new : World) (c d v v' : ℕ) (ended : Ended) → v' ≡ v → WalksTo P address old now v c (c + 1) → c < limit
      → (device_of ended ≡ None → Turns now new c d (Some ended)) → ((device : Device) → device_of ended ≡ Some device → TurnFails now new device) → ((device : Device) → device_of ended ≡ Some device → d ≡ c)
      → EndsBefore limit address v' old new d ended
  visit-end limit now new c d v v' ended same way below turn fails count = rw same (record {
    follows = λ h. Follows-turn _ _ limit old now new c d 0 ended way below (turn h) (λ run r e at off so_far.
        let none = visits-none address run (c + 1) (limit - (c + 1)) (λ k _. goes_on_at-off (Some address) (run ((c + 1) + k)) (off ((c + 1) + k) (omega arith))) in
        let all : limit ≡ (c + 1) + (limit - (c + 1)) = omega arith in
        ap (visits_before address run) all ∙ none ∙ so_far.0);
    stops = λ device h.
        subst (λ x. StopsAt limit (λ run. visits_before address run (x + 1) ≡ v) old new x 0 device) (sym (count device h))
        (StopsAt-fails _ _ limit old now new c 0 device way below (fails device h) (λ run _ _ _ so_far. so_far.0));
  })

  -- the limit
  pub visit-limit : (limit : ℕ) (now : World) (c v : ℕ) → WalksTo P address old now v c c → c ≡ limit → EndsBefore limit address v old now c Limit
  visit-limit limit now c v way at = record {
    follows = λ h. Follows-limit _ _ limit old now c 0 way at (λ run so_far. ap (visits_before address run) (sym at) ∙ so_far.0);
    stops = λ device h. absurd (cc);
  }

-- a program that has not begun is on its way, and saw nothing
pub on-way-first : (address : ℕ) (w : World) (n v : ℕ) → w.calls.ended ≡ false → w.calls.brk ≡ w.calls.low → n ≡ 0 → v ≡ 0 → IsOnWay address v [] w w n
on-way-first address w n v going brk none no_visit = visit-first (WasInAll address []) address w n v (λ run. tt) going brk none no_visit

-- the visit alone
pub comes-alone : (address number : ℕ) (seen : List (ℕ × State)) (start now : World) (count : ℕ) → ComesFrom address number seen start now count → Comes address number start now count
comes-alone address number seen start now count way =
    Reaches-says _ _ start.calls.low start.calls.high start.state start now count 0 way (λ run r e at says. says.0)
