-- A program that comes to a count of steps: the start, one turn more, and the end.
use Rattle.std.proofs.Common.{◌≡◌, ◌≤◌, ◌<◌, ◌+◌, ◌-◌, ℕ, List, [], Bool, true, false, Option, Some, None, refl, sym, subst, arith}
use Rattle.asc_model.specs.State.{State}
use Rattle.asc_model.specs.Step.{Next, Went, Call, Faulted, next}
use Rattle.asc_model.specs.Plain.{plain}
use Rattle.asc_outside.specs.Outside.{Given}
use Rattle.asc_calls.specs.GuestCall.{Device, Input, Out, Err, guest_call, nothing}
use Rattle.asc_calls.specs.GuestCall as called
use Rattle.asc_calls.specs.World.{CallState, DeviceFaults, MayCome, World, world}
use Rattle.asc_run.specs.declared.walk.Ended.{Ended}
use Rattle.asc_run.specs.declared.walk.Ended.TheVariants as ends
use Rattle.asc_run.specs.Execution.{Position, Off, device_of, progress_after_call, progress_after_step}
use Rattle.asc_run.specs.Turn.{Turns, TurnFails}
use Rattle.asc_run.specs.Walk.{HasNotBegun, StopsAt}
use Rattle.asc_run.proofs.Reach.{Reaches-first_position, Reaches-steps, Reaches-turn, Follows-turn, Follows-limit, StopsAt-fails}
use Rattle.asc_inspect.specs.Registers.{ComesTo, EndsBeforeStep, IsBefore}

-- a program that has not begun
pub comes-first : (w : World) (n : ℕ) → HasNotBegun n w.calls → ComesTo n w w
comes-first w n start = Reaches-first_position (λ _. Unit {0}) w n (λ _. tt) start.going start.brk start.none

-- plain steps that are counted
pub comes-plain : (old : World) (s t : State) (calls calls' : CallState) (left : Option (List ℕ)) (out err : Given) (steps steps' : ℕ) (faults : DeviceFaults) (n n' : ℕ)
    → calls' ≡ calls → steps' ≡ steps + (n' - n) → n ≤ n' → plain (n' - n) s ≡ Went t
    → ComesTo n old (world s calls left out err steps faults) → ComesTo n' old (world t calls' left out err steps' faults)
comes-plain old s t calls calls' left out err steps steps' faults n n' same counted grows goes way =
    let sum : n + (n' - n) ≡ n' = omega arith in
    rw (same, counted) (subst (λ m. ComesTo m old (world t calls left out err (steps + (n' - n)) faults)) sum
    (Reaches-steps _ old.calls.low old.calls.high old.state old s t calls left out err steps faults n (n' - n) 0 way goes))

-- a turn after which it goes on
pub comes-turn : (old now new : World) (n d : ℕ) → Turns now new n d None → ComesTo n old now → ComesTo d old new
comes-turn old now new n d turn way = Reaches-turn _ old.calls.low old.calls.high old.state old now new n d 0 way turn

-- some input may still come
some-input : (ended : Bool) (left : Option (List ℕ)) (s : State) (low high brk : ℕ) (out err : Given) (steps : ℕ) (faults : DeviceFaults)
    → (rest : List ℕ) × MayCome (world s (record { low = low; high = high; brk = brk; ended = ended }) left out err steps faults) rest
some-input true left s low high brk out err steps faults = ([], refl)
some-input false (Some told) s low high brk out err steps faults = (told, refl)
some-input false None s low high brk out err steps faults = ([], tt)

pub may-come : (w : World) → (rest : List ℕ) × MayCome w rest
may-come w = some-input w.calls.ended w.left w.state w.calls.low w.calls.high w.calls.brk w.out w.err w.steps w.faults

-- what ends a run in a step is no step, but for the call that ends a program
before-call : (n d wanted : ℕ) (ended : Ended) (position last : Position) (x : called.CallResult) → n < wanted → progress_after_call n position x ≡ Off d ended last → IsBefore ended d wanted
before-call n d wanted ended position last (called.Went state brk io) below is = cc
before-call n d wanted ended position last (called.Exit code) below is =
    let how : ends.Exit code ≡ ended = cc in let count : n + 1 ≡ d = cc in
    subst (λ e. IsBefore e d wanted) how (let most : d ≤ wanted = omega (arith, count, below) in most)

before-step : (low high n d wanted : ℕ) (ended : Ended) (position last : Position) (x : Next) → n < wanted → progress_after_step low high n position x ≡ Off d ended last → IsBefore ended d wanted
before-step low high n d wanted ended position last (Went state) below is = cc
before-step low high n d wanted ended position last Call below is =
    before-call n d wanted ended position last (guest_call low high position.state position.brk position.left) below is
before-step low high n d wanted ended position last (Faulted fault) below is =
    let how : ends.Fault fault ≡ ended = cc in let count : n ≡ d = cc in
    subst (λ e. IsBefore e d wanted) how (let less : d < wanted = omega (arith, count, below) in less)

before-turn : (now new : World) (n d wanted : ℕ) (ended : Ended) → n < wanted → Turns now new n d (Some ended) → IsBefore ended d wanted
before-turn now new n d wanted ended below turn =
    let may = may-come new in
    let at = turn.turn nothing may.0 may.1 in
    before-step now.calls.low now.calls.high n d wanted ended _ at.0 (next now.state) below at.1

-- a turn that ends it, and a device that fails
before-end : (now new : World) (n d wanted : ℕ) (ended : Ended) → n < wanted → (device_of ended ≡ None → Turns now new n d (Some ended)) → ((device : Device) → device_of ended ≡ Some device → d ≡ n) → IsBefore ended d wanted
before-end now new n d wanted (ends.Exit code) below turn count = before-turn now new n d wanted (ends.Exit code) below (turn refl)
before-end now new n d wanted (ends.Fault fault) below turn count = before-turn now new n d wanted (ends.Fault fault) below (turn refl)
before-end now new n d wanted ends.Limit below turn count = before-turn now new n d wanted ends.Limit below (turn refl)
before-end now new n d wanted ends.ReadFault below turn count = omega (arith, count Input refl)
before-end now new n d wanted ends.WriteFault below turn count = omega (arith, count Out refl)
before-end now new n d wanted ends.ErrFault below turn count = omega (arith, count Err refl)

-- the end of a program
pub comes-end : (limit wanted : ℕ) (old now new : World) (n d : ℕ) (ended : Ended) → n < limit → n < wanted → ComesTo n old now
    → (device_of ended ≡ None → Turns now new n d (Some ended)) → ((device : Device) → device_of ended ≡ Some device → TurnFails now new device) → ((device : Device) → device_of ended ≡ Some device → d ≡ n)
    → EndsBeforeStep limit wanted old new d ended
comes-end limit wanted old now new n d ended below before way turn fails count = record {
  goes = record {
    follows = λ h. Follows-turn _ _ limit old now new n d 0 ended way below (turn h) (λ _ _ _ _ _ _. tt);
    stops = λ device h. subst (λ x. StopsAt limit (λ _. Unit {0}) old new x 0 device) (sym (count device h)) (StopsAt-fails _ _ limit old now new n 0 device way below (fails device h) (λ _ _ _ _ _. tt));
  };
  before = before-end now new n d wanted ended before turn count;
}

-- the limit
pub comes-limit : (limit wanted : ℕ) (old now : World) (n : ℕ) → n ≡ limit → limit < wanted → ComesTo n old now → EndsBeforeStep limit wanted old now n ends.Limit
comes-limit limit wanted old now n at less way = record {
  goes = record {
    follows = λ h. Follows-limit _ _ limit old now n 0 way at (λ _ _. tt);
    stops = λ device h. absurd (cc);
  };
  before = omega arith;
}
