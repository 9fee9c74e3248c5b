-- The turns of a program: a step that goes on, a fault, and a call.
use Rattle.std.proofs.Common.{◌≡◌, ℕ, ◌+◌, List, [], ◌++◌, Option, Some, None, IsTrue, Bool, true, false, MatchBool, refl, sym, ap, ◌∙◌, subst, arith, length, drop}
use Rattle.std.proofs.lemmas.Bool.{false≢true}
use Rattle.std.proofs.lemmas.List.{drop_at}
use Rattle.asc_model.specs.declared.fault.Fault.{Fault}
use Rattle.asc_model.specs.State.{State}
use Rattle.asc_model.specs.Step.{Call, Faulted, next}
use Rattle.asc_outside.specs.Outside.{Given, Takes, IsAtEnd}
use Rattle.asc_calls.specs.declared.calls.Served.{Served}
use Rattle.asc_calls.specs.declared.calls.Served.TheVariants as served
use Rattle.asc_calls.specs.GuestCall.{Io, nothing, then_io, Device, Input, Out, Err, CallResult}
use Rattle.asc_calls.specs.World.{CallState, DeviceFaults, outside, World, world, DoesIo, Agrees, MayCome}
use Rattle.asc_calls.specs.Serving.{Serves, call_of, IsCutShort, IsAnswer, steps_of}
use Rattle.asc_run.specs.declared.walk.Ended.{Ended}
use Rattle.asc_run.specs.declared.walk.Ended.TheVariants as ends
use Rattle.asc_run.specs.Execution.{On, progress_after_step, progress_after_call}
use Rattle.asc_run.specs.Turn.{position_in, IsAt, Turns, TurnFails, device_of_turn}
use Rattle.asc_run.proofs.Growth.{then_io-nothing}
use Rattle.asc_run.proofs.Reach.{DoesIo-nothing}

-- devices that stay took and were given nothing, whatever the counter of steps did
DoesIo-none : (left : Option (List ℕ)) (out err : Given) (n m : ℕ) (faults : DeviceFaults) → DoesIo (outside left out err n faults) (outside left out err m faults) nothing
DoesIo-none left out err n m faults =
    let a = DoesIo-nothing (outside left out err n faults) in record { taken = a.taken; out = a.out; err = a.err }

-- a fault
pub Turns-bad : (s : State) (calls : CallState) (left : Option (List ℕ)) (out err : Given) (n : ℕ) (faults : DeviceFaults) (k : ℕ) (fault : Fault) → next s ≡ Faulted fault
    → Turns (world s calls left out err n faults) (world s calls left out err n faults) k k (Some (ends.Fault fault))
Turns-bad s calls left out err n faults k fault e = record {
  io = nothing;
  does = DoesIo-none left out err n n faults;
  turn = λ first rest may. (
    record { state = s; brk = calls.brk; left = rest; io = first },
    ap (λ x. progress_after_step calls.low calls.high k (record { state = s; brk = calls.brk; left = rest; io = first }) x) e,
    sym (then_io-nothing first),
  );
  came = λ rest may. may;
  known = λ known. known;
  low = refl;
  high = refl;
  shape = refl;
  steps = omega arith;
  most = omega arith;
  one = λ h. absurd (cc);
}

-- how a call ended the run
abbrev pub end_of : Served → Option Ended
end_of served.Went = None
end_of (served.Exit code) = Some (ends.Exit code)
end_of served.ReadFault = Some ends.ReadFault
end_of served.WriteFault = Some ends.WriteFault
end_of served.ErrFault = Some ends.ErrFault

-- a call in which no device failed counts one step
steps_of-one : (answer : Served) → device_of_turn (end_of answer) ≡ None → steps_of answer ≡ 1
steps_of-one served.Went h = refl
steps_of-one (served.Exit code) h = refl
steps_of-one served.ReadFault h = cc
steps_of-one served.WriteFault h = cc
steps_of-one served.ErrFault h = cc

-- a call in which one failed counts none
steps_of-none : (answer : Served) (device : Device) → device_of_turn (end_of answer) ≡ Some device → steps_of answer ≡ 0
steps_of-none served.Went device h = cc
steps_of-none (served.Exit code) device h = cc
steps_of-none served.ReadFault device h = refl
steps_of-none served.WriteFault device h = refl
steps_of-none served.ErrFault device h = refl

-- an input that agrees with what is left after bytes were taken agrees, behind them, with what was left before
pub Agrees-before : (before now : Option (List ℕ)) (taken rest : List ℕ) → Takes before now taken → Agrees now rest → Agrees before (taken ++ rest)
Agrees-before (Some before) (Some now) taken rest t a = t ∙ ap (λ x. taken ++ x) a
Agrees-before (Some before) None taken rest t a = absurd t
Agrees-before None now taken rest t a = tt

-- no input agrees with a told end
Agrees-end : (left : Option (List ℕ)) (rest : List ℕ) → IsAtEnd left → rest ≡ [] → Agrees left rest
Agrees-end (Some told) rest at_end none = at_end ∙ sym none
Agrees-end None rest at_end none = tt

-- what calls may still meet after a call, behind the bytes taken, is what they could meet before it
came_before : (before after : Bool) (old_left new_left : Option (List ℕ)) (taken rest : List ℕ) → (IsTrue before → IsTrue after × (taken ≡ []))
    → ((IsTrue before → IsAtEnd old_left) → IsTrue after → IsAtEnd new_left) → Takes old_left new_left taken
    → MatchBool after (rest ≡ []) (Agrees new_left rest) → MatchBool before (taken ++ rest ≡ []) (Agrees old_left (taken ++ rest))
came_before true true old_left new_left taken rest ended known takes may = ap (λ x. x ++ rest) (ended refl).1 ∙ may
came_before true false old_left new_left taken rest ended known takes may = absurd (false≢true (ended refl).0)
came_before false true old_left new_left taken rest ended known takes may =
    Agrees-before old_left new_left taken rest takes (Agrees-end new_left rest (known (λ e. absurd (false≢true e)) refl) may)
came_before false false old_left new_left taken rest ended known takes may = Agrees-before old_left new_left taken rest takes may

MayCome-before : (old new : World) (answer : Served) (s : Serves old new answer) (rest : List ℕ) → MayCome new rest → MayCome old (s.io.taken ++ rest)
MayCome-before old new answer s rest may =
    came_before old.calls.ended new.calls.ended old.left new.left s.io.taken rest s.ended s.known s.does.taken may

-- the bytes taken, and then what was left
drop-taken : (taken rest : List ℕ) → drop (length taken) (taken ++ rest) ≡ rest
drop-taken taken rest = drop_at taken rest (length taken) refl

-- plain execution at a call
progress_after_step-call : (old : World) (left : List ℕ) (first : Io) (k : ℕ) → next old.state ≡ Call
    → progress_after_step old.calls.low old.calls.high k (position_in old left first) (next old.state) ≡ progress_after_call k (position_in old left first) (call_of old left)
progress_after_step-call old left first k e = ap (λ x. progress_after_step old.calls.low old.calls.high k (position_in old left first) x) e

-- plain execution comes to where a call that is served does
IsAt-call : (old new : World) (answer : Served) (s : Serves old new answer) (k : ℕ) → device_of_turn (end_of answer) ≡ None → next old.state ≡ Call → (first : Io) (rest : List ℕ) → MayCome new rest
    → IsAt (end_of answer) (k + 1) (position_in new rest (then_io first s.io)) (progress_after_step old.calls.low old.calls.high k (position_in old (s.io.taken ++ rest) first) (next old.state))
IsAt-call old new served.Went s k h e first rest may =
    progress_after_step-call old (s.io.taken ++ rest) first k e
    ∙ ap (λ x. progress_after_call k (position_in old (s.io.taken ++ rest) first) x) (s.call rest may)
    ∙ ap (λ x. On (record { state = new.state; brk = new.calls.brk; left = x; io = then_io first s.io })) (drop-taken s.io.taken rest)
IsAt-call old new (served.Exit code) s k h e first rest may = (
  position_in old (s.io.taken ++ rest) first,
  progress_after_step-call old (s.io.taken ++ rest) first k e
      ∙ ap (λ x. progress_after_call k (position_in old (s.io.taken ++ rest) first) x) (s.call rest may),
  sym (ap (λ a. then_io first a) s.leaves.none ∙ then_io-nothing first),
)
IsAt-call old new served.ReadFault s k h e first rest may = absurd (cc)
IsAt-call old new served.WriteFault s k h e first rest may = absurd (cc)
IsAt-call old new served.ErrFault s k h e first rest may = absurd (cc)

-- a call that was served
pub Turns-call : (old new : World) (answer : Served) (k : ℕ) → device_of_turn (end_of answer) ≡ None → next old.state ≡ Call → Serves old new answer → Turns old new k (k + 1) (end_of answer)
Turns-call old new answer k h e s = record {
  io = s.io;
  does = s.does;
  turn = IsAt-call old new answer s k h e;
  came = MayCome-before old new answer s;
  known = s.known;
  low = s.low;
  high = s.high;
  shape = s.shape;
  steps = omega (arith, s.steps, steps_of-one answer h);
  most = omega arith;
  one = λ _. refl;
}

-- what a call in which a device failed says of it
IsCutShort-call : (new : World) (answer : Served) (device : Device) (io : Io) (call : CallResult) → device_of_turn (end_of answer) ≡ Some device → IsAnswer answer new io call
    → IsCutShort device io call
IsCutShort-call new served.Went device io call h says = absurd (cc)
IsCutShort-call new (served.Exit code) device io call h says = absurd (cc)
IsCutShort-call new served.ReadFault device io call h says = let same : Input ≡ device = cc in subst (λ d. IsCutShort d io call) same says
IsCutShort-call new served.WriteFault device io call h says = let same : Out ≡ device = cc in subst (λ d. IsCutShort d io call) same says
IsCutShort-call new served.ErrFault device io call h says = let same : Err ≡ device = cc in subst (λ d. IsCutShort d io call) same says

-- a call in which a device failed
pub TurnFails-call : (old new : World) (answer : Served) (device : Device) → device_of_turn (end_of answer) ≡ Some device → next old.state ≡ Call → Serves old new answer → TurnFails old new device
TurnFails-call old new answer device h e s = record {
  done = s.io;
  does = s.does;
  asks = e;
  call = λ rest may. IsCutShort-call new answer device s.io (call_of old (s.io.taken ++ rest)) h (s.call rest may);
  came = MayCome-before old new answer s;
  known = s.known;
  steps = omega (arith, s.steps, steps_of-none answer device h);
}
