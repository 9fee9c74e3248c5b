-- What a trace leaves.
use Rattle.std.specs.Prelude.{◌≡◌, ℕ, zero, suc, ◌+◌, Bool, true, false, length, Option, Some, None}
use Rattle.asc_model.specs.declared.limits.TheConstants.{MOST_PLACES}
use Rattle.asc_model.specs.declared.why.Why.{Why}
use Rattle.asc_model.specs.declared.why.Why.TheVariants.{Lap, Span, Room, Stopped, Call, Fault}
use Rattle.asc_model.specs.State.{State}
use Rattle.asc_model.specs.Step.{Went}
use Rattle.asc_model.specs.Plain.{plain}
use Rattle.asc_model.specs.Reach.{Bounds, GoesOn, bound_met}
use Rattle.asc_shape.specs.Face.{FitPlaces}
use Rattle.asc_outside.specs.Outside.{one_more}
use Rattle.asc_depvec.specs.Tracer.{Tracing, face_of, start_of_face}
use Rattle.asc_depvec.specs.Laws.{HasStatusesOf}
use Rattle.asc_traj.specs.declared.tracing.Stop.{Stop}

-- A count of yes answers stays where the answer is no, and is one more where it is yes.
pub record CountsAnswer (before now : ℕ) (answer : Bool) : Type 0 where
  pub stays : answer ≡ false → now ≡ before
  pub rose : answer ≡ true → now ≡ one_more before

-- So many questions were asked: where their number is told now, it was told before, and is so many more. It may be told
-- no more, as at the end of a counter's type, and then never again.
abbrev pub Asked : (before now : Option ℕ) → ℕ → Type 0
Asked before None n = Unit {0}
Asked None (Some now) n = ⊥
Asked (Some before) (Some now) n = now ≡ before + n

-- one question was asked
abbrev pub CountsAsk : (before now : Option ℕ) → Type 0
CountsAsk before now = Asked before now 1

-- how often a trace of so many steps asked: before each attempt at a step, and so once more where no bound ended it
abbrev pub asks_of : ℕ → Why → ℕ
asks_of steps Lap = steps
asks_of steps Span = steps
asks_of steps Room = steps
asks_of steps Stopped = steps + 1
asks_of steps Call = steps + 1
asks_of steps (Fault fault) = steps + 1

-- At most so many more answers are no, where that is told. So where none is left the answer is yes, and after a no
-- there is one fewer.
abbrev pub LosesPatience : (before now : Option ℕ) → Bool → Type 0
LosesPatience None now answer = Unit {0}
LosesPatience (Some zero) now answer = answer ≡ true
LosesPatience (Some (suc n)) now answer = answer ≡ false → now ≡ Some n

-- where a tracer started: its state with the first byte of each touched place put back
abbrev pub origin_of : Tracing → State
origin_of t = start_of_face (face_of t)

-- A tracer stands for n steps: they lead from its start to its state, its statuses are theirs, and each touched place
-- is listed once.
pub record StandsFor (n : ℕ) (t : Tracing) : Type 0 where
  pub goes : plain n (origin_of t) ≡ Went t.state
  pub statuses : HasStatusesOf n (origin_of t) t
  pub touched : FitPlaces (length t.state.bytes) (face_of t).marks

-- the bounds of the trace of a guess: it ends after so many laps at a pc, or so many steps
abbrev pub guess_bounds : (pc laps span : ℕ) → Bounds
guess_bounds pc laps span = record { pc = pc; laps = laps; span = span; cap = MOST_PLACES }

-- the bounds of a trace by a tracer that may touch so many places
abbrev pub bounds_of : Stop → ℕ → Bounds
bounds_of stop cap = record { pc = stop.pc; laps = stop.laps; span = stop.span; cap = cap }

-- whether a trace ended since its halt said so
abbrev pub is_stopped : Why → Bool
is_stopped Stopped = true
is_stopped Lap = false
is_stopped Span = false
is_stopped Room = false
is_stopped Call = false
is_stopped (Fault fault) = false

-- A trace of a start may be stopped after n steps: nothing ends it before them, and after them no bound is met.
pub record MayStop (bounds : Bounds) (start : State) (n : ℕ) : Type 0 where
  pub least : GoesOn bounds start n
  pub unmet : bound_met bounds n start ≡ None
