-- Plain execution: machine steps and guest calls, one after another, up to a limit.
use Rattle.std.specs.Prelude.{◌≡◌, ℕ, zero, suc, ◌+◌, List, length, drop, Option, Some, None}
use Rattle.asc_model.specs.State.{State}
use Rattle.asc_model.specs.Step.{Next, Went, Call, Faulted, next}
use Rattle.asc_calls.specs.GuestCall.{Io, nothing, then_io, Device, Input, Out, Err, guest_call}
use Rattle.asc_calls.specs.GuestCall as called
use Rattle.asc_calls.specs.Serving.{IsCutShort}
use Rattle.asc_run.specs.declared.walk.Ended.{Ended}
use Rattle.asc_run.specs.declared.walk.Ended.TheVariants as ends

-- where a program stands: its state and break, the input still to come, and what it has taken and put so far
pub record Position : Type 0 where
  pub state : State
  pub brk : ℕ
  pub left : List ℕ
  pub io : Io

-- the device that failed, where a run ended by that
abbrev pub device_of : Ended → Option Device
device_of (ends.Exit code) = None
device_of (ends.Fault fault) = None
device_of ends.Limit = None
device_of ends.ReadFault = Some Input
device_of ends.WriteFault = Some Out
device_of ends.ErrFault = Some Err

-- a run that goes on, or one that has ended, after a count of steps
pub data Progress : Type 0 where
  On : Position → Progress
  Off : (count : ℕ) → Ended → (last : Position) → Progress

-- at a call: one that is served and goes on, or one that ends the program, counts one step
abbrev pub progress_after_call : ℕ → Position → called.CallResult → Progress
progress_after_call count position (called.Went state brk io) = On (record {
  state = state;
  brk = brk;
  left = drop (length io.taken) position.left;
  io = then_io position.io io;
})
progress_after_call count position (called.Exit code) = Off (count + 1) (ends.Exit code) position

-- one more step after this count; a fault counts none
abbrev pub progress_after_step : (low high count : ℕ) → Position → Next → Progress
progress_after_step low high count position (Went state) = On (record position { state = state })
progress_after_step low high count position Call =
    progress_after_call count position (guest_call low high position.state position.brk position.left)
progress_after_step low high count position (Faulted fault) = Off count (ends.Fault fault) position

abbrev pub next_progress : (low high count : ℕ) → Progress → Progress
next_progress low high count (On position) = progress_after_step low high count position (next position.state)
next_progress low high count (Off n ended last) = Off n ended last

-- how far a program comes in n steps
unfoldable pub progress : (low high : ℕ) → Position → ℕ → Progress
progress low high start zero = On start
progress low high start (suc n) = next_progress low high n (progress low high start n)

-- what a run gave: how and after how many steps it ended, and what it took and put
pub record Run : Type 0 where
  pub ended : Ended
  pub count : ℕ
  pub io : Io

-- a run that goes on when its limit is reached ends there
abbrev pub run_of : ℕ → Progress → Run
run_of limit (On position) = record { ended = ends.Limit; count = limit; io = position.io }
run_of limit (Off count ended last) = record { ended = ended; count = count; io = last.io }

-- where a program begins: its break is at low
abbrev pub first_position : State → ℕ → List ℕ → Position
first_position state low left = record { state = state; brk = low; left = left; io = nothing }

-- plain execution from a state, with at most limit steps; left is the input
unfoldable pub exec : (limit low high : ℕ) → State → (left : List ℕ) → Run
exec limit low high state left = run_of limit (progress low high (first_position state low left) limit)

-- a program stands at a call in which a device failed, when this much of it was done
pub record StandsAtFailure (low high : ℕ) (device : Device) (done : Io) (progress : Progress) : Type 0 where
  pub position : Position
  pub stands : progress ≡ On position
  pub asks : next position.state ≡ Call
  pub call : IsCutShort device done (guest_call low high position.state position.brk position.left)
