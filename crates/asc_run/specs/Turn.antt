-- What one turn of a program does to the world: one step, or one guest call.
use Rattle.std.specs.Prelude.{◌≡◌, ℕ, ◌+◌, ◌≤◌, List, ◌++◌, Option, Some, None, IsNone}
use Rattle.asc_model.specs.Step.{Call, next}
use Rattle.asc_calls.specs.GuestCall.{Io, then_io, Device}
use Rattle.asc_calls.specs.World.{World, DoesIo, MayCome, KnowsEnd}
use Rattle.asc_calls.specs.Serving.{call_of, IsCutShort}
use Rattle.asc_run.specs.declared.walk.Ended.{Ended}
use Rattle.asc_run.specs.Execution.{Position, Progress, On, Off, next_progress, device_of}

-- where a program stands in a world, over this input, if it took and put io so far
abbrev pub position_in : World → List ℕ → Io → Position
position_in w left io = record { state = w.state; brk = w.calls.brk; left = left; io = io }

-- the run goes on as r, or it ended so after this count of steps, with what r took and put
abbrev pub IsAt : Option Ended → (count : ℕ) → Position → Progress → Type 0
IsAt None count r progress = progress ≡ On r
IsAt (Some ended) count r progress = (last : Position) × (progress ≡ Off count ended last) × (last.io ≡ r.io)

-- the device that failed in a turn, where one did
abbrev pub device_of_turn : Option Ended → Option Device
device_of_turn None = None
device_of_turn (Some ended) = device_of ended

-- From old to new a program made one turn in which no device failed, before which it had done some steps, and done
-- after it. What the turn took and put is io.
pub record Turns (old new : World) (before done : ℕ) (ended : Option Ended) : Type 0 where
  pub io : Io
  pub does : DoesIo old.outside new.outside io
  -- plain execution does just that, over the bytes taken, with whatever input may still come behind them
  pub turn : (first : Io) (rest : List ℕ) → MayCome new rest
      → IsAt ended done (position_in new rest (then_io first io))
      (next_progress old.calls.low old.calls.high before (On (position_in old (io.taken ++ rest) first)))
  -- what may come afterwards may come before, behind the bytes taken
  pub came : (rest : List ℕ) → MayCome new rest → MayCome old (io.taken ++ rest)
  pub known : KnowsEnd old → KnowsEnd new
  pub low : new.calls.low ≡ old.calls.low
  pub high : new.calls.high ≡ old.calls.high
  pub shape : new.state.shape ≡ old.state.shape
  pub steps : new.steps + before ≡ old.steps + done
  pub most : done ≤ before + 1
  pub one : IsNone ended → done ≡ before + 1

-- From old to new a device failed in the call at which a program stands. What the call took and put is done.
pub record TurnFails (old new : World) (device : Device) : Type 0 where
  pub done : Io
  pub does : DoesIo old.outside new.outside done
  pub asks : next old.state ≡ Call
  pub call : (rest : List ℕ) → MayCome new rest → IsCutShort device done (call_of old (done.taken ++ rest))
  pub came : (rest : List ℕ) → MayCome new rest → MayCome old (done.taken ++ rest)
  pub known : KnowsEnd old → KnowsEnd new
  pub steps : new.steps ≡ old.steps
