-- What serving a call does to the world.
use Rattle.std.specs.Prelude.{◌≡◌, ◌≢◌, ℕ, ◌+◌, ◌<◌, IsTrue, List, [], ◌++◌, length, take, Option, Some, None}
use Rattle.asc_model.specs.State.{State}
use Rattle.asc_model.specs.Machine.{Memory}
use Rattle.asc_shape.specs.State.{state_after}
use Rattle.asc_calls.specs.declared.calls.Served.{Served}
use Rattle.asc_calls.specs.declared.calls.Served.TheVariants as served
use Rattle.asc_calls.specs.GuestCall.{Io, nothing, Device, Input, Out, Err, io_of, CallResult, Went, Exit, result_of_read, result_of_write, guest_call}
use Rattle.asc_calls.specs.World.{World, DoesIo, MayCome, KnowsEnd}

-- the call that a world stands at, over this input
abbrev pub call_of : World → List ℕ → CallResult
call_of w left = guest_call w.calls.low w.calls.high w.state w.calls.brk left

-- A device failed before a call was done: the call was to take bytes from that device or to put bytes to it, and did so
-- with the first of them alone. Of bytes that it was to put some were left.
pub record IsCutShort (device : Device) (done : Io) (call : CallResult) : Type 0 where
  pub first : List ℕ
  pub rest : List ℕ
  pub done_is : done ≡ io_of device first
  pub after : State
  pub brk : ℕ
  pub call_is : call ≡ Went after brk (io_of device (first ++ rest))
  pub not_all : device ≢ Input → 0 < length rest

-- what an answer says of the call, of the world after it, and of what was taken and put
abbrev pub IsAnswer : Served → World → Io → CallResult → Type 0
IsAnswer served.Went new io call = call ≡ Went new.state new.calls.brk io
IsAnswer (served.Exit code) new io call = call ≡ Exit code
IsAnswer served.ReadFault new io call = IsCutShort Input io call
IsAnswer served.WriteFault new io call = IsCutShort Out io call
IsAnswer served.ErrFault new io call = IsCutShort Err io call

-- an exit leaves the state, and what the calls keep, as they were; nothing is taken or put
pub record IsStill (old new : World) (io : Io) : Type 0 where
  pub state : new.state ≡ old.state
  pub calls : new.calls ≡ old.calls
  pub none : io ≡ nothing

-- Where the input failed, the call was a read of n bytes, and fewer were taken: they are in memory, from the buffer on.
-- All else of the state, and what the calls keep, is as it was.
pub record LeftByInput (old new : World) (io : Io) : Type 0 where
  pub buffer : ℕ
  pub n : ℕ
  pub asked : (left : List ℕ) → call_of old left ≡ result_of_read old.state old.calls.brk buffer (take n left)
  pub fewer : length io.taken < n
  pub state : new.state ≡ state_after old.state (Memory buffer io.taken)
  pub calls : new.calls ≡ old.calls

-- Where the sink of a file failed, the call was a write of n bytes to that file, and fewer were put. The state is as it
-- was, and so is what the calls keep.
pub record LeftByOutput (file : ℕ) (old new : World) (put : List ℕ) : Type 0 where
  pub buffer : ℕ
  pub n : ℕ
  pub asked : (left : List ℕ) → call_of old left ≡ result_of_write old.state old.calls.brk file buffer n
  pub fewer : length put < n
  pub state : new.state ≡ old.state
  pub calls : new.calls ≡ old.calls

-- what an answer by which the program does not go on leaves
abbrev pub Leaves : Served → World → World → Io → Type 0
Leaves served.Went old new io = Unit {0}
Leaves (served.Exit code) old new io = IsStill old new io
Leaves served.ReadFault old new io = LeftByInput old new io
Leaves served.WriteFault old new io = LeftByOutput 1 old new io.out
Leaves served.ErrFault old new io = LeftByOutput 2 old new io.err

-- the device that failed in a call, where one did
abbrev pub failed_in : Served → Option Device
failed_in served.Went = None
failed_in (served.Exit code) = None
failed_in served.ReadFault = Some Input
failed_in served.WriteFault = Some Out
failed_in served.ErrFault = Some Err

-- a call counts one step, or none where a device failed
abbrev pub steps_of : Served → ℕ
steps_of served.Went = 1
steps_of (served.Exit code) = 1
steps_of served.ReadFault = 0
steps_of served.WriteFault = 0
steps_of served.ErrFault = 0

-- From old to new a call was served. What was taken and put is io: over the bytes taken, with whatever input may
-- still come behind them, the call is what the answer says.
pub record Serves (old new : World) (answer : Served) : Type 0 where
  pub io : Io
  pub does : DoesIo old.outside new.outside io
  pub call : (rest : List ℕ) → MayCome new rest → IsAnswer answer new io (call_of old (io.taken ++ rest))
  pub leaves : Leaves answer old new io
  pub shape : new.state.shape ≡ old.state.shape
  -- once the end of the input was found, nothing is taken
  pub ended : IsTrue old.calls.ended → IsTrue new.calls.ended × (io.taken ≡ [])
  pub known : KnowsEnd old → KnowsEnd new
  pub low : new.calls.low ≡ old.calls.low
  pub high : new.calls.high ≡ old.calls.high
  pub steps : new.steps ≡ old.steps + steps_of answer
