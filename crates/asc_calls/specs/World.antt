-- All that a run changes: the state, what the calls keep, the devices, and the count of steps.
use Rattle.std.specs.Prelude.{◌≡◌, ℕ, Bool, IsTrue, MatchBool, List, [], Option, Some, None}
use Rattle.asc_model.specs.State.{State}
use Rattle.asc_outside.specs.Outside.{one_more, Takes, IsAtEnd, Given, given_after}
use Rattle.asc_calls.specs.GuestCall.{Io, Device, Input, Out, Err}

-- What the calls of one run keep: the bounds of the program's break, the break, and whether the end of the input was
-- found.
pub record CallState : Type 0 where
  pub low : ℕ
  pub high : ℕ
  pub brk : ℕ
  pub ended : Bool

-- how often each device has failed
pub record DeviceFaults : Type 0 where
  pub input : ℕ
  pub out : ℕ
  pub err : ℕ

abbrev pub faults : (input out err : ℕ) → DeviceFaults
faults input out err = record { input = input; out = out; err = err }

-- with one more of the device that failed, where one did
abbrev pub faults_after : Option Device → DeviceFaults → DeviceFaults
faults_after None f = f
faults_after (Some Input) f = record f { input = one_more f.input }
faults_after (Some Out) f = record f { out = one_more f.out }
faults_after (Some Err) f = record f { err = one_more f.err }

-- the count of the device that failed rises by one, and those of the others stay
abbrev pub BlamesOnly : (failed : Option Device) → (old new : DeviceFaults) → Type 0
BlamesOnly failed old new = new ≡ faults_after failed old

-- what devices tell: the input still to come, where it is told, what out and err were given, and how often each failed
pub record Told : Type 0 where
  pub left : Option (List ℕ)
  pub out : Given
  pub err : Given
  pub faults : DeviceFaults

-- a program's devices, and what they tell
pub record Devices (I O E : Type 0) : Type 0 where
  pub input : I
  pub out : O
  pub err : E
  pub told : Told

-- with another input, which tells so
abbrev pub with_input : {I O E : Type 0} → Devices I O E → I → (left : Option (List ℕ)) → (input_faults : ℕ) → Devices I O E
with_input d input left input_faults = record d {
  input = input;
  told = record d.told { left = left; faults = record d.told.faults { input = input_faults } };
}

-- with another output, which tells so
abbrev pub with_out : {I O E : Type 0} → Devices I O E → O → Given → (out_faults : ℕ) → Devices I O E
with_out d out given out_faults = record d {
  out = out;
  told = record d.told { out = given; faults = record d.told.faults { out = out_faults } };
}

-- what devices tell, and the counter of steps
pub record Outside : Type 0 where
  -- the input still to come, where it is told
  pub left : Option (List ℕ)
  pub out : Given
  pub err : Given
  pub steps : ℕ
  pub faults : DeviceFaults

abbrev pub outside : Option (List ℕ) → Given → Given → ℕ → DeviceFaults → Outside
outside left out err steps faults = record {
  left = left;
  out = out;
  err = err;
  steps = steps;
  faults = faults;
}

-- what devices tell, with a counter at so many steps
abbrev pub outside_with : Told → (steps : ℕ) → Outside
outside_with t steps = outside t.left t.out t.err steps t.faults

abbrev pub outside_of : {I O E : Type 0} → Devices I O E → (steps : ℕ) → Outside
outside_of d steps = outside_with d.told steps

pub record World : Type 0 where
  pub state : State
  pub calls : CallState
  pub outside : Outside
  pub open outside use *

abbrev pub world : State → CallState → Option (List ℕ) → Given → Given → ℕ → DeviceFaults → World
world state calls left out err steps faults = record {
  state = state;
  calls = calls;
  outside = outside left out err steps faults;
}

abbrev pub world_in : State → CallState → Outside → World
world_in state calls outside = record { state = state; calls = calls; outside = outside }

-- from old to new just this was taken from the input, and put to out and to err
pub record DoesIo (old new : Outside) (io : Io) : Type 0 where
  pub taken : Takes old.left new.left io.taken
  pub out : new.out ≡ given_after old.out io.out
  pub err : new.err ≡ given_after old.err io.err

-- an input that agrees with what is told
abbrev pub Agrees : Option (List ℕ) → List ℕ → Type 0
Agrees (Some told) left = told ≡ left
Agrees None left = Unit {0}

-- the input that calls may still meet: none once its end was found, else one that agrees with what is told
abbrev pub MayCome : World → List ℕ → Type 0
MayCome w rest = MatchBool w.calls.ended (rest ≡ []) (Agrees w.left rest)

-- where the end of the input was found, no byte is left
abbrev pub KnowsEnd : World → Type 0
KnowsEnd w = IsTrue w.calls.ended → IsAtEnd w.left
