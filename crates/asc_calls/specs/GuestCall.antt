-- What one guest call does. Numbers and registers are those of Linux for RISC-V: the number is in a7, which is x17, and
-- the arguments in a0 to a2, which are x10 to x12 (RISC-V ELF psABI, chapter "Register Convention").
use Rattle.std.specs.Prelude.{◌≡◌, ℕ, ◌-◌, ◌%◌, ◌^◌, ◌==◌, ◌||◌, ◌&&◌, not, nat_le, Bool, List, [], ◌∷◌, ◌++◌, length, take, Option, Some, None, if◌then◌else◌}
use Rattle.asc_model.specs.Shape.{Shape, holds}
use Rattle.asc_model.specs.State.{State}
use Rattle.asc_model.specs.Machine.{Machine, register, Pc, Register, Memory, view_of}
use Rattle.asc_model.specs.Arithmetic.{◌+w◌}
use Rattle.asc_shape.specs.State.{state_after, state_after_all, memory_at}

-- the input and output of a call, or of several: what was taken from the input, and put to out and to err
pub record Io : Type 0 where
  pub taken : List ℕ
  pub out : List ℕ
  pub err : List ℕ

abbrev pub nothing : Io
nothing = record { taken = []; out = []; err = [] }

-- the devices that calls ask
pub data Device : Type 0 where
  Input : Device
  Out : Device
  Err : Device

-- these bytes are taken from a device or put to it, and nothing else is taken or put
abbrev pub io_of : Device → List ℕ → Io
io_of Input bytes = record { taken = bytes; out = []; err = [] }
io_of Out bytes = record { taken = []; out = bytes; err = [] }
io_of Err bytes = record { taken = []; out = []; err = bytes }

-- the io of calls, and then of more calls
abbrev pub then_io : Io → Io → Io
then_io first second = record {
  taken = first.taken ++ second.taken;
  out = first.out ++ second.out;
  err = first.err ++ second.err;
}

-- what is done first of all that is done
pub record IsBeginning (first whole : Io) : Type 0 where
  pub rest : Io
  pub whole_is : whole ≡ then_io first rest

-- what a call comes to: the program goes on with a state and a break, or it ends
pub data CallResult : Type 0 where
  Went : (after : State) (brk : ℕ) (io : Io) → CallResult
  Exit : (code : ℕ) → CallResult

-- what a program asks for
pub data Request : Type 0 where
  -- n bytes of a file into memory, from an address on
  Read : (file buffer n : ℕ) → Request
  -- n bytes of memory, from an address on, to a file
  Write : (file buffer n : ℕ) → Request
  -- to end with a status
  End : (status : ℕ) → Request
  -- that its break be at an address
  Break : (address : ℕ) → Request
  -- what isn't served
  Unknown : Request

-- what a machine asks for: 63 is read, 64 write, 93 exit, 94 exit_group and 214 brk
abbrev pub request_of : Machine → Request
request_of m = let number = register m 17 in
    if number == 63 then Read (register m 10) (register m 11) (register m 12)
    else (if number == 64 then Write (register m 10) (register m 11) (register m 12)
    else (if (number == 93) || (number == 94) then End (register m 10)
    else (if number == 214 then Break (register m 10)
    else Unknown)))

-- a negative answer, modulo 2 ^ 32
abbrev pub negative_answer : ℕ → ℕ
negative_answer error = 2 ^ 32 - error

-- EBADF: the file isn't one of those that a call serves
abbrev pub bad_file : ℕ
bad_file = 9

-- EFAULT: the buffer isn't all inside memory
abbrev pub bad_address : ℕ
bad_address = 14

-- ENOSYS: there is no such call
abbrev pub no_such_call : ℕ
no_such_call = 38

-- the state after an answer: it is in x10, and the program goes on behind the call
abbrev pub state_after_answer : State → ℕ → State
state_after_answer s answer = state_after_all s (Register 10 answer ∷ Pc ((view_of s).pc +w 4) ∷ [])

-- a call that answers, and does nothing else
abbrev pub answered : State → (brk : ℕ) → (answer : ℕ) → CallResult
answered s brk answer = Went (state_after_answer s answer) brk nothing

-- What read and write answer by themselves, by the first of these rules that holds: the file isn't one of those that the
-- call serves; no byte is asked for; the buffer isn't all inside memory. None where no rule holds.
abbrev pub early_answer : Shape → (serves_file : Bool) → (buffer n : ℕ) → Option ℕ
early_answer shape serves_file buffer n =
    if not serves_file then Some (negative_answer bad_file)
    else (if n == 0 then Some 0
    else (if not (holds shape buffer n) then Some (negative_answer bad_address)
    else None))

-- an early answer, or else what the call comes to
abbrev pub answered_early_or : State → (brk : ℕ) → Option ℕ → CallResult → CallResult
answered_early_or s brk (Some answer) result = answered s brk answer
answered_early_or s brk None result = result

-- the bytes taken are in memory, from the buffer on, and their number is the answer
abbrev pub result_of_read : State → (brk buffer : ℕ) → (taken : List ℕ) → CallResult
result_of_read s brk buffer taken =
    Went (state_after_answer (state_after s (Memory buffer taken)) (length taken)) brk (io_of Input taken)

-- all n bytes are put to out for file 1 and to err for file 2, and n is the answer
abbrev pub result_of_write : State → (brk file buffer n : ℕ) → CallResult
result_of_write s brk file buffer n =
    Went (state_after_answer s n) brk (io_of (if file == 1 then Out else Err) (memory_at s buffer n))

-- the break that stands after it was asked to be at an address: it moves where that is within its bounds
abbrev pub break_after : (low high brk address : ℕ) → ℕ
break_after low high brk address = if nat_le low address && nat_le address high then address else brk

-- what a request comes to: a read takes the first n bytes of what is left of the input, or all where they are fewer
abbrev pub result_of : (low high : ℕ) → State → (brk : ℕ) → (left : List ℕ) → Request → CallResult
result_of low high s brk left (Read file buffer n) =
    answered_early_or s brk (early_answer s.shape (file == 0) buffer n) (result_of_read s brk buffer (take n left))
result_of low high s brk left (Write file buffer n) =
    answered_early_or s brk (early_answer s.shape ((file == 1) || (file == 2)) buffer n)
    (result_of_write s brk file buffer n)
result_of low high s brk left (End status) = Exit (status % 2 ^ 8)
result_of low high s brk left (Break address) = let new = break_after low high brk address in answered s new new
result_of low high s brk left Unknown = answered s brk (negative_answer no_such_call)

-- The guest call of a state, where the program's break is brk, between low and high, and the input still to come is
-- left.
unfoldable pub guest_call : (low high : ℕ) → State → (brk : ℕ) → (left : List ℕ) → CallResult
guest_call low high s brk left = result_of low high s brk left (request_of (view_of s))
