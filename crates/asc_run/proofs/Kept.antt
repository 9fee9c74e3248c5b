-- Steps and guest calls go on by states of one shape, where the input is bytes.
use Rattle.std.proofs.Common.{◌≡◌, ℕ, zero, suc, ◌+◌, ◌≤◌, Bool, true, false, not, ◌||◌, ◌==◌, nat_le, List, ◌++◌, length, take, slice_set, IsTrue, Option, Some, None, if◌then◌else◌, refl, sym, subst, ◌∙◌, arith, length-append, length-set, length-take}
use Rattle.std.specs.List.{flat_map}
use Rattle.std.proofs.lemmas.Bool.{and_from, le-leb}
use Rattle.asc_model.specs.Shape.{Shape, holds}
use Rattle.asc_model.specs.Number.{AreBytes, bytes_of}
use Rattle.asc_model.specs.State.{State, IsState}
use Rattle.asc_model.specs.Machine.{Machine, IsMachine, Pc, Register, Memory, view_of, state_of}
use Rattle.asc_model.specs.Step.{Next, Went, Call, Faulted, next}
use Rattle.asc_model.specs.Arithmetic.{◌+w◌}
use Rattle.asc_model.proofs.Numbers.{AreBytes-bytes_of, AreBytes-append, AreBytes-take, AreBytes-drop}
use Rattle.asc_model.proofs.Changes.{holds-parts, start_of-least, length-bytes_of_words, AreBytes-bytes_of_words, IsMachine-view_of, IsMachine-after_change, IsState-state_of}
use Rattle.asc_model.proofs.LawsHold.{steps_keep_states}
use Rattle.asc_shape.specs.State.{state_after}
use Rattle.asc_shape.proofs.States.{shape-state_after}
use Rattle.asc_calls.specs.GuestCall.{Request, Read, Write, End, Break, Unknown, request_of, state_after_answer, early_answer, answered_early_or, negative_answer, bad_file, bad_address, no_such_call, result_of_read, result_of_write, break_after, result_of, guest_call}
use Rattle.asc_calls.specs.GuestCall as called
use Rattle.asc_run.specs.Execution.{Position, Progress, On, Off, progress_after_call, progress_after_step, next_progress, progress, first_position}
use Rattle.asc_run.proofs.LawsHold.{progress-zero, progress-suc}

-- ---- answers

-- a machine's words may be any numbers: what stands for them is a state
words-IsState : (shape : Shape) (m : Machine) (pc : ℕ) (registers : List ℕ) → IsMachine shape m → length registers ≡ 31 → IsState (state_of shape (record m { pc = pc; registers = registers }))
unfolding state_of
words-IsState shape m pc registers good size =
    let low = bytes_of 4 pc ++ flat_map (bytes_of 4) registers in
    record {
      shape = good.good;
      length = omega (
        arith,
        length-append (low ++ m.reservation) m.memory,
        length-append low m.reservation,
        length-bytes_of_words registers,
        size,
        good.reservation,
        good.memory,
        start_of-least shape.version,
      );
      bytes =
          AreBytes-append (low ++ m.reservation) m.memory
          (AreBytes-append low m.reservation (AreBytes-append (bytes_of 4 pc) (flat_map (bytes_of 4) registers) (AreBytes-bytes_of 4 pc) (AreBytes-bytes_of_words registers)) good.reservation_bytes)
          good.memory_bytes;
    }

register-IsState : (s : State) (k value : ℕ) → IsState s → IsState (state_after s (Register (suc k) value))
unfolding state_after
register-IsState s k value good =
    let m = view_of s in
    let machine = IsMachine-view_of s good in
    words-IsState s.shape m m.pc (slice_set m.registers k value) machine (length-set m.registers k value ∙ machine.registers)

pc-IsState : (s : State) (value : ℕ) → IsState s → IsState (state_after s (Pc value))
unfolding state_after
pc-IsState s value good =
    let m = view_of s in
    let machine = IsMachine-view_of s good in
    words-IsState s.shape m value m.registers machine machine.registers

memory-IsState : (s : State) (address : ℕ) (bytes : List ℕ) → IsState s → IsTrue (holds s.shape address (length bytes)) → AreBytes bytes → IsState (state_after s (Memory address bytes))
unfolding state_after
memory-IsState s address bytes good within all =
    IsState-state_of s.shape _ (IsMachine-after_change s.shape (view_of s) (Memory address bytes) (IsMachine-view_of s good) (within, all))

-- ---- calls

-- a state of a shape, and an input of bytes
record Stands (shape : Shape) (s : State) (left : List ℕ) : Type 0 where
  pub good : IsState s
  pub same : s.shape ≡ shape
  pub bytes : AreBytes left

-- a call that goes on does so by a state of the shape
abbrev GoesBy : Shape → called.CallResult → Type 0
GoesBy shape (called.Went after brk io) = IsState after × (after.shape ≡ shape)
GoesBy shape (called.Exit code) = Unit {0}

answer-GoesBy : (shape : Shape) (s : State) (answer : ℕ) → IsState s → s.shape ≡ shape → IsState (state_after_answer s answer) × ((state_after_answer s answer).shape ≡ shape)
answer-GoesBy shape s answer good same =
    let second = state_after s (Register 10 answer) in
    (pc-IsState second ((view_of s).pc +w 4) (register-IsState s 9 answer good), shape-state_after second (Pc ((view_of s).pc +w 4)) ∙ shape-state_after s (Register 10 answer) ∙ same)

early-GoesBy : (shape : Shape) (s : State) (brk : ℕ) (early : Option ℕ) (result : called.CallResult) → IsState s → s.shape ≡ shape → (early ≡ None → GoesBy shape result) → GoesBy shape (answered_early_or s brk early result)
early-GoesBy shape s brk None result good same later = later refl
early-GoesBy shape s brk (Some answer) result good same later = answer-GoesBy shape s answer good same

-- where read and write do not answer by themselves, the buffer is in memory
not_early : (unserved none outside : Bool) (a b c : ℕ) → (if unserved then Some a else (if none then Some b else (if not outside then Some c else None))) ≡ None → outside ≡ true
not_early true none outside a b c e = absurd (cc)
not_early false true outside a b c e = absurd (cc)
not_early false false true a b c e = refl
not_early false false false a b c e = absurd (cc)

-- fewer bytes are in memory too
holds-fewer : (shape : Shape) (address n k : ℕ) → holds shape address n ≡ true → k ≤ n → IsTrue (holds shape address k)
holds-fewer shape address n k h fewer =
    let parts = holds-parts shape address n h in
    and_from (nat_le shape.base address) (nat_le (address + k) (shape.base + shape.size)) (le-leb shape.base address parts.0) (le-leb (address + k) (shape.base + shape.size) (omega (arith, parts.1)))

read-GoesBy : (shape : Shape) (s : State) (brk buffer n : ℕ) (left : List ℕ) → Stands shape s left → holds s.shape buffer n ≡ true → GoesBy shape (result_of_read s brk buffer (take n left))
read-GoesBy shape s brk buffer n left stands within =
    let taken = take n left in
    let fewer : length taken ≤ n = omega (arith, length-take n left) in
    answer-GoesBy shape (state_after s (Memory buffer taken)) (length taken)
    (memory-IsState s buffer taken stands.good (holds-fewer s.shape buffer n (length taken) within fewer) (AreBytes-take n left stands.bytes))
    (shape-state_after s (Memory buffer taken) ∙ stands.same)

request-GoesBy : (low high : ℕ) (shape : Shape) (s : State) (brk : ℕ) (left : List ℕ) (request : Request) → Stands shape s left → GoesBy shape (result_of low high s brk left request)
request-GoesBy low high shape s brk left (Read file buffer n) stands =
    early-GoesBy shape s brk (early_answer s.shape (file == 0) buffer n) (result_of_read s brk buffer (take n left)) stands.good stands.same
    (λ none. read-GoesBy shape s brk buffer n left stands (not_early (not (file == 0)) (n == 0) (holds s.shape buffer n) (negative_answer bad_file) 0 (negative_answer bad_address) none))
request-GoesBy low high shape s brk left (Write file buffer n) stands =
    early-GoesBy shape s brk (early_answer s.shape ((file == 1) || (file == 2)) buffer n) (result_of_write s brk file buffer n) stands.good stands.same
    (λ none. answer-GoesBy shape s n stands.good stands.same)
request-GoesBy low high shape s brk left (End status) stands = tt
request-GoesBy low high shape s brk left (Break address) stands = answer-GoesBy shape s (break_after low high brk address) stands.good stands.same
request-GoesBy low high shape s brk left Unknown stands = answer-GoesBy shape s (negative_answer no_such_call) stands.good stands.same

call-GoesBy : (low high : ℕ) (shape : Shape) (s : State) (brk : ℕ) (left : List ℕ) → Stands shape s left → GoesBy shape (guest_call low high s brk left)
unfolding guest_call
call-GoesBy low high shape s brk left stands = request-GoesBy low high shape s brk left (request_of (view_of s)) stands

-- ---- courses

-- where a run goes on it stands at a state of the shape, before an input of bytes
abbrev GoesOnBy : Shape → Progress → Type 0
GoesOnBy shape (On position) = Stands shape position.state position.left
GoesOnBy shape (Off count ended last) = Unit {0}

by_result : (shape : Shape) (count : ℕ) (position : Position) (result : called.CallResult) → AreBytes position.left → GoesBy shape result → GoesOnBy shape (progress_after_call count position result)
by_result shape count position (called.Went after brk io) left goes =
    record { good = goes.0; same = goes.1; bytes = AreBytes-drop (length io.taken) position.left left }
by_result shape count position (called.Exit code) left goes = tt

by_step : (low high : ℕ) (shape : Shape) (count : ℕ) (position : Position) (x : Next) → next position.state ≡ x → Stands shape position.state position.left → GoesOnBy shape (progress_after_step low high count position x)
by_step low high shape count position (Went after) e stands =
    let kept = steps_keep_states position.state after stands.good e in
    record { good = kept.0; same = kept.1 ∙ stands.same; bytes = stands.bytes }
by_step low high shape count position Call e stands =
    by_result shape count position (guest_call low high position.state position.brk position.left) stands.bytes
    (call-GoesBy low high shape position.state position.brk position.left stands)
by_step low high shape count position (Faulted fault) e stands = tt

next-GoesOnBy : (low high : ℕ) (shape : Shape) (count : ℕ) (before : Progress) → GoesOnBy shape before → GoesOnBy shape (next_progress low high count before)
next-GoesOnBy low high shape count (On position) goes = by_step low high shape count position (next position.state) refl goes
next-GoesOnBy low high shape count (Off n ended last) goes = tt

course-GoesOnBy : (low high : ℕ) (start : State) (left : List ℕ) → IsState start → AreBytes left → (n : ℕ) → GoesOnBy start.shape (progress low high (first_position start low left) n)
course-GoesOnBy low high start left good bytes zero =
    subst (GoesOnBy start.shape) (sym (progress-zero low high (first_position start low left))) (record { good = good; same = refl; bytes = bytes })
course-GoesOnBy low high start left good bytes (suc n) =
    subst (GoesOnBy start.shape) (sym (progress-suc low high (first_position start low left) n))
    (next-GoesOnBy low high start.shape n (progress low high (first_position start low left) n) (course-GoesOnBy low high start left good bytes n))

-- each state at which a run goes on is a state of its start's shape
pub course-states : (low high : ℕ) (start : State) (left : List ℕ) → IsState start → AreBytes left → (n : ℕ) (position : Position) → progress low high (first_position start low left) n ≡ On position
    → IsState position.state × (position.state.shape ≡ start.shape)
course-states low high start left good bytes n position e =
    let stands = subst (GoesOnBy start.shape) e (course-GoesOnBy low high start left good bytes n) in (stands.good, stands.same)
