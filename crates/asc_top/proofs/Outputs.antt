-- How much a program may put to out.
use Rattle.std.proofs.Common.{◌≡◌, ◌∙◌, ℕ, zero, suc, ◌+◌, ◌*◌, ◌-◌, ◌≤◌, ◌==◌, Bool, true, false, List, length, take, drop, Option, Some, None, refl, ap, arith, length-append}
use Rattle.std.proofs.lemmas.List.{length-take}
use Rattle.std.proofs.lemmas.Bool.Decides.{nat_tests}
use Rattle.std.specs.Prelude.{if◌then◌else◌}
use Rattle.asc_model.specs.Shape.{Shape}
use Rattle.asc_model.specs.State.{State}
use Rattle.asc_model.specs.Machine.{view_of, Register}
use Rattle.asc_model.specs.Step.{Next, Went, Call, Faulted, next}
use Rattle.asc_shape.specs.State.{memory_at, state_after}
use Rattle.asc_shape.proofs.States.{shape-state_after}
use Rattle.asc_calls.specs.GuestCall.{CallResult, Exit, Out, Err, Request, Read, Write, End, Break, Unknown, early_answer, io_of, guest_call, result_of, result_of_read, result_of_write, answered_early_or, request_of, state_after_answer}
use Rattle.asc_calls.specs.GuestCall as called
use Rattle.asc_run.specs.Execution.{Position, Progress, On, Off, exec, first_position, next_progress, progress, progress_after_call, progress_after_step, run_of}
use Rattle.asc_run.proofs.Shapes.{next-shape}

-- a call keeps the shape, and puts at most so many bytes to out
abbrev pub IsSmall : (shape : Shape) → (most : ℕ) → CallResult → Type 0
IsSmall shape most (called.Went after brk io) = (after.shape ≡ shape) × (length io.out ≤ most)
IsSmall shape most (Exit code) = Unit {0}

shape-answered : (s : State) (answer : ℕ) → (state_after_answer s answer).shape ≡ s.shape
shape-answered s answer = shape-state_after (state_after s (Register 10 answer)) _ ∙ shape-state_after s (Register 10 answer)

-- a buffer that is written is all in memory
within : (shape : Shape) (serves : Bool) (buffer n : ℕ) → early_answer shape serves buffer n ≡ None → n ≤ shape.base + shape.size
within shape false buffer n none = absurd (cc)
within shape true buffer n none = grind (arith, nat_tests)

module _ (low high : ℕ) (s : State) (brk : ℕ) (left : List ℕ) where
  small_early : (early : Option ℕ) (result : CallResult) → (early ≡ None → IsSmall s.shape (s.shape.base + s.shape.size) result)
      → IsSmall s.shape (s.shape.base + s.shape.size) (answered_early_or s brk early result)
  small_early None result small = small refl
  small_early (Some answer) result small = (shape-answered s answer, omega arith)

  small_write : (is_out : Bool) (buffer n : ℕ) → n ≤ s.shape.base + s.shape.size
      → length (io_of (if is_out then Out else Err) (memory_at s buffer n)).out ≤ s.shape.base + s.shape.size
  small_write true buffer n few = omega (arith, length-take n (drop (buffer - s.shape.base) (view_of s).memory))
  small_write false buffer n few = omega arith

  small_request : (request : Request) → IsSmall s.shape (s.shape.base + s.shape.size) (result_of low high s brk left request)
  small_request (Read file buffer n) = small_early _ (result_of_read s brk buffer (take n left)) (λ none. (shape-answered _ _ ∙ shape-state_after s _, omega arith))
  small_request (Write file buffer n) = small_early _ (result_of_write s brk file buffer n) (λ none. (shape-answered s n, small_write (file == 1) buffer n (within s.shape _ buffer n none)))
  small_request (End status) = tt
  small_request (Break address) = (shape-answered s _, omega arith)
  small_request Unknown = (shape-answered s _, omega arith)

  small_call : IsSmall s.shape (s.shape.base + s.shape.size) (guest_call low high s brk left)
  unfolding guest_call
  small_call = small_request (request_of (view_of s))

-- so far at most so many bytes were put to out, and where the program goes on its shape is this
abbrev pub HasPut : (shape : Shape) → (most : ℕ) → Progress → Type 0
HasPut shape most (On p) = (p.state.shape ≡ shape) × (length p.io.out ≤ most)
HasPut shape most (Off count ended last) = length last.io.out ≤ most

module _ (low high : ℕ) (shape : Shape) where
  pub most_of : (n : ℕ) → ℕ
  most_of n = n * (shape.base + shape.size)

  after_call : (n : ℕ) (p : Position) (result : CallResult) → IsSmall p.state.shape (p.state.shape.base + p.state.shape.size) result → HasPut shape (most_of n) (On p)
      → HasPut shape (most_of (suc n)) (progress_after_call n p result)
  unfolding most_of
  after_call n p (called.Went after brk io) small put =
      let same : p.state.shape.base + p.state.shape.size ≡ shape.base + shape.size = ap (λ (t : Shape). t.base + t.size) put.0 in
      (small.0 ∙ put.0, omega (arith, put.1, small.1, same, length-append p.io.out io.out))
  after_call n p (Exit code) small put = omega (arith, put.1)

  after_step : (n : ℕ) (p : Position) (to : Next) → next p.state ≡ to → HasPut shape (most_of n) (On p)
      → HasPut shape (most_of (suc n)) (progress_after_step low high n p to)
  unfolding most_of
  after_step n p (Went state) is put = (next-shape p.state state is ∙ put.0, omega (arith, put.1))
  after_step n p Call is put = after_call n p _ (small_call low high p.state p.brk p.left) put
  after_step n p (Faulted fault) is put = omega (arith, put.1)

  after_more : (n : ℕ) (so_far : Progress) → HasPut shape (most_of n) so_far → HasPut shape (most_of (suc n)) (next_progress low high n so_far)
  unfolding most_of
  after_more n (On p) put = after_step n p (next p.state) refl put
  after_more n (Off count ended last) put = omega (arith, put)

  pub put_by : (start : Position) → HasPut shape (most_of 0) (On start) → (n : ℕ) → HasPut shape (most_of n) (progress low high start n)
  unfolding progress
  put_by start none zero = none
  put_by start none (suc n) = after_more n (progress low high start n) (put_by start none n)

-- a run puts at most as many bytes to out as its steps times its memory's end
pub out-exec : (limit low high : ℕ) (start : State) (left : List ℕ) → length (exec limit low high start left).io.out ≤ limit * (start.shape.base + start.shape.size)
unfolding exec most_of
out-exec limit low high start left =
    ended (progress low high (first_position start low left) limit) (put_by low high start.shape (first_position start low left) (refl, omega arith) limit)
  where
    ended : (so_far : Progress) → HasPut start.shape (limit * (start.shape.base + start.shape.size)) so_far → length (run_of limit so_far).io.out ≤ limit * (start.shape.base + start.shape.size)
    ended (On p) put = put.1
    ended (Off count how last) put = put
