-- What a run takes and puts only grows.
use Rattle.std.proofs.Common.{◌≡◌, ℕ, zero, suc, ◌+◌, ◌-◌, ◌<◌, List, ◌++◌, refl, sym, ap, ◌∙◌, subst, arith, zero-add, suc-add, add-one, append_assoc}
use Rattle.std.proofs.lemmas.List.{append-nil}
use Rattle.asc_model.specs.Step.{Next, Went, Call, Faulted, next}
use Rattle.asc_calls.specs.GuestCall.{Io, nothing, then_io, IsBeginning, Device, Input, Out, Err, io_of, guest_call}
use Rattle.asc_calls.specs.GuestCall as called
use Rattle.asc_calls.specs.Serving.{IsCutShort}
use Rattle.asc_run.specs.Execution.{Position, Progress, On, Off, progress_after_call, progress_after_step, next_progress, progress, run_of}

-- nothing more behind an io
pub then_io-nothing : (io : Io) → then_io io nothing ≡ io
then_io-nothing io = λ i. record { taken = append-nil io.taken i; out = append-nil io.out i; err = append-nil io.err i }

-- does one after another
then_io_assoc : (a b c : Io) → then_io (then_io a b) c ≡ then_io a (then_io b c)
then_io_assoc a b c = λ i. record { taken = append_assoc a.taken b.taken c.taken i; out = append_assoc a.out b.out c.out i; err = append_assoc a.err b.err c.err i }

-- an io begins with itself
IsBeginning-same : (a : Io) → IsBeginning a a
IsBeginning-same a = record { rest = nothing; whole_is = sym (then_io-nothing a) }

-- what begins with an io begins with what that begins with
IsBeginning-trans : (a b c : Io) → IsBeginning a b → IsBeginning b c → IsBeginning a c
IsBeginning-trans a b c p q = record {
  rest = then_io p.rest q.rest;
  whole_is = q.whole_is ∙ ap (λ x. then_io x q.rest) p.whole_is ∙ then_io_assoc a p.rest q.rest;
}

-- what a run has taken and put so far
abbrev so_far : Progress → Io
so_far (On position) = position.io
so_far (Off count ended last) = last.io

grows_at_call : (count : ℕ) (position : Position) (result : called.CallResult) → IsBeginning position.io (so_far (progress_after_call count position result))
grows_at_call count position (called.Went state brk io) = record { rest = io; whole_is = refl }
grows_at_call count position (called.Exit code) = IsBeginning-same position.io

grows_at_step : (low high count : ℕ) (position : Position) (x : Next) → IsBeginning position.io (so_far (progress_after_step low high count position x))
grows_at_step low high count position (Went state) = IsBeginning-same position.io
grows_at_step low high count position Call = grows_at_call count position (guest_call low high position.state position.brk position.left)
grows_at_step low high count position (Faulted fault) = IsBeginning-same position.io

grows_once : (low high count : ℕ) (p : Progress) → IsBeginning (so_far p) (so_far (next_progress low high count p))
grows_once low high count (On position) = grows_at_step low high count position (next position.state)
grows_once low high count (Off n ended last) = IsBeginning-same last.io

-- in k more steps
grows : (low high : ℕ) (start : Position) (n k : ℕ) → IsBeginning (so_far (progress low high start n)) (so_far (progress low high start (k + n)))
unfolding progress
grows low high start n zero = rw zero-add (IsBeginning-same (so_far (progress low high start n)))
grows low high start n (suc k) =
    rw suc-add (IsBeginning-trans (so_far (progress low high start n)) (so_far (progress low high start (k + n))) _ (grows low high start n k)
    (grows_once low high (k + n) (progress low high start (k + n))))

-- up to a limit
run_of-so_far : (limit : ℕ) (p : Progress) → (run_of limit p).io ≡ so_far p
run_of-so_far limit (On position) = refl
run_of-so_far limit (Off count ended last) = refl

-- a device's bytes are its first ones and the rest
io_of-append : (device : Device) (first rest : List ℕ) → io_of device (first ++ rest) ≡ then_io (io_of device first) (io_of device rest)
io_of-append Input first rest = refl
io_of-append Out first rest = refl
io_of-append Err first rest = refl

-- one step more, at a call that goes on
progress-call : (low high : ℕ) (start : Position) (n : ℕ) (at : Position) → progress low high start n ≡ On at → next at.state ≡ Call → (result : called.CallResult)
    → guest_call low high at.state at.brk at.left ≡ result → progress low high start (n + 1) ≡ progress_after_call n at result
unfolding progress
progress-call low high start n at stands asks result is =
    rw add-one (ap (next_progress low high n) stands ∙ ap (progress_after_step low high n at) asks ∙ ap (progress_after_call n at) is)

-- A run that comes to a call begins with what it took and put before it, and with the first part of what the call does.
pub begins_at_call : (low high : ℕ) (start : Position) (n limit : ℕ) → n < limit → (at : Position) → progress low high start n ≡ On at → next at.state ≡ Call
    → (device : Device) (done : Io) → IsCutShort device done (guest_call low high at.state at.brk at.left)
    → IsBeginning (then_io at.io done) (run_of limit (progress low high start limit)).io
begins_at_call low high start n limit below at stands asks device done cut =
    let whole = io_of device (cut.first ++ cut.rest) in
    let next_one : so_far (progress low high start (n + 1)) ≡ then_io at.io whole = ap so_far (progress-call low high start n at stands asks _ cut.call_is) in
    let split : then_io at.io whole ≡ then_io (then_io at.io done) (io_of device cut.rest) =
    ap (λ x. then_io at.io x) (io_of-append device cut.first cut.rest)
    ∙ ap (λ x. then_io at.io (then_io x (io_of device cut.rest))) (sym cut.done_is)
    ∙ sym (then_io_assoc at.io done (io_of device cut.rest)) in
    let more : limit ≡ (limit - (n + 1)) + (n + 1) = omega arith in
    let here : IsBeginning (then_io at.io done) (so_far (progress low high start (n + 1))) = record { rest = io_of device cut.rest; whole_is = next_one ∙ split } in
    let there : IsBeginning (so_far (progress low high start (n + 1))) (so_far (progress low high start limit)) =
    subst (λ m. IsBeginning (so_far (progress low high start (n + 1))) (so_far (progress low high start m))) (sym more) (grows low high start (n + 1) (limit - (n + 1))) in
    subst (λ a. IsBeginning (then_io at.io done) a) (sym (run_of-so_far limit (progress low high start limit)))
    (IsBeginning-trans (then_io at.io done) (so_far (progress low high start (n + 1))) (so_far (progress low high start limit)) here there)
