-- What serving a call has to show, for each request.
use Rattle.std.proofs.Common.{◌≡◌, ℕ, ◌+◌, ◌-◌, ◌%◌, ◌^◌, ◌<◌, ◌≤◌, ◌⊎◌, Bool, false, cond, List, [], ◌++◌, length, take, drop, Option, Some, None, bit_and, refl, sym, ap, ◌∙◌, arith, subst, length-take, length-drop}
use Rattle.std.proofs.lemmas.Nat.{and_mask}
use Rattle.std.proofs.lemmas.List.{take-append-drop}
use Rattle.std.proofs.lemmas.Bool.{false≢true}
use Rattle.std.specs.Prelude.{◌==◌, ◌||◌}
use Rattle.asc_model.specs.State.{State}
use Rattle.asc_model.specs.Machine.{register, view_of, Register, Memory}
use Rattle.asc_outside.specs.Outside.{Given, given_after, PutsPart}
use Rattle.asc_shape.specs.State.{state_after, memory_at}
use Rattle.asc_shape.proofs.States.{shape-state_after}
use Rattle.asc_outside.proofs.Streams.{given_after-nil, Takes-nil}
use Rattle.asc_calls.specs.declared.calls.Served.{Served}
use Rattle.asc_calls.specs.declared.calls.Served.TheVariants as served
use Rattle.asc_calls.specs.GuestCall.{nothing, Device, Input, Out, Err, io_of, Went, Exit, early_answer, answered, break_after, result_of, result_of_read, guest_call, negative_answer, no_such_call, state_after_answer}
use Rattle.asc_calls.specs.World.{CallState, DeviceFaults, outside, world, DoesIo}
use Rattle.asc_calls.specs.Serving.{Serves, IsCutShort}
use Rattle.asc_calls.specs.Filling.{Reads, ReadsPart}
use Rattle.asc_calls.proofs.Taken.{is_true, shape-into}
use Rattle.asc_calls.proofs.Requests.{request_of-93, request_of-214, request_of-other, read-early, read-taken, write-early, write-put, take-taken, take-part}

-- where the devices stay, nothing was taken or put
DoesIo-same : (left : Option (List ℕ)) (out err : Given) (n m : ℕ) (before later : DeviceFaults) → DoesIo (outside left out err n before) (outside left out err m later) nothing
DoesIo-same left out err n m before later = record { taken = Takes-nil left; out = sym (given_after-nil out); err = sym (given_after-nil err) }

-- bytes were put to out alone
pub DoesIo-out : (left : Option (List ℕ)) (out after err : Given) (n m : ℕ) (before later : DeviceFaults) (piece bytes : List ℕ) → piece ≡ bytes → after ≡ given_after out piece
    → DoesIo (outside left out err n before) (outside left after err m later) (io_of Out bytes)
DoesIo-out left out after err n m before later piece bytes same is = record {
  taken = Takes-nil left;
  out = is ∙ ap (λ l. given_after out l) same;
  err = sym (given_after-nil err);
}

-- bytes were put to err alone
pub DoesIo-err : (left : Option (List ℕ)) (out err after : Given) (n m : ℕ) (before later : DeviceFaults) (piece bytes : List ℕ) → piece ≡ bytes → after ≡ given_after err piece
    → DoesIo (outside left out err n before) (outside left out after m later) (io_of Err bytes)
DoesIo-err left out err after n m before later piece bytes same is = record {
  taken = Takes-nil left;
  out = sym (given_after-nil out);
  err = is ∙ ap (λ l. given_after err l) same;
}

-- the bytes of a buffer
pub buffer_is : (s : State) (piece : List ℕ) (a n buffer size : ℕ) → piece ≡ memory_at s a n → a ≡ buffer → n ≡ size → piece ≡ memory_at s buffer size
buffer_is s piece a n buffer size is is_buffer is_size = is ∙ ap (λ b. memory_at s b n) is_buffer ∙ ap (λ k. memory_at s buffer k) is_size

-- the first bytes of a piece are fewer than all
fewer_of : (count : ℕ) (piece bytes : List ℕ) (n : ℕ) → count < length piece → piece ≡ bytes → length piece ≡ n → length (take count bytes) < n
fewer_of count piece bytes n few same size = omega (arith, length-take count bytes, ap length same)

-- the low 8 bits of a number
bit_and-255 : (x : ℕ) → bit_and x 255 ≡ x % 2 ^ 8
bit_and-255 x = and_mask x 8

-- an answer leaves the shape
shape-answer : (s u : State) (answer : ℕ) → u ≡ state_after_answer s answer → u.shape ≡ s.shape
shape-answer s u answer is =
    ap (λ (t : State). t.shape) is ∙ shape-state_after (state_after s (Register 10 answer)) _ ∙ shape-state_after s (Register 10 answer)

-- a call that answers, and does nothing else but that it may move the break
module _ (s u : State) (calls : CallState) (brk : ℕ) (left : Option (List ℕ)) (out err : Given) (n m answer : ℕ) (before later : DeviceFaults) (is_u : u ≡ state_after_answer s answer) (count : m ≡ n + 1) where
  pub Serves-answered : (answer_is : Served) → answer_is ≡ served.Went → ((rest : List ℕ) → guest_call calls.low calls.high s calls.brk rest ≡ answered s brk answer)
      → Serves (world s calls left out err n before) (world u (record calls { brk = brk }) left out err m later) answer_is
  Serves-answered answer_is went comes = subst (λ r. Serves (world s calls left out err n before) (world u (record calls { brk = brk }) left out err m later) r) (sym went) (record {
    io = nothing;
    does = DoesIo-same left out err n m before later;
    call = λ rest _. comes rest ∙ ap (λ t. Went t brk nothing) (sym is_u);
    leaves = tt;
    shape = shape-answer s u answer is_u;
    ended = λ e. (e, refl);
    known = λ k. k;
    low = refl;
    high = refl;
    steps = count;
  })

  -- the break, which moves or stays
  pub Serves-break : (answer_is : Served) → answer_is ≡ served.Went → (number argument : ℕ) → number ≡ register (view_of s) 17 → argument ≡ register (view_of s) 10 → number ≡ 214
      → answer ≡ break_after calls.low calls.high calls.brk argument → brk ≡ answer → Serves (world s calls left out err n before) (world u (record calls { brk = brk }) left out err m later) answer_is
  unfolding guest_call
  Serves-break answer_is went number argument is_number is_argument own moved same = Serves-answered answer_is went (λ rest.
      ap (result_of calls.low calls.high s calls.brk rest) (request_of-214 (view_of s) number argument is_number is_argument own)
      ∙ ap (λ b. answered s b b) (sym moved) ∙ ap (λ b. answered s b answer) (sym same))

-- a call that isn't served
pub Serves-unknown : (s u : State) (calls : CallState) (left : Option (List ℕ)) (out err : Given) (n m number answer : ℕ) (before later : DeviceFaults) (answer_is : Served) → answer_is ≡ served.Went
    → number ≡ register (view_of s) 17 → (number ≡ 63 → ⊥) → (number ≡ 64 → ⊥) → (number < 93) ⊎ (95 ≤ number) → (number ≡ 214 → ⊥)
    → answer < 2 ^ 32 → (answer + 38) % 2 ^ 32 ≡ 0 → u ≡ state_after_answer s answer → m ≡ n + 1
    → Serves (world s calls left out err n before) (world u calls left out err m later) answer_is
unfolding guest_call
Serves-unknown s u calls left out err n m number answer before later answer_is went is_number read write end brk below is_answer is_u count =
    let same : negative_answer no_such_call ≡ answer = omega arith in
    Serves-answered s u calls calls.brk left out err n m answer before later is_u count answer_is went (λ rest.
    ap (result_of calls.low calls.high s calls.brk rest) (request_of-other (view_of s) number is_number read write end brk)
    ∙ ap (λ a. answered s calls.brk a) same)

-- the call of a program that ends
pub Serves-exit : (s : State) (calls : CallState) (left : Option (List ℕ)) (out err : Given) (n m number argument : ℕ) (before later : DeviceFaults)
    → number ≡ register (view_of s) 17 → argument ≡ register (view_of s) 10 → 93 ≤ number → number < 95 → m ≡ n + 1
    → Serves (world s calls left out err n before) (world s calls left out err m later) (served.Exit (bit_and argument 255))
unfolding guest_call
Serves-exit s calls left out err n m number argument before later is_number is_argument least below count = record {
  io = nothing;
  does = DoesIo-same left out err n m before later;
  call = λ rest _.
      ap (result_of calls.low calls.high s calls.brk rest) (request_of-93 (view_of s) number argument is_number is_argument least below)
      ∙ ap (λ x. Exit x) (sym (bit_and-255 argument));
  leaves = record { state = refl; calls = refl; none = refl };
  shape = refl;
  ended = λ e. (e, refl);
  known = λ k. k;
  low = refl;
  high = refl;
  steps = count;
}

module _ (s : State) (calls : CallState) (left : Option (List ℕ)) (out err : Given) (n file : ℕ) (before later : DeviceFaults) (is_file : file ≡ register (view_of s) 10) where
  -- a read that is answered early
  pub Serves-read_early : (u : State) (m answer : ℕ) (answer_is : Served) → register (view_of s) 17 ≡ 63
      → Some answer ≡ early_answer s.shape (file == 0) (register (view_of s) 11) (register (view_of s) 12) → u ≡ state_after_answer s answer → m ≡ n + 1 → answer_is ≡ served.Went
      → Serves (world s calls left out err n before) (world u calls left out err m later) answer_is
  Serves-read_early u m answer answer_is asked early is_u count went =
      Serves-answered s u calls calls.brk left out err n m answer before later is_u count answer_is went (λ rest. read-early calls.low calls.high s calls.brk rest file is_file asked answer early)

  -- a write that is answered early
  pub Serves-write_early : (u : State) (m answer : ℕ) (answer_is : Served) (serves : Bool) → register (view_of s) 17 ≡ 64 → serves ≡ ((file == 1) || (file == 2))
      → Some answer ≡ early_answer s.shape serves (register (view_of s) 11) (register (view_of s) 12) → u ≡ state_after_answer s answer → m ≡ n + 1 → answer_is ≡ served.Went
      → Serves (world s calls left out err n before) (world u calls left out err m later) answer_is
  Serves-write_early u m answer answer_is serves asked serves_is early is_u count went =
      Serves-answered s u calls calls.brk left out err n m answer before later is_u count answer_is went (λ rest. write-early calls.low calls.high s calls.brk rest file is_file asked serves serves_is answer early)

  -- a read that comes to its end
  pub Serves-read : (t u : State) (now : CallState) (after : Option (List ℕ)) (m count buffer size : ℕ) (answer_is : Served) → register (view_of s) 17 ≡ 63
      → None ≡ early_answer s.shape (file == 0) (register (view_of s) 11) (register (view_of s) 12) → buffer ≡ register (view_of s) 11 → size ≡ register (view_of s) 12
      → Reads left after s t buffer size calls now count → u ≡ state_after_answer t count → m ≡ n + 1 → answer_is ≡ served.Went
      → Serves (world s calls left out err n before) (world u now after out err m later) answer_is
  Serves-read t u now after m count buffer size answer_is asked early is_buffer is_size r is_u rise went =
      let all : now.ended ≡ false → length r.taken ≡ register (view_of s) 12 = λ going. r.count_is ∙ r.all going ∙ is_size in
      let within : length r.taken ≤ register (view_of s) 12 = omega (arith, r.into.within) in
      let state : state_after_answer (state_after s (Memory (register (view_of s) 11) r.taken)) (length r.taken) ≡ u =
      ap (λ b. state_after_answer (state_after s (Memory b r.taken)) (length r.taken)) (sym is_buffer)
      ∙ ap (λ v. state_after_answer v (length r.taken)) (sym r.into.state)
      ∙ ap (λ k. state_after_answer t k) r.count_is
      ∙ sym is_u in
      subst (λ a. Serves (world s calls left out err n before) (world u now after out err m later) a) (sym went) (record {
        io = io_of Input r.taken;
        does = record { taken = r.into.takes; out = sym (given_after-nil out); err = sym (given_after-nil err) };
        call = λ rest may.
            read-taken calls.low calls.high s calls.brk (r.taken ++ rest) file is_file asked early
            ∙ ap (result_of_read s calls.brk (register (view_of s) 11)) (take-taken now.ended after r.taken rest (register (view_of s) 12) within all may)
            ∙ ap (λ v. Went v calls.brk (io_of Input r.taken)) state
            ∙ ap (λ b. Went u b (io_of Input r.taken)) (sym (ap (λ (k : CallState). k.brk) r.calls));
        leaves = tt;
        shape = shape-answer t u count is_u ∙ shape-into left after s t buffer size r.taken r.into;
        ended = r.ended;
        known = r.known;
        low = ap (λ (k : CallState). k.low) r.calls;
        high = ap (λ (k : CallState). k.high) r.calls;
        steps = rise;
      })

  -- a read whose source fails
  pub Serves-read_fault : (t : State) (now : CallState) (after : Option (List ℕ)) (buffer size : ℕ) → register (view_of s) 17 ≡ 63
      → None ≡ early_answer s.shape (file == 0) (register (view_of s) 11) (register (view_of s) 12) → buffer ≡ register (view_of s) 11 → size ≡ register (view_of s) 12
      → ReadsPart left after s t buffer size calls now → Serves (world s calls left out err n before) (world t now after out err n later) served.ReadFault
  Serves-read_fault t now after buffer size asked early is_buffer is_size r =
      let within : length r.taken ≤ register (view_of s) 12 = omega (arith, r.into.within) in
      record {
        io = io_of Input r.taken;
        does = record { taken = r.into.takes; out = sym (given_after-nil out); err = sym (given_after-nil err) };
        call = λ rest _. record {
          first = r.taken;
          rest = take (register (view_of s) 12 - length r.taken) rest;
          done_is = refl;
          after = _;
          brk = calls.brk;
          call_is = read-taken calls.low calls.high s calls.brk (r.taken ++ rest) file is_file asked early
              ∙ ap (result_of_read s calls.brk (register (view_of s) 11)) (take-part r.taken rest (register (view_of s) 12) within);
          not_all = λ other. absurd (other refl);
        };
        leaves = record {
          buffer = register (view_of s) 11;
          n = register (view_of s) 12;
          asked = λ all. read-taken calls.low calls.high s calls.brk all file is_file asked early;
          fewer = omega (arith, r.fewer);
          state = r.into.state ∙ ap (λ b. state_after s (Memory b r.taken)) is_buffer;
          calls = r.calls;
        };
        shape = shape-into left after s t buffer size r.taken r.into;
        ended = λ e. absurd (false≢true (sym r.going ∙ is_true calls.ended e));
        known = λ _ e. absurd (false≢true (sym (ap (λ (k : CallState). k.ended) r.calls ∙ r.going) ∙ is_true now.ended e));
        low = ap (λ (k : CallState). k.low) r.calls;
        high = ap (λ (k : CallState). k.high) r.calls;
        steps = omega arith;
      }

  -- a write that comes to its end
  pub Serves-write : (u : State) (out_after err_after : Given) (m answer : ℕ) (answer_is : Served) (serves : Bool) (device : Device) → register (view_of s) 17 ≡ 64 → serves ≡ ((file == 1) || (file == 2))
      → None ≡ early_answer s.shape serves (register (view_of s) 11) (register (view_of s) 12) → (cond (file == 1) Out Err) ≡ device → (none : (io_of device (memory_at s (register (view_of s) 11) (register (view_of s) 12))).taken ≡ [])
      → DoesIo (outside left out err n before) (outside left out_after err_after m later) (io_of device (memory_at s (register (view_of s) 11) (register (view_of s) 12)))
      → answer ≡ register (view_of s) 12 → u ≡ state_after_answer s answer → m ≡ n + 1 → answer_is ≡ served.Went
      → Serves (world s calls left out err n before) (world u calls left out_after err_after m later) answer_is
  Serves-write u out_after err_after m answer answer_is serves device asked serves_is early is_device none does is_answer is_u rise went =
      let bytes = memory_at s (register (view_of s) 11) (register (view_of s) 12) in
      subst (λ a. Serves (world s calls left out err n before) (world u calls left out_after err_after m later) a) (sym went) (record {
        io = io_of device bytes;
        does = does;
        call = λ rest _.
            write-put calls.low calls.high s calls.brk ((io_of device bytes).taken ++ rest) file is_file asked serves serves_is early
            ∙ ap (λ d. Went (state_after_answer s (register (view_of s) 12)) calls.brk (io_of d bytes)) is_device
            ∙ ap (λ a. Went (state_after_answer s a) calls.brk (io_of device bytes)) (sym is_answer)
            ∙ ap (λ v. Went v calls.brk (io_of device bytes)) (sym is_u);
        leaves = tt;
        shape = shape-answer s u answer is_u;
        ended = λ e. (e, none);
        known = λ k. k;
        low = refl;
        high = refl;
        steps = rise;
      })

  -- what a write whose sink fails was to do
  Serves-part : (left_of : List ℕ) (count : ℕ) (serves : Bool) (device : Device) → register (view_of s) 17 ≡ 64 → serves ≡ ((file == 1) || (file == 2))
      → None ≡ early_answer s.shape serves (register (view_of s) 11) (register (view_of s) 12) → (cond (file == 1) Out Err) ≡ device
      → count < length (memory_at s (register (view_of s) 11) (register (view_of s) 12))
      → IsCutShort device (io_of device (take count (memory_at s (register (view_of s) 11) (register (view_of s) 12)))) (guest_call calls.low calls.high s calls.brk left_of)
  Serves-part left_of count serves device asked serves_is early is_device few =
      let bytes = memory_at s (register (view_of s) 11) (register (view_of s) 12) in
      record {
        first = take count bytes;
        rest = drop count bytes;
        done_is = refl;
        after = state_after_answer s (register (view_of s) 12);
        brk = calls.brk;
        call_is = write-put calls.low calls.high s calls.brk left_of file is_file asked serves serves_is early
            ∙ ap (λ d. Went (state_after_answer s (register (view_of s) 12)) calls.brk (io_of d bytes)) is_device
            ∙ ap (λ b. Went (state_after_answer s (register (view_of s) 12)) calls.brk (io_of device b)) (sym (take-append-drop count bytes));
        not_all = λ _. omega (arith, few, length-drop count bytes);
      }

  -- a write to out whose sink fails
  pub Serves-write_fault : (piece : List ℕ) (after : Given) (serves : Bool) → register (view_of s) 17 ≡ 64 → serves ≡ ((file == 1) || (file == 2))
      → None ≡ early_answer s.shape serves (register (view_of s) 11) (register (view_of s) 12) → (cond (file == 1) Out Err) ≡ Out
      → piece ≡ memory_at s (register (view_of s) 11) (register (view_of s) 12) → length piece ≡ register (view_of s) 12 → PutsPart out after piece → Serves (world s calls left out err n before) (world s calls left after err n later) served.WriteFault
  Serves-write_fault piece after serves asked serves_is early is_device is_piece size part =
      let bytes = memory_at s (register (view_of s) 11) (register (view_of s) 12) in
      record {
        io = io_of Out (take part.count bytes);
        does = DoesIo-out left out after err n n before later (take part.count piece) (take part.count bytes) (ap (λ l. take part.count l) is_piece) part.given;
        call = λ rest _. Serves-part rest part.count serves Out asked serves_is early is_device (omega (arith, part.fewer, ap length is_piece));
        leaves = record {
          buffer = register (view_of s) 11;
          n = register (view_of s) 12;
          asked = λ all. write-put calls.low calls.high s calls.brk all file is_file asked serves serves_is early
              ∙ ap (λ d. Went (state_after_answer s (register (view_of s) 12)) calls.brk (io_of d bytes)) is_device;
          fewer = fewer_of part.count piece bytes (register (view_of s) 12) part.fewer is_piece size;
          state = refl;
          calls = refl;
        };
        shape = refl;
        ended = λ e. (e, refl);
        known = λ k. k;
        low = refl;
        high = refl;
        steps = omega arith;
      }

  -- a write to err whose sink fails
  pub Serves-err_fault : (piece : List ℕ) (after : Given) (serves : Bool) → register (view_of s) 17 ≡ 64 → serves ≡ ((file == 1) || (file == 2))
      → None ≡ early_answer s.shape serves (register (view_of s) 11) (register (view_of s) 12) → (cond (file == 1) Out Err) ≡ Err
      → piece ≡ memory_at s (register (view_of s) 11) (register (view_of s) 12) → length piece ≡ register (view_of s) 12 → PutsPart err after piece → Serves (world s calls left out err n before) (world s calls left out after n later) served.ErrFault
  Serves-err_fault piece after serves asked serves_is early is_device is_piece size part =
      let bytes = memory_at s (register (view_of s) 11) (register (view_of s) 12) in
      record {
        io = io_of Err (take part.count bytes);
        does = DoesIo-err left out err after n n before later (take part.count piece) (take part.count bytes) (ap (λ l. take part.count l) is_piece) part.given;
        call = λ rest _. Serves-part rest part.count serves Err asked serves_is early is_device (omega (arith, part.fewer, ap length is_piece));
        leaves = record {
          buffer = register (view_of s) 11;
          n = register (view_of s) 12;
          asked = λ all. write-put calls.low calls.high s calls.brk all file is_file asked serves serves_is early
              ∙ ap (λ d. Went (state_after_answer s (register (view_of s) 12)) calls.brk (io_of d bytes)) is_device;
          fewer = fewer_of part.count piece bytes (register (view_of s) 12) part.fewer is_piece size;
          state = refl;
          calls = refl;
        };
        shape = refl;
        ended = λ e. (e, refl);
        known = λ k. k;
        low = refl;
        high = refl;
        steps = omega arith;
      }
