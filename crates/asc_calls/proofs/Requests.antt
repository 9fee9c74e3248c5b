-- What a machine asks for, by the number in x17, and what read and write come to where nothing is answered early.
use Rattle.std.proofs.Common.{◌≡◌, ℕ, ◌+◌, ◌<◌, ◌≤◌, ◌⊎◌, Bool, true, false, cond, refl, List, [], ◌++◌, length, take, Option, Some, None, MatchBool, sym, ap, ◌∙◌, arith}
use Rattle.std.proofs.lemmas.Bool.Decides.{nat_tests}
use Rattle.std.proofs.lemmas.List.{append-nil, take_all, take_at}
use Rattle.std.proofs.Math.Seq.{take-append-add}
use Rattle.std.specs.Prelude.{◌-◌, ◌==◌, ◌||◌}
use Rattle.asc_model.specs.State.{State}
use Rattle.asc_model.specs.Machine.{Machine, register, view_of}
use Rattle.asc_calls.specs.GuestCall.{Out, Err, Read, Write, End, Break, Unknown, request_of, early_answer, answered, answered_early_or, result_of, result_of_read, result_of_write, guest_call}
use Rattle.asc_calls.specs.World.{Agrees}

request_of-63 : (m : Machine) → register m 17 ≡ 63 → request_of m ≡ Read (register m 10) (register m 11) (register m 12)
request_of-63 m is = grind (arith, nat_tests)

request_of-64 : (m : Machine) → register m 17 ≡ 64 → request_of m ≡ Write (register m 10) (register m 11) (register m 12)
request_of-64 m is = grind (arith, nat_tests)

pub request_of-93 : (m : Machine) (number argument : ℕ) → number ≡ register m 17 → argument ≡ register m 10 → 93 ≤ number → number < 95 → request_of m ≡ End argument
request_of-93 m number argument is is_argument least below = grind (arith, nat_tests)

pub request_of-214 : (m : Machine) (number argument : ℕ) → number ≡ register m 17 → argument ≡ register m 10 → number ≡ 214 → request_of m ≡ Break argument
request_of-214 m number argument is is_argument own = grind (arith, nat_tests)

pub request_of-other : (m : Machine) (number : ℕ) → number ≡ register m 17 → (number ≡ 63 → ⊥) → (number ≡ 64 → ⊥) → (number < 93) ⊎ (95 ≤ number) → (number ≡ 214 → ⊥)
    → request_of m ≡ Unknown
request_of-other m number is read write end brk = grind (arith, nat_tests)

module _ (low high : ℕ) (s : State) (brk : ℕ) (left : List ℕ) (file : ℕ) (is_file : file ≡ register (view_of s) 10) where
  -- a read that is answered early
  pub read-early : register (view_of s) 17 ≡ 63 → (answer : ℕ) → Some answer ≡ early_answer s.shape (file == 0) (register (view_of s) 11) (register (view_of s) 12)
      → guest_call low high s brk left ≡ answered s brk answer
  unfolding guest_call
  read-early asked answer early =
      ap (result_of low high s brk left) (request_of-63 (view_of s) asked)
      ∙ ap (λ f. answered_early_or s brk (early_answer s.shape (f == 0) (register (view_of s) 11) (register (view_of s) 12)) (result_of_read s brk (register (view_of s) 11) (take (register (view_of s) 12) left))) (sym is_file)
      ∙ ap (λ e. answered_early_or s brk e (result_of_read s brk (register (view_of s) 11) (take (register (view_of s) 12) left))) (sym early)

  -- a read that isn't
  pub read-taken : register (view_of s) 17 ≡ 63 → None ≡ early_answer s.shape (file == 0) (register (view_of s) 11) (register (view_of s) 12)
      → guest_call low high s brk left ≡ result_of_read s brk (register (view_of s) 11) (take (register (view_of s) 12) left)
  unfolding guest_call
  read-taken asked early =
      ap (result_of low high s brk left) (request_of-63 (view_of s) asked)
      ∙ ap (λ f. answered_early_or s brk (early_answer s.shape (f == 0) (register (view_of s) 11) (register (view_of s) 12)) (result_of_read s brk (register (view_of s) 11) (take (register (view_of s) 12) left))) (sym is_file)
      ∙ ap (λ e. answered_early_or s brk e (result_of_read s brk (register (view_of s) 11) (take (register (view_of s) 12) left))) (sym early)

  -- a write that is answered early
  pub write-early : register (view_of s) 17 ≡ 64 → (serves : Bool) → serves ≡ ((file == 1) || (file == 2)) → (answer : ℕ)
      → Some answer ≡ early_answer s.shape serves (register (view_of s) 11) (register (view_of s) 12) → guest_call low high s brk left ≡ answered s brk answer
  unfolding guest_call
  write-early asked serves serves_is answer early =
      ap (result_of low high s brk left) (request_of-64 (view_of s) asked)
      ∙ ap (λ f. answered_early_or s brk (early_answer s.shape ((f == 1) || (f == 2)) (register (view_of s) 11) (register (view_of s) 12)) (result_of_write s brk f (register (view_of s) 11) (register (view_of s) 12))) (sym is_file)
      ∙ ap (λ b. answered_early_or s brk (early_answer s.shape b (register (view_of s) 11) (register (view_of s) 12)) (result_of_write s brk file (register (view_of s) 11) (register (view_of s) 12))) (sym serves_is)
      ∙ ap (λ e. answered_early_or s brk e (result_of_write s brk file (register (view_of s) 11) (register (view_of s) 12))) (sym early)

  -- a write that isn't
  pub write-put : register (view_of s) 17 ≡ 64 → (serves : Bool) → serves ≡ ((file == 1) || (file == 2))
      → None ≡ early_answer s.shape serves (register (view_of s) 11) (register (view_of s) 12) → guest_call low high s brk left ≡ result_of_write s brk file (register (view_of s) 11) (register (view_of s) 12)
  unfolding guest_call
  write-put asked serves serves_is early =
      ap (result_of low high s brk left) (request_of-64 (view_of s) asked)
      ∙ ap (λ f. answered_early_or s brk (early_answer s.shape ((f == 1) || (f == 2)) (register (view_of s) 11) (register (view_of s) 12)) (result_of_write s brk f (register (view_of s) 11) (register (view_of s) 12))) (sym is_file)
      ∙ ap (λ b. answered_early_or s brk (early_answer s.shape b (register (view_of s) 11) (register (view_of s) 12)) (result_of_write s brk file (register (view_of s) 11) (register (view_of s) 12))) (sym serves_is)
      ∙ ap (λ e. answered_early_or s brk e (result_of_write s brk file (register (view_of s) 11) (register (view_of s) 12))) (sym early)

-- the file that a write is to
pub device-out : (file : ℕ) → file ≡ 1 → (cond (file == 1) Out Err) ≡ Out
device-out file is = rw is

pub device-err : (file : ℕ) → (file ≡ 1 → ⊥) → (cond (file == 1) Out Err) ≡ Err
device-err file other =
    let test : (file == 1) ≡ false = grind (arith, nat_tests) in
    ap (λ (b : Bool). cond b Out Err) test

-- all that a read asked for was taken, or nothing is left behind it
pub take-taken : (ended : Bool) (left : Option (List ℕ)) (taken rest : List ℕ) (n : ℕ) → length taken ≤ n → (ended ≡ false → length taken ≡ n)
    → MatchBool ended (rest ≡ []) (Agrees left rest) → take n (taken ++ rest) ≡ taken
take-taken true left taken rest n within all may =
    ap (λ l. take n (taken ++ l)) may ∙ ap (λ l. take n l) (append-nil taken) ∙ take_all n taken within
take-taken false left taken rest n within all may = take_at taken rest n (all refl)

-- a part of what a read asked for was taken
pub take-part : (taken rest : List ℕ) (n : ℕ) → length taken ≤ n → take n (taken ++ rest) ≡ taken ++ take (n - length taken) rest
take-part taken rest n within =
    let sum : n ≡ length taken + (n - length taken) = omega arith in
    ap (λ k. take k (taken ++ rest)) sum ∙ take-append-add taken rest (n - length taken)
