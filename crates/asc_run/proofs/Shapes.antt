-- Steps and jumps keep the shape of a state, and go on by states.
use Rattle.std.proofs.Common.{◌≡◌, ℕ, zero, suc, ◌+◌, ◌-◌, ◌≤◌, Option, Some, None, sym, ap, ◌∙◌, zero-add, suc-add, arith}
use Rattle.asc_model.specs.Shape.{Shape}
use Rattle.asc_model.specs.State.{State}
use Rattle.asc_model.specs.Machine.{Machine, state_of, view_of}
use Rattle.asc_model.specs.Step.{Went, Outcome, Call, Faulted, next_of, outcome, next}
use Rattle.asc_model.specs.Plain.{plain}
use Rattle.asc_traj.specs.Jump.{IsJump}
use Rattle.asc_model.proofs.PlainSteps.{plain-first, plain-last, plain-none}

at-same : (a b : State) → Went a ≡ Went b → a ≡ b
at-same a b e = cc

next_of-shape : (shape : Shape) (m : Machine) (o : Outcome) (t : State) → next_of shape m o ≡ Went t → t.shape ≡ shape
unfolding state_of
next_of-shape shape m (Went list) t e = let k = at-same _ t e in sym (ap (λ (s : State). s.shape) k)
next_of-shape shape m Call t e = cc
next_of-shape shape m (Faulted fault) t e = cc

-- a step
pub next-shape : (s t : State) → next s ≡ Went t → t.shape ≡ s.shape
unfolding next
next-shape s t e = next_of-shape s.shape (view_of s) (outcome s.shape (view_of s)) t e

-- plain steps
pub plain-shape : (n : ℕ) (s t : State) → plain n s ≡ Went t → t.shape ≡ s.shape
plain-shape zero s t h = sym (ap (λ (u : State). u.shape) (plain-none s t h))
plain-shape (suc n) s t h =
    let first = plain-first n s t h in
    plain-shape n first.0 t first.2 ∙ next-shape s first.0 first.1

-- and so does a jump
pub jump-shape : (reply : Option ℕ) (left : ℕ) (s t : State) → IsJump reply left s t → t.shape ≡ s.shape
jump-shape None left s t same = ap (λ (u : State). u.shape) same
jump-shape (Some n) left s t jump = plain-shape n s t jump.goes

-- n plain steps that reach a state reach one after k of them
plain-front : (j k : ℕ) (s t : State) → plain (j + k) s ≡ Went t → (u : State) × (plain k s ≡ Went u)
plain-front zero k s t h = (t, ap (λ n. plain n s) (sym (zero-add k)) ∙ h)
plain-front (suc j) k s t h =
    let last = plain-last (j + k) s t (ap (λ n. plain n s) (sym (suc-add j k)) ∙ h) in
    plain-front j k s last.0 last.1

pub plain-part : (k n : ℕ) (s t : State) → k ≤ n → plain n s ≡ Went t → (u : State) × (plain k s ≡ Went u)
plain-part k n s t fewer h =
    let sum : (n - k) + k ≡ n = omega arith in
    plain-front (n - k) k s t (ap (λ m. plain m s) sum ∙ h)
