-- Steps one after another: one more, and what they pass.
use Rattle.std.proofs.Common.{◌≡◌, ◌+◌, ◌-◌, ◌≤◌, ◌<◌, ℕ, sym, ap, ◌∙◌, arith, inl, inr}
use Rattle.std.proofs.lemmas.Bool.{cases_lt}
use Rattle.std.specs.Prelude.{◌≢◌}
use Rattle.asc_model.specs.State.{State}
use Rattle.asc_model.specs.Machine.{view_of}
use Rattle.asc_model.specs.Plain.{plain}
use Rattle.asc_model.specs.Step.{Next, Went, Call, Faulted, next}
use Rattle.asc_model.proofs.PlainSteps.{plain-zero, plain_steps_join, plain-suc_next}
use Rattle.asc_step.specs.Step.{Climbs, Lowers, PassesBy, stepped_of, state_after_step}
use Rattle.asc_step.specs.declared.stepped.Stepped.{Stepped}
use Rattle.asc_step.specs.declared.stepped.Stepped.TheVariants as answers

-- where a step went on, it led to the state that it left
led : (x : Next) (before after : State) → answers.Went ≡ stepped_of x → after ≡ state_after_step x before
    → x ≡ Went after
led (Went now) before after answer left = ap Went (sym left)
led Call before after answer left = absurd (cc)
led (Faulted fault) before after answer left = absurd (cc)

-- one step more
pub plain-more : (count : ℕ) (start before after : State) (answer : Stepped) → plain count start ≡ Went before → answer ≡ answers.Went → answer ≡ stepped_of (next before)
    → after ≡ state_after_step (next before) before → plain (count + 1) start ≡ Went after
plain-more count start before after answer so_far went answered left =
    plain_steps_join count 1 start before so_far
    ∙ plain-suc_next 0 before (Went after) (led (next before) before after (sym went ∙ answered) left)
    ∙ plain-zero after

same_state : (s t : State) → Went s ≡ Went t → s ≡ t
same_state s t e = cc

-- one step more, from a state that does not have the pc
pub PassesBy-more : (start after : State) (pc count : ℕ) → PassesBy start pc count → plain count start ≡ Went after → (view_of after).pc ≢ pc
    → PassesBy start pc (count + 1)
PassesBy-more start after pc count so_far goes past k least below last went at = elim (cases_lt k count) [
  | inl x ↦ so_far k least x last went at
  | inr x ↦
      let e : k ≡ count = omega arith in
      let same : last ≡ after = same_state last after (sym went ∙ ap (λ n. plain n start) e ∙ goes) in
      past (ap (λ (s : State). (view_of s).pc) (sym same) ∙ at)
]

abbrev pub pc_of : State → ℕ
pc_of s = (view_of s).pc

-- one step more, which does not lower the pc
pub Climbs-more : (start before after : State) (count : ℕ) → Climbs start (count + 1) → plain count start ≡ Went before
    → plain (count + 1) start ≡ Went after → pc_of before ≤ pc_of after → Climbs start (count + 1 + 1)
Climbs-more start before after count so_far went goes up k below first last at_first at_last = elim (cases_lt k count) [
  | inl x ↦ so_far k (omega (arith, x)) first last at_first at_last
  | inr x ↦
      let e : k ≡ count = omega arith in
      let first_is : first ≡ before = same_state first before (sym at_first ∙ ap (λ n. plain n start) e ∙ went) in
      let last_is : last ≡ after = same_state last after (sym at_last ∙ ap (λ n. plain (n + 1) start) e ∙ goes) in
      omega (arith, up, ap pc_of first_is, ap pc_of last_is)
]

-- one step more, which lowers the pc
pub Lowers-more : (start before after : State) (count : ℕ) → plain count start ≡ Went before
    → plain (count + 1) start ≡ Went after → pc_of after < pc_of before → Lowers start (count + 1)
Lowers-more start before after count went goes down = (
  omega arith,
  λ first last at_first at_last.
      let e : count + 1 - 1 ≡ count = omega arith in
      let first_is : first ≡ before = same_state first before (sym at_first ∙ ap (λ n. plain n start) e ∙ went) in
      let last_is : last ≡ after = same_state last after (sym at_last ∙ goes) in
      omega (arith, down, ap pc_of first_is, ap pc_of last_is),
)
