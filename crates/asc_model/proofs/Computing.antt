-- How many steps a trace takes, computed from its start on.
use Rattle.std.proofs.Common.{◌≡◌, ℕ, zero, suc, ◌+◌, ◌≤◌, Bool, true, false, Option, Some, None, refl, sym, ap, ◌∙◌, arith, inl, inr}
use Rattle.std.specs.Prelude.{if◌then◌else◌, ◌==◌}
use Rattle.std.specs.Option.{option_or}
use Rattle.std.proofs.lemmas.Bool.{cases_lt, eq-eqb}
use Rattle.asc_model.specs.declared.why.Why.{Why}
use Rattle.asc_model.specs.declared.why.Why.TheVariants as whys
use Rattle.asc_model.specs.State.{State}
use Rattle.asc_model.specs.Step.{Went, Call, Faulted, next}
use Rattle.asc_model.specs.Plain.{plain}
use Rattle.asc_model.specs.Reach.{Bounds, why_after, IsReach, reach_from}
use Rattle.asc_model.specs.Laws.{ReachesAreComputed}
use Rattle.asc_model.proofs.PlainSteps.{plain-first, plain-suc_next, plain-zero, plain_steps_join}

-- fewer steps reach a state too
prefix : (k n : ℕ) (s after : State) → k ≤ n → plain n s ≡ Went after → (now : State) × (plain k s ≡ Went now)
prefix zero n s after le h = (s, plain-zero s)
prefix (suc k) zero s after le h = absurd (let x : ⊥ = omega arith in x)
prefix (suc k) (suc n) s after le h =
    let first = plain-first n s after h in
    let rest = prefix k n first.0 after (omega arith) first.2 in
    (rest.0, plain-suc_next k s (Went first.0) first.1 ∙ rest.1)

-- one step more
plain-more : (k : ℕ) (s now after : State) → plain k s ≡ Went now → next now ≡ Went after → plain (k + 1) s ≡ Went after
plain-more k s now after h e =
    plain_steps_join k 1 s now h ∙ plain-suc_next 0 now (Went after) e ∙ plain-zero after

at-same : (a b : State) → Went a ≡ Went b → a ≡ b
at-same a b e = cc

ends_here : (bounds : Bounds) (start : State) (k fuel : ℕ) (now : State) (why : Why) → why_after bounds k start now ≡ Some why → reach_from bounds start k fuel now ≡ k
unfolding reach_from
ends_here bounds start k zero now why e = refl
ends_here bounds start k (suc fuel) now why e =
    ap (λ w. elim w [
      | Some why ↦ k
      | None ↦ elim (next now) [ Went after ↦ reach_from bounds start (k + 1) fuel after | Call ↦ k | Faulted fault ↦ k ]
    ]) e

goes_on : (bounds : Bounds) (start : State) (k fuel : ℕ) (now after : State) → why_after bounds k start now ≡ None → next now ≡ Went after
    → reach_from bounds start k (suc fuel) now ≡ reach_from bounds start (k + 1) fuel after
unfolding reach_from
goes_on bounds start k fuel now after e h =
    ap (λ w. elim w [
      | Some why ↦ k
      | None ↦ elim (next now) [ Went after ↦ reach_from bounds start (k + 1) fuel after | Call ↦ k | Faulted fault ↦ k ]
    ]) e
    ∙ ap (λ x. elim x [ Went after ↦ reach_from bounds start (k + 1) fuel after | Call ↦ k | Faulted fault ↦ k ]) h

from : (bounds : Bounds) (start : State) (n : ℕ) (why : Why) → IsReach bounds start n why → (d k fuel : ℕ) (now : State) → k + d ≡ n → d ≤ fuel → plain k start ≡ Went now
    → reach_from bounds start k fuel now ≡ n
from bounds start n why r zero k fuel now e le h =
    let q : k ≡ n = omega arith in
    let same : now ≡ r.now = at-same now r.now (sym h ∙ ap (λ m. plain m start) q ∙ r.goes) in
    ends_here bounds start k fuel now why (ap (λ m. why_after bounds m start now) q ∙ ap (λ s. why_after bounds n start s) same ∙ r.ends) ∙ q
from bounds start n why r (suc d) k zero now e le h = absurd (let x : ⊥ = omega arith in x)
from bounds start n why r (suc d) k (suc fuel) now e le h =
    let rest : plain (suc d) now ≡ Went r.now = sym (plain_steps_join k (suc d) start now h) ∙ ap (λ m. plain m start) e ∙ r.goes in
    let first = plain-first d now r.now rest in
    goes_on bounds start k fuel now first.0 (r.least k now (omega arith) h) first.1
    ∙ from bounds start n why r d (k + 1) fuel first.0 (omega arith) (omega arith) (plain-more k start now first.0 h first.1)

-- a trace ends at its span
some_bound : (lap : Bool) (n : ℕ) (y z : Option Why) → option_or (if lap then Some whys.Lap else (if n == n then Some whys.Span else y)) z ≡ None → ⊥
some_bound true n y z e = cc
some_bound false n y z e =
    let q : option_or (if true then Some whys.Span else y) z ≡ None = ap (λ c. option_or (if c then Some whys.Span else y) z) (sym (eq-eqb n n refl)) ∙ e in cc

within : (bounds : Bounds) (start : State) (n : ℕ) (why : Why) → IsReach bounds start n why → n ≤ bounds.span
within bounds start n why r = elim (cases_lt bounds.span n) [
  | inl x ↦ let at = prefix bounds.span n start r.now (omega arith) r.goes in
      absurd (some_bound _ bounds.span _ _ (r.least bounds.span at.0 x at.1))
  | inr x ↦ x
]

pub reaches_are_computed : ReachesAreComputed
reaches_are_computed bounds start n why r =
    from bounds start n why r n 0 bounds.span start (omega arith) (within bounds start n why r) (plain-zero start)
