-- A trace has one reach.
use Rattle.std.proofs.Common.{◌≡◌, ℕ, ◌<◌, Option, Some, None, sym, ap, subst, ◌∙◌, inl, inr}
use Rattle.std.proofs.lemmas.Bool.{cases_order}
use Rattle.asc_model.specs.declared.why.Why.{Why}
use Rattle.asc_model.specs.State.{State}
use Rattle.asc_model.specs.Step.{Next, Went}
use Rattle.asc_model.specs.Plain.{plain}
use Rattle.asc_model.specs.Reach.{Bounds, why_after, IsReach}
use Rattle.asc_model.specs.Laws.{ReachesAreOne}

-- a reason is not none
reason_or_none : (found : Option Why) (why : Why) → found ≡ None → found ≡ Some why → ⊥
reason_or_none found why p q = let e : None ≡ Some why = sym p ∙ q in absurd (cc)

-- one reason is one
same_reason : (found : Option Why) (why other : Why) → found ≡ Some why → found ≡ Some other → why ≡ other
same_reason found why other p q = let e : Some why ≡ Some other = sym p ∙ q in cc

-- steps lead to one state
same_state : (x : Next) (a b : State) → x ≡ Went a → x ≡ Went b → a ≡ b
same_state x a b p q = let e : Went a ≡ Went b = sym p ∙ q in cc

-- of two reaches none is before the other
not_before : (bounds : Bounds) (start : State) (m n : ℕ) (why other : Why) → IsReach bounds start m why
    → IsReach bounds start n other → m < n → ⊥
not_before bounds start m n why other p q lt =
    reason_or_none (why_after bounds m start p.now) why (q.least m p.now lt p.goes) p.ends

-- two reaches after the same steps have one reason
same_why : (bounds : Bounds) (start : State) (n : ℕ) (why other : Why) → IsReach bounds start n why
    → IsReach bounds start n other → why ≡ other
same_why bounds start n why other p q =
    let now : p.now ≡ q.now = same_state (plain n start) p.now q.now p.goes q.goes in
    same_reason (why_after bounds n start q.now) why other (ap (why_after bounds n start) (sym now) ∙ p.ends) q.ends

pub reaches_are_one : ReachesAreOne
reaches_are_one bounds start m n why other p q = elim (cases_order m n) [
  | inl e ↦ (e, same_why bounds start n why other (subst (λ k. IsReach bounds start k why) e p) q)
  | inr apart ↦ elim apart [
    | inl lt ↦ absurd (not_before bounds start m n why other p q lt)
    | inr lt ↦ absurd (not_before bounds start n m other why q p lt)
  ]
]
