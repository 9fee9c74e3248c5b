-- Plain steps, one after another: in parts, from state to state, and the last one apart.
use Rattle.std.proofs.Common.{◌≡◌, ℕ, zero, suc, ◌+◌, refl, sym, ap, ◌∙◌, subst, zero-add, suc-add}
use Rattle.asc_model.specs.State.{State, IsState}
use Rattle.asc_model.specs.Step.{Next, Went, Call, Faulted, next}
use Rattle.asc_model.specs.Plain.{plain}
use Rattle.asc_model.specs.Laws.{PlainStepsJoin, PlainStepsKeepStates}
use Rattle.asc_model.proofs.LawsHold.{steps_keep_states}

-- n plain steps from what a step came to
abbrev pub plain_after : ℕ → Next → Next
plain_after n x = elim x [ Went after ↦ plain n after | Call ↦ Call | Faulted fault ↦ Faulted fault ]

-- no step
pub plain-zero : (s : State) → plain 0 s ≡ Went s
unfolding plain
plain-zero s = refl

-- one step and then n
pub plain-suc : (n : ℕ) (s : State) → plain (suc n) s ≡ plain_after n (next s)
unfolding plain
plain-suc n s = refl

-- the same, once it is known what the first step came to
pub plain-suc_next : (n : ℕ) (s : State) (x : Next) → next s ≡ x → plain (suc n) s ≡ plain_after n x
plain-suc_next n s x e = plain-suc n s ∙ ap (plain_after n) e

-- plain steps that reach a state, by what the first one came to: it led to a state, and the others went on from there
reached : (n : ℕ) (s after : State) (x : Next) → next s ≡ x → plain (suc n) s ≡ Went after → (first : State) × (next s ≡ Went first) × (plain n first ≡ Went after)
reached n s after (Went first) e h = (first, e, sym (plain-suc_next n s (Went first) e) ∙ h)
reached n s after Call e h = let k : Call ≡ Went after = sym (plain-suc_next n s Call e) ∙ h in absurd (cc)
reached n s after (Faulted fault) e h = let k : Faulted fault ≡ Went after = sym (plain-suc_next n s (Faulted fault) e) ∙ h in absurd (cc)

-- plain steps that reach a state have a first one, which leads to a state
pub plain-first : (n : ℕ) (s after : State) → plain (suc n) s ≡ Went after → (first : State) × (next s ≡ Went first) × (plain n first ≡ Went after)
plain-first n s after h = reached n s after (next s) refl h

-- no steps reach the state itself
pub plain-none : (s after : State) → plain 0 s ≡ Went after → s ≡ after
plain-none s after h = let e : Went s ≡ Went after = sym (plain-zero s) ∙ h in cc

-- plain steps that reach a state have a last one, from a state
pub plain-last : (n : ℕ) (s after : State) → plain (suc n) s ≡ Went after → (before : State) × (plain n s ≡ Went before) × (next before ≡ Went after)
plain-last zero s after h =
    let first = plain-first zero s after h in
    (s, plain-zero s, first.1 ∙ ap Went (plain-none first.0 after first.2))
plain-last (suc n) s after h =
    let first = plain-first (suc n) s after h in
    let last = plain-last n first.0 after first.2 in
    (last.0, plain-suc_next n s (Went first.0) first.1 ∙ last.1, last.2)

-- by the first of the m steps
pub plain_steps_join : PlainStepsJoin
plain_steps_join zero n s between h = ap (λ k. plain k s) (zero-add n) ∙ ap (plain n) (plain-none s between h)
plain_steps_join (suc m) n s between h =
    let first = plain-first m s between h in
    ap (λ k. plain k s) (suc-add m n) ∙ plain-suc_next (m + n) s (Went first.0) first.1 ∙ plain_steps_join m n first.0 between first.2

-- each step keeps them
pub plain_steps_keep_states : PlainStepsKeepStates
plain_steps_keep_states zero s after good h =
    let e = plain-none s after h in
    (subst IsState e good, sym (ap (λ (t : State). t.shape) e))
plain_steps_keep_states (suc n) s after good h =
    let first = plain-first n s after h in
    let kept = steps_keep_states s first.0 good first.1 in
    let rest = plain_steps_keep_states n first.0 after kept.0 first.2 in
    (rest.0, rest.1 ∙ kept.1)
