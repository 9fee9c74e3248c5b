-- The visits of a walk, one landing more; and that its replies determine them.
use Rattle.std.proofs.Common.{◌≡◌, ◌≤◌, ◌+◌, ℕ, Bool, true, false, List, [], ◌∷◌, ◌++◌, length, ap, ◌∙◌, sym, subst, refl, Option, Some, None, arith, inl, inr}
use Rattle.std.proofs.lemmas.Bool.{cases_lt, false≢true}
use Rattle.std.proofs.lemmas.List.{length_push, same_from_push}
use Rattle.asc_model.specs.State.{State}
use Rattle.asc_model.specs.Step.{Went}
use Rattle.asc_model.specs.Plain.{plain}
use Rattle.asc_run.specs.Execution.{Position, Progress, On, Off}
use Rattle.asc_run.specs.Visits.{Course, VisitRule, Visit, landing, is_at, goes_on_at, GoesPlain, HasNoVisit, AreVisits, replies_of, with_landing}
use Rattle.asc_run.specs.Laws.{RepliesDetermineVisits}
use Rattle.asc_run.proofs.Reach.{IsOff}

HasNoVisit-joined : (rule : ℕ → Bool) (a b c : ℕ) → HasNoVisit rule a b → HasNoVisit rule b c → HasNoVisit rule a c
HasNoVisit-joined rule a b c p q k h l = elim (cases_lt k b) [ inl x ↦ p k h x | inr x ↦ q k x l ]

HasNoVisit-one : (rule : ℕ → Bool) (c : ℕ) → rule c ≡ false → HasNoVisit rule c (c + 1)
HasNoVisit-one rule c p k h l = let e : c ≡ k = omega arith in subst (λ x. rule x ≡ false) e p

HasNoVisit-none : (rule : ℕ → Bool) (c : ℕ) → HasNoVisit rule c c
HasNoVisit-none rule c k h l = absurd (let x : ⊥ = omega arith in x)

-- further counts that are no visits
pub AreVisits-later : (limit : ℕ) (run : Course) (rule : VisitRule) (vs : List Visit) (a b : ℕ) → AreVisits limit run rule vs a → a ≤ b → HasNoVisit (rule vs) a b → AreVisits limit run rule vs b
AreVisits-later limit run rule [] a b x l n = HasNoVisit-joined (rule []) 0 a b x n
AreVisits-later limit run rule (v ∷ vs) a b x l n =
    let q : landing v ≤ a = x.1.1.1.0 in
    (x.0, (x.1.0, (x.1.1.0, ((let z : landing v ≤ b = omega arith in z), HasNoVisit-joined (rule (v ∷ vs)) (landing v) a b x.1.1.1.1 n))))

-- a landing from which the walk goes one step on
pub AreVisits-step : (is : Bool) (limit : ℕ) (run : Course) (rule : VisitRule) (vs : List Visit) (c : ℕ) → AreVisits limit run rule vs c → rule vs c ≡ is → AreVisits limit run rule (with_landing is c None vs) (c + 1)
AreVisits-step true limit run rule vs c x m = (x, (m, (tt, (omega arith, HasNoVisit-none (rule (with_landing true c None vs)) (c + 1)))))
AreVisits-step false limit run rule vs c x m = AreVisits-later limit run rule vs c (c + 1) x (omega arith) (HasNoVisit-one (rule vs) c m)

-- a landing from which it jumps
pub AreVisits-jump : (is : Bool) (limit : ℕ) (run : Course) (rule : VisitRule) (vs : List Visit) (c n : ℕ) → AreVisits limit run rule vs c → rule vs c ≡ is → (is ≡ false → Some n ≡ None) → 1 ≤ n → c + n ≤ limit
    → GoesPlain n (run c) → AreVisits limit run rule (with_landing is c (Some n) vs) (c + n)
AreVisits-jump true limit run rule vs c n x m z p q g = (x, (m, ((p, (q, g)), (omega arith, HasNoVisit-none (rule (with_landing true c (Some n) vs)) (c + n)))))
AreVisits-jump false limit run rule vs c n x m z p q g = let w = z refl in cc

-- a run that is where a state stands is at a visit where that state is
pub goes_on_at-on : (target : Option ℕ) (p : Progress) (r : Position) (s : State) → r.state ≡ s → p ≡ On r → goes_on_at target p ≡ is_at target s
goes_on_at-on target p r s e h = ap (goes_on_at target) h ∙ ap (is_at target) e

pub goes_on_at-off : (target : Option ℕ) (p : Progress) → IsOff p → goes_on_at target p ≡ false
goes_on_at-off target (On position) x = absurd x
goes_on_at-off target (Off count ended last) x = refl

pub GoesPlain-on : (n : ℕ) (p : Progress) (r : Position) (s t : State) → r.state ≡ s → p ≡ On r → plain n s ≡ Went t → GoesPlain n p
GoesPlain-on n p r s t e h g = subst (GoesPlain n) (sym h) (t, ap (plain n) e ∙ g)

-- ---- the replies determine the visits
-- the newest landing, and 0 before the first visit
unfoldable pub floor : List Visit → ℕ
floor [] = 0
floor (v ∷ vs) = landing v

pub floor_of : (limit : ℕ) (run : Course) (rule : VisitRule) (vs : List Visit) (a : ℕ) → AreVisits limit run rule vs a → (floor vs ≤ a) × HasNoVisit (rule vs) (floor vs) a
unfolding floor
floor_of limit run rule [] a x = (omega arith, x)
floor_of limit run rule (v ∷ vs) a x = (x.1.1.1.0, x.1.1.1.1)

pub same_at : (rule : ℕ → Bool) (f a b : ℕ) → f ≤ a → HasNoVisit rule f b → rule a ≡ true → b ≤ a
same_at rule f a b l n m = elim (cases_lt a b) [ inl x ↦ absurd (false≢true (sym (n a l x) ∙ m)) | inr x ↦ x ]

pub same_visit : (v u : Visit) → v.at ≡ u.at → v.reply ≡ u.reply → v ≡ u
same_visit v u p q = ap (λ x. let y : Visit = record { at = x; reply = v.reply } in y) p ∙ ap (λ x. let y : Visit = record { at = u.at; reply = x } in y) q

no_push : (xs : List (Option ℕ)) (x : Option ℕ) → [] ≡ xs ++ x ∷ [] → ⊥
no_push xs x e = let l : 0 ≡ length xs + 1 = ap length e ∙ length_push xs x in omega arith

pub replies_determine_visits : RepliesDetermineVisits
replies_determine_visits limit run rule [] [] a b x y e = refl
replies_determine_visits limit run rule [] (u ∷ us) a b x y e = absurd (no_push (replies_of us) u.reply e)
replies_determine_visits limit run rule (v ∷ vs) [] a b x y e = absurd (no_push (replies_of vs) v.reply (sym e))
replies_determine_visits limit run rule (v ∷ vs) (u ∷ us) a b x y e =
    let p = same_from_push (replies_of vs) (replies_of us) v.reply u.reply e in
    let i : vs ≡ us = replies_determine_visits limit run rule vs us v.at u.at x.0 y.0 p.0 in
    let g = floor_of limit run rule vs v.at x.0 in
    let h = floor_of limit run rule us u.at y.0 in
    let f : floor vs ≡ floor us = ap floor i in
    let l : v.at ≤ u.at = same_at (rule vs) (floor vs) u.at v.at (omega (arith, f, h.0)) g.1 (subst (λ z. rule z u.at ≡ true) (sym i) y.1.0) in
    let r : u.at ≤ v.at = same_at (rule us) (floor us) v.at u.at (omega (arith, f, g.0)) h.1 (subst (λ z. rule z v.at ≡ true) i x.1.0) in
    let q : v.at ≡ u.at = omega arith in
    ap (λ z. z ∷ vs) (same_visit v u q p.1) ∙ ap (λ z. u ∷ z) i
