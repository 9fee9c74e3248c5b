-- Sublists, and tickets that count up.
use Rattle.std.proofs.Common.{◌≡◌, inl, inr, ℕ, ◌+◌, List, [], ◌∷◌, ◌++◌, length, sym, ap, subst, arith}
use Rattle.asc_jobs.specs.declared.job.Job.{Job}
use Rattle.asc_jobs.specs.JobRule.{CountUp}
use Rattle.asc_live.specs.Due.{IsSublist}

-- a sublist behind another one
pub IsSublist-append : {A : Type 0} → (a xs b ys : List A) → IsSublist a xs → IsSublist b ys → IsSublist (a ++ b) (xs ++ ys)
IsSublist-append a [] b ys p q = subst (λ l. IsSublist (l ++ b) ys) (sym p) q
IsSublist-append a (x ∷ xs) b ys (inl p) q = inl (IsSublist-append a xs b ys p q)
IsSublist-append a (x ∷ xs) b ys (inr p) q = inr (p.0 ++ b, ap (λ l. l ++ b) p.1, IsSublist-append p.0 xs b ys p.2 q)

-- tickets that count on
pub CountUp-append : (n : ℕ) (a b : List Job) → CountUp n a → CountUp (n + length a) b → CountUp n (a ++ b)
CountUp-append n [] b p q = subst (λ m. CountUp m b) (let e : n + 0 ≡ n = omega arith in e) q
CountUp-append n (x ∷ a) b p q = (p.0, CountUp-append (n + 1) a b p.1 (subst (λ m. CountUp m b) (let e : n + length (x ∷ a) ≡ (n + 1) + length a = omega arith in e) q))
