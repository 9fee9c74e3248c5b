-- What the trace of a lap is.
use Rattle.std.proofs.Common.{◌≡◌, ℕ, Bool, true, false, Some, refl, sym, ap, ◌∙◌, subst, arith}
use Rattle.asc_model.specs.declared.why.Why.{Why}
use Rattle.asc_model.specs.State.{State}
use Rattle.asc_model.specs.Entry.{Entry, entry_of}
use Rattle.asc_model.specs.Reach.{Bounds, IsReach}
use Rattle.asc_traj.specs.Trace.{CountsAnswer, is_stopped}
use Rattle.asc_traj.specs.Trace.{guess_bounds}

-- what never halts does not stop a trace
never-stops : (stopped : Bool) → CountsAnswer 0 0 stopped → stopped ≡ false
never-stops false h = refl
never-stops true h = let e : 0 ≡ 1 = h.rose refl in absurd (let x : ⊥ = omega (arith, e) in x)

abbrev bounds : (pc laps span cap : ℕ) → Bounds
bounds pc laps span cap = record { pc = pc; laps = laps; span = span; cap = cap }

pub lap-reach : (pc laps span cap n : ℕ) (start s : State) (why : Why) → (is_stopped why ≡ false → IsReach (bounds pc laps span cap) start n why) → CountsAnswer 0 0 (is_stopped why) → cap ≡ 4096 → start ≡ s
    → IsReach (guess_bounds pc laps span) s n why
lap-reach pc laps span cap n start s why reach halt cap_is same =
    subst (λ k. IsReach (bounds pc laps span k) s n why) cap_is
    (subst (λ x. IsReach (bounds pc laps span cap) x n why) same (reach (never-stops (is_stopped why) halt)))

pub lap-entry : (n : ℕ) (start s : State) (e : Entry) → start ≡ s → entry_of n start ≡ Some e → entry_of n s ≡ Some e
lap-entry n start s e same is = ap (entry_of n) (sym same) ∙ is
