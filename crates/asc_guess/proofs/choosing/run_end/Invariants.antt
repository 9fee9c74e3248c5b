use Rattle.std.proofs.Common.{◌≡◌, ℕ, ◌<◌, ◌≤◌, slice_index_or}
use Rattle.asc_guess.proofs.choosing.run_end.Given as goal

abbrev pub invariant-loop-to : goal.invariant-loop-to
invariant-loop-to l = (k : ℕ) (d : ℕ × ℕ) → l.from ≤ k → k < l.to
    → (slice_index_or l.visits k d).0 ≡ (slice_index_or l.visits l.from d).0
