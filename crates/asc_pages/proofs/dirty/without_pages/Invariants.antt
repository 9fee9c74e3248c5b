use Rattle.std.proofs.Common.{◌⊎◌, ◌/◌, ◌<◌, ◌≤◌, ℕ, slice_index}
use Rattle.asc_pages.proofs.dirty.without_pages.Given as goal

-- no page so far lies in the run
abbrev pub invariant-loop-p : goal.invariant-loop-p
invariant-loop-p l = record {
  order : l.run.0 ≤ l.run.1;
  least : l.from ≤ l.run.0;
  most : l.run.1 ≤ l.to;
  apart : (j : ℕ) → j < l.p-index → (slice_index l.pages j / 32 < l.run.0) ⊎ (l.run.1 ≤ slice_index l.pages j / 32);
}
