use Rattle.std.proofs.Common.{◌≢◌, ◌/◌, ◌<◌, ℕ, slice_index}
use Rattle.asc_pages.proofs.pages.used_pages.Given as goal

-- no page so far lies in the group
abbrev pub invariant-loop-p : goal.invariant-loop-p
invariant-loop-p l = (j : ℕ) → j < l.p-index → slice_index l.patched j / 32 ≢ l.g
