use Rattle.std.proofs.Common.{◌≢◌, ◌<◌, ℕ, slice_index}
use Rattle.asc_pages.specs.DirtyPages.{IsUnlisted}
use Rattle.asc_pages.proofs.pages.list_patched.Given as goal

-- the base's pages are listed, and the changed ones so far
abbrev pub invariant-loop-p : goal.invariant-loop-p
invariant-loop-p l = record {
  first : (q : ℕ) → IsUnlisted l.patched q → IsUnlisted l.base.patched q;
  dirtied : (q : ℕ) → IsUnlisted l.patched q → (j : ℕ) → j < l.p-index → slice_index l.dirtied j ≢ q;
}
