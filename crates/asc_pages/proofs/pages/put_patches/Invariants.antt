use Rattle.std.proofs.Common.{◌<◌, ℕ, length, slice_index}
use Rattle.asc_pages.specs.Pages.{IsPage, page_in}
use Rattle.asc_pages.proofs.pages.put_patches.Given as goal

-- the pages so far
abbrev pub invariant-loop-k : goal.invariant-loop-k
invariant-loop-k l =
    (k : ℕ) → k < l.k → k < length l.patched → IsPage l.bytes (slice_index l.patched k) (page_in l.patches k)
