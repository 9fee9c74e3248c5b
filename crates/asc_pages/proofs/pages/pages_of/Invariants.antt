use Rattle.std.proofs.Common.{◌≡◌, ◌<◌, ◌+◌, ◌*◌, ℕ, None, length, slice_index_or}
use Rattle.asc_pages.specs.Pages.{IsPage, page_bytes}
use Rattle.asc_pages.proofs.pages.pages_of.Given as goal

-- the pages so far
abbrev pub invariant-loop-k : goal.invariant-loop-k
invariant-loop-k l = record {
  size : length l.pages.items ≡ l.used;
  each : (k : ℕ) → k < l.k → IsPage l.bytes (32 * l.g + k) (page_bytes (slice_index_or l.pages.items k None));
}
