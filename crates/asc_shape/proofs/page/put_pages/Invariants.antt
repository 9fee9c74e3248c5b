use Rattle.std.proofs.Common.{◌≡◌, ◌/◌, ◌<◌, ℕ, length, slice_index}
use Rattle.asc_shape.proofs.page.put_pages.Given as goal

-- the pages so far were put
abbrev pub invariant-loop-p : goal.invariant-loop-p
invariant-loop-p l = record {
  size : length l.bytes ≡ length l.fn.bytes;
  done : (i : ℕ) → i / 1024 < l.p → i < length l.fn.bytes → slice_index l.bytes i ≡ slice_index l.pages i;
}
