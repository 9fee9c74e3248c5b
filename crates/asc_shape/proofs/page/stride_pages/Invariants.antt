use Rattle.std.proofs.Common.{◌≡◌, ◌/◌, ◌<◌, ◌≤◌, ℕ, length, slice_index}
use Rattle.asc_shape.specs.Stride.{strided_byte}
use Rattle.asc_shape.proofs.page.stride_pages.Given as goal

-- the pages so far are strided, and the others are as they were
abbrev pub invariant-loop-p : goal.invariant-loop-p
invariant-loop-p l = record {
  size : length l.bytes ≡ length l.fn.bytes;
  done : (i : ℕ) → i / 1024 < l.p → i < length l.fn.bytes → slice_index l.bytes i ≡ strided_byte l.ahead l.fn.bytes l.pages i;
  left : (i : ℕ) → l.p ≤ i / 1024 → slice_index l.bytes i ≡ slice_index l.fn.bytes i;
}
