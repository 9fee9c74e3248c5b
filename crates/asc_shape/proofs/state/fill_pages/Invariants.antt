use Rattle.std.proofs.Common.{◌≡◌, ◌/◌, ◌<◌, ◌≤◌, ℕ, length, slice_index}
use Rattle.asc_shape.proofs.state.fill_pages.Given as goal

-- the pages so far are blank behind the front, and the others are as they were
abbrev pub invariant-loop-p : goal.invariant-loop-p
invariant-loop-p l = record {
  size : length l.bytes ≡ length l.fn.bytes;
  done : (i : ℕ) → 136 ≤ i → i / 1024 < l.p → slice_index l.bytes i ≡ 0;
  left : (i : ℕ) → l.p ≤ i / 1024 → slice_index l.bytes i ≡ slice_index l.fn.bytes i;
}
