use Rattle.std.proofs.Common.{◌≡◌, ◌/◌, ◌≤◌, ℕ, true, false, length, slice_index_or}
use Rattle.asc_shape.proofs.state.add_pages.Given as goal

abbrev pub invariant-loop-p : goal.invariant-loop-p
invariant-loop-p l = record {
  size : length l.changed ≡ length l.fn.changed;
  others : (i : ℕ) → slice_index_or l.changed (i / 1024) true ≡ false → slice_index_or l.fn.changed (i / 1024) true ≡ false;
  within : (i : ℕ) → 136 ≤ i → slice_index_or l.changed (i / 1024) true ≡ false → l.from / 1024 ≤ i / 1024 → l.p ≤ i / 1024;
}
