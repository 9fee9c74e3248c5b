use Rattle.std.proofs.Common.{◌≡◌, ◌⊎◌, ◌<◌, ◌≤◌, ◌*◌, ◌/◌, ℕ, length, slice_index}
use Rattle.asc_shape.specs.Stride.{strided_byte}
use Rattle.asc_shape.proofs.page.stride_rest.Given as goal

-- the words so far are strided, and the others are as they were
abbrev pub invariant-loop-k : goal.invariant-loop-k
invariant-loop-k l = record {
  low : length l.fn.words / 32 * 32 ≤ 4 * l.k;
  done : (i : ℕ) → length l.fn.words / 32 * 32 ≤ i → i < 4 * l.k → slice_index l.words i ≡ strided_byte l.ahead l.fn.words l.prev i;
  left : (i : ℕ) → (i < length l.fn.words / 32 * 32) ⊎ (4 * l.k ≤ i) → slice_index l.words i ≡ slice_index l.fn.words i;
}
