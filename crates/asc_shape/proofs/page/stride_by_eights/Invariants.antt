use Rattle.std.proofs.Common.{◌≡◌, ◌<◌, ◌≤◌, ◌*◌, ℕ, slice_index}
use Rattle.asc_shape.specs.Stride.{strided_byte}
use Rattle.asc_shape.proofs.page.stride_by_eights.Given as goal

-- the eights so far are strided, and the other words are as they were
abbrev pub invariant-loop-k : goal.invariant-loop-k
invariant-loop-k l = record {
  done : (i : ℕ) → i < 32 * l.k → slice_index l.words i ≡ strided_byte l.ahead l.fn.words l.prev i;
  left : (i : ℕ) → 32 * l.k ≤ i → slice_index l.words i ≡ slice_index l.fn.words i;
}
