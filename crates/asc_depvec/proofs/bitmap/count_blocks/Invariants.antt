-- The blocks of so many groups are counted.
use Rattle.std.proofs.Common.{◌≡◌, ◌*◌, ◌≤◌, take, slice_index}
use Rattle.std.specs.Prelude.{sum_by, count_ones}
use Rattle.asc_depvec.proofs.bitmap.count_blocks.Given as goal

abbrev pub invariant-loop-group : goal.invariant-loop-group
invariant-loop-group l = record {
  counted : l.count ≡ sum_by (λ group. count_ones (slice_index l.fn.groups group)) (take l.group-index l.fn.used);
  most : l.count ≤ 64 * l.group-index;
}
