-- So many heads have lower masks.
use Rattle.std.proofs.Common.{◌≡◌, ◌-◌, ◌<◌, ◌≤◌, ℕ, length, take}
use Rattle.asc_shard.specs.Inside.{mask_at, total}
use Rattle.asc_shard.proofs.heads.beginning_of.Given as goal

abbrev pub invariant-loop-head : goal.invariant-loop-head
invariant-loop-head l = record {
  most : l.head ≤ length l.heads;
  before : (h : ℕ) → h < l.head → mask_at l.heads h < l.mask;
  from : l.from ≡ total (take l.head l.heads);
}

abbrev pub decreases-loop-head : goal.decreases-loop-head
decreases-loop-head l = length l.heads - l.head
