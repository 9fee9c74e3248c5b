-- The oldest entry stands here or behind.
use Rattle.std.proofs.Common.{◌≡◌, ◌-◌, ◌<◌, ◌≤◌, ℕ, get_or}
use Rattle.asc_shard.specs.Inside.{positions_of}
use Rattle.asc_shard.proofs.index.place_of_oldest.Given as goal

abbrev pub invariant-loop-at : goal.invariant-loop-at
invariant-loop-at l = record {
  least : l.low ≤ l.at;
  there : (k : ℕ) × (l.at ≤ k) × (k < l.high) × (get_or (positions_of l.index) k 0 ≡ 0);
}

abbrev pub decreases-loop-at : goal.decreases-loop-at
decreases-loop-at l = l.high - l.at
