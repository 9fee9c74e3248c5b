-- All that were passed over do not match.
use Rattle.std.proofs.Common.{◌≡◌, ◌-◌, ◌<◌, ◌≤◌, ℕ, false, map}
use Rattle.std.specs.Arc.{arc_value}
use Rattle.asc_traj.specs.Content.{matches}
use Rattle.asc_shard.specs.Inside.{sorted_in}
use Rattle.asc_shard.proofs.Slots.{nth}
use Rattle.asc_shard.proofs.find.next_like.Given as goal

abbrev pub invariant-loop-at : goal.invariant-loop-at
invariant-loop-at l = record {
  least : l.from ≤ l.at;
  most : l.at ≤ l.high;
  passed : (i : ℕ) → l.from ≤ i → i < l.at → matches l.state (nth (sorted_in (map arc_value l.entries) l.index) i) ≡ false;
}

abbrev pub decreases-loop-at : goal.decreases-loop-at
decreases-loop-at l = l.high - l.at
