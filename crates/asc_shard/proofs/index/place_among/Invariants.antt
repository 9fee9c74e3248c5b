use Rattle.std.proofs.Common.{◌≡◌, ◌-◌, ◌<◌, ◌≤◌, ℕ, false, map}
use Rattle.std.specs.Arc.{arc_value}
use Rattle.std.specs.Ordering.{is_lt}
use Rattle.std.specs.declared.cmp.Ordering.TheVariants.{Less}
use Rattle.asc_shard.specs.Inside.{by_all, sorted_in}
use Rattle.asc_shard.proofs.Slots.{nth}
use Rattle.asc_shard.proofs.index.place_among.Given as goal

abbrev pub invariant-loop-low : goal.invariant-loop-low
invariant-loop-low l = record {
  least : l.from ≤ l.low;
  range : l.low ≤ l.high;
  most : l.high ≤ l.end;
  before : (i : ℕ) → l.from ≤ i → i < l.low → by_all (nth (sorted_in (map arc_value l.entries) l.index) i) l.entry ≡ Less;
  rest : (i : ℕ) → l.high ≤ i → i < l.end → is_lt (by_all (nth (sorted_in (map arc_value l.entries) l.index) i) l.entry) ≡ false;
}

abbrev pub decreases-loop-low : goal.decreases-loop-low
decreases-loop-low l = l.high - l.low
