use Rattle.std.proofs.Common.{◌≡◌, ◌-◌, ◌<◌, ◌≤◌, ℕ, map, get_or}
use Rattle.std.specs.Arc.{arc_value}
use Rattle.std.specs.declared.cmp.Ordering.TheVariants.{Less, Equal}
use Rattle.asc_shard.specs.Inside.{by_group, no_entry, sorted_in}
use Rattle.asc_shard.proofs.find.group_end.Given as goal

abbrev pub invariant-loop-low : goal.invariant-loop-low
invariant-loop-low l = record {
  some : l.from < l.low;
  range : l.low ≤ l.end;
  most : l.end ≤ l.high;
  same : (i : ℕ) → l.from ≤ i → i < l.low
      → by_group (get_or (sorted_in (map arc_value l.entries) l.index) l.from no_entry) (get_or (sorted_in (map arc_value l.entries) l.index) i no_entry) ≡ Equal;
  rest : (i : ℕ) → l.end ≤ i → i < l.high
      → by_group (get_or (sorted_in (map arc_value l.entries) l.index) l.from no_entry) (get_or (sorted_in (map arc_value l.entries) l.index) i no_entry) ≡ Less;
}

abbrev pub decreases-loop-low : goal.decreases-loop-low
decreases-loop-low l = l.end - l.low
