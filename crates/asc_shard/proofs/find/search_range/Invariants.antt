use Rattle.std.proofs.Common.{◌≡◌, ◌-◌, ◌≤◌, List, map}
use Rattle.std.specs.Prelude.{sum_by}
use Rattle.std.specs.Arc.{arc_value}
use Rattle.asc_shard.specs.Groups.{AreAsked, Asked}
use Rattle.asc_shard.specs.Inside.{IsBest, IsMost, raised, sorted_in}
use Rattle.asc_shard.proofs.Ranges.{AreBefore}
use Rattle.asc_shard.proofs.find.search_range.Given as goal

abbrev pub invariant-loop-from : goal.invariant-loop-from
invariant-loop-from g l = record {
  least : l.low ≤ l.from;
  most : l.from ≤ l.high;
  best : IsBest (map arc_value l.entries) l.state l.left l.now.position l.now.steps;
  found : IsMost (sorted_in (map arc_value l.entries) l.index) l.state l.left l.low l.from l.now.steps;
  rises : l.fn.best.steps ≤ l.now.steps;
  probes : (asked : List Asked) × AreAsked (map arc_value l.entries) l.state asked
      × AreBefore (sorted_in (map arc_value l.entries) l.index) l.low l.from l.high asked
      × (g.P.Probes.count l.probes ≡ raised g.P.Probes.more (sum_by (λ a. a.probes) asked) (g.P.Probes.count l.fn.probes));
}

abbrev pub decreases-loop-from : goal.decreases-loop-from
decreases-loop-from g l = l.high - l.from
