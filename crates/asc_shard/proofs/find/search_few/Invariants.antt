-- So many were compared, each once.
use Rattle.std.proofs.Common.{◌≡◌, ◌-◌, ◌≤◌, map}
use Rattle.std.specs.Arc.{arc_value}
use Rattle.asc_shard.specs.Inside.{IsBest, IsMost, raised, sorted_in}
use Rattle.asc_shard.proofs.find.search_few.Given as goal

abbrev pub invariant-loop-at : goal.invariant-loop-at
invariant-loop-at g l = record {
  least : l.low ≤ l.at;
  best : IsBest (map arc_value l.entries) l.state l.left l.now.position l.now.steps;
  most : IsMost (sorted_in (map arc_value l.entries) l.index) l.state l.left l.low l.at l.now.steps;
  rises : l.fn.best.steps ≤ l.now.steps;
  probes : g.P.Probes.count l.probes ≡ raised g.P.Probes.more (l.at - l.low) (g.P.Probes.count l.fn.probes);
}
