use Rattle.std.proofs.Common.{◌≡◌, List, take, map}
use Rattle.std.specs.Prelude.{All, sum_by}
use Rattle.std.specs.Arc.{arc_value}
use Rattle.asc_shard.specs.Groups.{AreAsked, Asked}
use Rattle.asc_shard.specs.Inside.{IsBest, IsFrom, IsMost, raised, sorted_in, total}
use Rattle.asc_shard.proofs.find.search_lists.Given as goal

abbrev pub invariant-loop-head : goal.invariant-loop-head
invariant-loop-head g l = record {
  from : l.from ≡ total (take l.head-index l.index.heads.items);
  best : IsBest (map arc_value l.entries) l.state l.left l.best.position l.best.steps;
  found : IsMost (sorted_in (map arc_value l.entries) l.index) l.state l.left 0 l.from l.best.steps;
  probes : (asked : List Asked) × AreAsked (map arc_value l.entries) l.state asked
      × All (λ a. IsFrom (sorted_in (map arc_value l.entries) l.index) 0 l.from a.entry) asked
      × (g.P.Probes.count l.probes ≡ raised g.P.Probes.more (sum_by (λ a. a.probes) asked) (g.P.Probes.count l.fn.probes));
}
