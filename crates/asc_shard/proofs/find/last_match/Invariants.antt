use Rattle.std.proofs.Common.{◌≡◌, ◌-◌, ℕ, map}
use Rattle.std.specs.Arc.{arc_value}
use Rattle.asc_shard.specs.Inside.{raised, sorted_in}
use Rattle.asc_shard.proofs.Matching.{IsSought, HasHalved}
use Rattle.asc_shard.proofs.find.last_match.Given as goal

abbrev pub invariant-loop-low : goal.invariant-loop-low
invariant-loop-low g l = record {
  sought : IsSought (sorted_in (map arc_value l.entries) l.index) l.state l.left l.from l.end l.low l.high l.best;
  probes : (times : ℕ) × HasHalved times (l.high - l.low) (l.end - l.from) × (g.P.Probes.count l.probes ≡ raised g.P.Probes.more times (g.P.Probes.count l.fn.probes));
}

abbrev pub decreases-loop-low : goal.decreases-loop-low
decreases-loop-low g l = l.high - l.low
