-- The words below one are merged, and it is the first of which something is left.
use Rattle.std.proofs.Common.{◌≡◌, ◌-◌, ◌^◌}
use Rattle.asc_traj.proofs.Merging.{IsMerging, next_of_all}
use Rattle.asc_traj.proofs.join.join_halves.Given as goal

abbrev pub invariant-loop-index : goal.invariant-loop-index
invariant-loop-index l = record {
  index : l.index ≡ next_of_all l.a_reads l.a_writes l.b_reads l.b_writes;
  way : IsMerging l.fn.a l.fn.b l.index l.a_reads l.a_writes l.b_reads l.b_writes l.joined;
}

abbrev pub decreases-loop-index : goal.decreases-loop-index
decreases-loop-index l = 2 ^ 28 - l.index
