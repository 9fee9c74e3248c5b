-- The words below one are compared, and it is the first of which something is left.
use Rattle.std.proofs.Common.{◌≡◌, ◌-◌, ◌^◌}
use Rattle.asc_traj.specs.Joining.{next_of}
use Rattle.asc_traj.proofs.Merging.{IsTelling}
use Rattle.asc_traj.proofs.join.reads_agree.Given as goal

abbrev pub invariant-loop-index : goal.invariant-loop-index
invariant-loop-index l = record {
  index : l.index ≡ next_of l.a_reads l.a_writes l.b_reads;
  way : IsTelling l.fn.a l.fn.b l.index l.a_reads l.a_writes l.b_reads;
}

abbrev pub decreases-loop-index : goal.decreases-loop-index
decreases-loop-index l = 2 ^ 28 - l.index
