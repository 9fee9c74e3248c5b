-- So many places are passed over.
use Rattle.std.proofs.Common.{◌≡◌, ◌*◌, ◌-◌, ◌≤◌, length}
use Rattle.std.specs.Ordering.{nat_cmp}
use Rattle.std.specs.Cmp.Lexicographic.{slice_cmp}
use Rattle.asc_traj.specs.Parts.{cells_from}
use Rattle.asc_shard.specs.Inside.{bytes_of}
use Rattle.asc_shard.proofs.order.compare_bytes_from.Given as goal

abbrev pub invariant-loop-first : goal.invariant-loop-first
invariant-loop-first l = record {
  first : l.at ≤ 4 * length l.a;
  second : l.other ≤ 4 * length l.b;
  rest : slice_cmp nat_cmp (bytes_of (cells_from l.a l.from)) (bytes_of (cells_from l.b l.from)) ≡ slice_cmp nat_cmp (bytes_of (cells_from l.a l.at)) (bytes_of (cells_from l.b l.other));
}

abbrev pub decreases-loop-first : goal.decreases-loop-first
decreases-loop-first l = 4 * length l.a - l.at
