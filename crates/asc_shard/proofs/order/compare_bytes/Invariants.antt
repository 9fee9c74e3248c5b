-- So many words are passed over.
use Rattle.std.proofs.Common.{◌≡◌, ◌-◌, ◌≤◌, length, drop}
use Rattle.std.specs.Ordering.{nat_cmp}
use Rattle.std.specs.Cmp.Lexicographic.{slice_cmp}
use Rattle.asc_traj.specs.Parts.{all_cells}
use Rattle.asc_shard.specs.Inside.{bytes_of}
use Rattle.asc_shard.proofs.order.compare_bytes.Given as goal

abbrev pub invariant-loop-i : goal.invariant-loop-i
invariant-loop-i l = record {
  first : l.i ≤ length l.a;
  second : l.i ≤ length l.b;
  rest : slice_cmp nat_cmp (bytes_of (all_cells l.a)) (bytes_of (all_cells l.b)) ≡ slice_cmp nat_cmp (bytes_of (all_cells (drop l.i l.a))) (bytes_of (all_cells (drop l.i l.b)));
}

abbrev pub decreases-loop-i : goal.decreases-loop-i
decreases-loop-i l = length l.a - l.i
