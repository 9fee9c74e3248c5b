-- So many words are passed over.
use Rattle.std.proofs.Common.{◌≡◌, ◌-◌, ◌≤◌, length, drop}
use Rattle.std.specs.Ordering.{nat_cmp}
use Rattle.std.specs.Cmp.Lexicographic.{slice_cmp}
use Rattle.asc_traj.specs.Parts.{all_cells}
use Rattle.asc_shard.specs.Inside.{bytes_at, bytes_of}
use Rattle.asc_shard.proofs.order.count_alike.Given as goal

abbrev pub invariant-loop-i : goal.invariant-loop-i
invariant-loop-i l = record {
  most : l.i ≤ length l.parts;
  rest : slice_cmp nat_cmp (bytes_of (all_cells l.parts)) (bytes_at l.state (all_cells l.parts)) ≡ slice_cmp nat_cmp (bytes_of (all_cells (drop l.i l.parts))) (bytes_at l.state (all_cells (drop l.i l.parts)));
}

abbrev pub decreases-loop-i : goal.decreases-loop-i
decreases-loop-i l = length l.parts - l.i
