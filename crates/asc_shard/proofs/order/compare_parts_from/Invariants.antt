-- So many places are passed over.
use Rattle.std.proofs.Common.{◌≡◌, ◌*◌, ◌-◌, ◌<◌, ◌≤◌, length}
use Rattle.std.specs.Prelude.{All}
use Rattle.std.specs.Ordering.{nat_cmp}
use Rattle.std.specs.Cmp.Lexicographic.{slice_cmp}
use Rattle.asc_model.specs.Shape.{length_of}
use Rattle.asc_traj.specs.Parts.{cells_from}
use Rattle.asc_shard.specs.Inside.{bytes_at, bytes_of}
use Rattle.asc_shard.proofs.order.compare_parts_from.Given as goal

abbrev pub invariant-loop-cell : goal.invariant-loop-cell
invariant-loop-cell l = record {
  most : l.at ≤ 4 * length l.parts;
  within : All (λ cell. cell.0 < length_of l.state.shape) (cells_from l.parts l.at);
  rest : slice_cmp nat_cmp (bytes_of (cells_from l.parts l.from)) (bytes_at l.state (cells_from l.parts l.from)) ≡ slice_cmp nat_cmp (bytes_of (cells_from l.parts l.at)) (bytes_at l.state (cells_from l.parts l.at));
}

abbrev pub decreases-loop-cell : goal.decreases-loop-cell
decreases-loop-cell l = 4 * length l.parts - l.at
