use Rattle.std.proofs.Common.{◌≡◌, ◌+◌, ◌-◌, ◌*◌, ◌≤◌, length}
use Rattle.asc_traj.specs.Parts.{all_cells, cells_from}
use Rattle.asc_save.proofs.writing.cell_count.Given as goal

abbrev pub invariant-loop-cell : goal.invariant-loop-cell
invariant-loop-cell l = record {
  from : l.from ≤ 4 * length l.parts;
  left : l.count + length (cells_from l.parts l.from) ≡ length (all_cells l.parts);
}

abbrev pub decreases-loop-cell : goal.decreases-loop-cell
decreases-loop-cell l = 4 * length l.parts - l.from
