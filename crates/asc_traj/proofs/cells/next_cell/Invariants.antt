-- No place stands before the byte that is looked at.
use Rattle.std.proofs.Common.{◌≡◌, ◌*◌, ◌-◌, ◌≤◌, length}
use Rattle.asc_traj.specs.Parts.{cells_from}
use Rattle.asc_traj.proofs.cells.next_cell.Given as goal

abbrev pub invariant-loop-at : goal.invariant-loop-at
invariant-loop-at l = record {
  least : l.from ≤ l.at;
  most : l.at ≤ 4 * length l.parts;
  same : cells_from l.parts l.from ≡ cells_from l.parts l.at;
}

abbrev pub decreases-loop-at : goal.decreases-loop-at
decreases-loop-at l = 4 * length l.parts - l.at
