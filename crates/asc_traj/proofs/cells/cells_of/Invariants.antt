-- The cells so far and those that are left are all.
use Rattle.std.proofs.Common.{◌≡◌, ◌++◌, ◌*◌, ◌-◌, ◌≤◌, length}
use Rattle.asc_traj.specs.Parts.{all_cells, cells_from}
use Rattle.asc_traj.proofs.cells.cells_of.Given as goal

abbrev pub invariant-loop-cell : goal.invariant-loop-cell
invariant-loop-cell l = record {
  most : l.from ≤ 4 * length l.parts;
  all : l.cells.items ++ cells_from l.parts l.from ≡ all_cells l.parts;
}

abbrev pub decreases-loop-cell : goal.decreases-loop-cell
decreases-loop-cell l = 4 * length l.parts - l.from
