use Rattle.std.proofs.Common.{◌≡◌, ◌*◌, ◌≤◌, length}
use Rattle.asc_model.specs.EntryFile.{are_same_cells}
use Rattle.asc_traj.specs.Parts.{all_cells, cells_from}
use Rattle.asc_save.proofs.trace.are_cells.Given as goal

abbrev pub invariant-loop-place : goal.invariant-loop-place
invariant-loop-place l = record {
  can : (goal.iterator-loop-place).can_next l.place-iterator;
  finite : (goal.iterator-loop-place).is_finite l.place-iterator;
  from : l.from ≤ 4 * length l.parts;
  left : are_same_cells (cells_from l.parts l.from) l.place-iterator ≡ are_same_cells (all_cells l.parts) l.fn.cells;
}
