-- The cells of so many parts are counted.
use Rattle.std.proofs.Common.{◌≡◌, length, take}
use Rattle.asc_traj.specs.Parts.{all_cells}
use Rattle.asc_traj.proofs.join.count.Given as goal

abbrev pub invariant-loop-part : goal.invariant-loop-part
invariant-loop-part l = l.cells ≡ length (all_cells (take l.part-index l.parts))
