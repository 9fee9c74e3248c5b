use Rattle.std.proofs.Common.{◌++◌, List, ℕ, ◌∙◌, ap, arith}
use Rattle.asc_traj.specs.Parts.{cells_from}
use Rattle.asc_traj.proofs.Parts.{cells-all}
use Rattle.asc_traj.proofs.cells.cells_of.Goals as goal

pub loop-cell-init : goal.loop-cell-init
loop-cell-init c = record {
  most = omega arith;
  all = ap (λ (list : List (ℕ × ℕ)). list ++ cells_from c.args.parts.now 0) c.new-cells.ensures.items ∙ cells-all c.args.parts.now;
}
