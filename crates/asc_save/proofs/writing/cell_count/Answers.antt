use Rattle.std.proofs.Common.{length, ap, arith}
use Rattle.asc_traj.proofs.Parts.{cells-all}
use Rattle.asc_save.proofs.writing.cell_count.Goals as goal

pub loop-cell-init : goal.loop-cell-init
loop-cell-init c = record { from = omega arith; left = omega (arith, ap length (cells-all c.args.parts.now)) }
