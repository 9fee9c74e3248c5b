use Rattle.std.proofs.Common.{get_or, arith}
use Rattle.std.proofs.lemmas.List.{take_more}
use Rattle.std.proofs.lemmas.List.Folds.{length-flat_map-take}
use Rattle.std.proofs.lemmas.Bool.Decides.{nat_tests}
use Rattle.std.proofs.lemmas.Grind.{common_steps}
use Rattle.asc_traj.specs.Parts.{part_cells}
use Rattle.asc_traj.proofs.Parts.{cells-push, part}
use Rattle.asc_traj.proofs.Taking.{part-count}
use Rattle.asc_traj.proofs.join.count.Goals as goal

pub overflow_add-cells : goal.overflow_add-cells
overflow_add-cells c =
    let parts = c.args.parts.now in
    let i = c.loop-part.part-index in
    omega (arith, length-flat_map-take part_cells parts i (part 0 0) c.loop-part-test.true, c.loop-part.invariant, c.bit_count-cells.ensures, part-count (get_or parts i (part 0 0)), c.requires)

pub loop-part-preserved : goal.loop-part-preserved
loop-part-preserved c = grind (arith, common_steps, nat_tests, cells-push, part, part-count, take_more)
