use Rattle.std.proofs.Common.{rules, arith}
use Rattle.asc_model.specs.EntryFile.{are_same_cells}
use Rattle.asc_traj.proofs.Parts.{cells-all}
use Rattle.asc_save.proofs.trace.are_cells.Goals as goal

pub loop-place-init : goal.loop-place-init
loop-place-init c =
    let gives = c.into_iter-place-iterator.ensures.into_iter_gives in
    let all = cells-all c.args.parts.now in
    record {
      can = search rules;
      finite = search rules;
      from = omega arith;
      left = λ i. are_same_cells (all i) (gives i);
    }
