-- One cell more, and where all are.
use Rattle.std.proofs.Common.{refl, sym, ◌-◌, ◌<◌, subst, arith}
use Rattle.std.specs.Prelude.{All}
use Rattle.asc_model.specs.Shape.{length_of}
use Rattle.asc_inspect.proofs.Cells.{cells-more, cells-within}
use Rattle.asc_inspect.proofs.registers.cells_from.Goals as goal

pub loop-at-preserved : goal.loop-at-preserved
loop-at-preserved c = cells-more c.args.state.now c.args.place c.loop-at.at _ c.get.result c.loop-at.cells.items _ c.loop-at.invariant c.loop-at.auto.at c.get.ensures refl c.in_ok-push.ensures.items

pub returns-clause-places : goal.returns-clause-places
returns-clause-places c =
    let bound = length_of c.args.state.now.shape in
    let within = c.requires in let past = c.loop-at-test.false in let start = c.loop-at.auto.at in let end = c.loop-at.auto.at-end in
    subst (λ cells. All (λ cell. cell.0 < bound) cells) (sym c.loop-at.invariant) (cells-within c.args.state.now bound c.args.place (c.loop-at.at - c.args.place) (omega (arith, within, past, start, end)))
