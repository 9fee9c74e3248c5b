use Rattle.std.proofs.Common.{sym, ap, ◌∙◌, length, arith}
use Rattle.asc_save.proofs.Parsing.{cells_in-first}
use Rattle.asc_save.proofs.cells.CellsIterator.next.Goals as goal

pub returns-clause-steps : goal.returns-clause-steps
returns-clause-steps c = sym c.self.view_is ∙ cells_in-first c.self.inside.left c.word.result c.self.inside.rest.now c.if-self-eq0.false c.word.ensures

pub returns-clause-goes : goal.returns-clause-goes
returns-clause-goes c =
    record { on = λ _. (tt, tt, omega (arith, ap length (returns-clause-steps c))); keeps = tt; rests = λ _. tt }
