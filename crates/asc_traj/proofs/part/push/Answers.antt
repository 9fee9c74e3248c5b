use Rattle.std.proofs.Common.{arith}
use Rattle.std.proofs.lemmas.List.Elements.{All-push}
use Rattle.std.proofs.lemmas.Bool.Decides.{nat_tests}
use Rattle.std.proofs.lemmas.Grind.{common_steps}
use Rattle.asc_traj.proofs.Parts.{cells-push, masked-none, part-cells, part-is}
use Rattle.asc_traj.proofs.part.push.Goals as goal

pub push_reserved-requires : goal.push_reserved-requires
push_reserved-requires c = c.requires.room (omega (arith, c.if-mask-ne0.true))

pub returns-then-mask-ne0-clause-none : goal.returns-then-mask-ne0-clause-none
returns-then-mask-ne0-clause-none c = λ none. absurd (c.if-mask-ne0.true none)

pub returns-then-mask-ne0-clause-parts : goal.returns-then-mask-ne0-clause-parts
returns-then-mask-ne0-clause-parts c = grind (arith, common_steps, nat_tests, All-push, part-is)

pub returns-then-mask-ne0-clause-cells : goal.returns-then-mask-ne0-clause-cells
returns-then-mask-ne0-clause-cells c = grind (arith, common_steps, nat_tests, cells-push, part-cells)

pub returns-else-mask-ne0-clause-cells : goal.returns-else-mask-ne0-clause-cells
returns-else-mask-ne0-clause-cells c = grind (arith, common_steps, nat_tests, masked-none)
