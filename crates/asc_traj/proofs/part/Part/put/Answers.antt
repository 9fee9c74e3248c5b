use Rattle.std.proofs.Common.{ℕ, ◌*◌, ◌/◌, ◌∙◌, List, sym, ap, arith}
use Rattle.std.proofs.lemmas.Bool.Decides.{nat_tests}
use Rattle.std.proofs.lemmas.Grind.{common_steps}
use Rattle.asc_model.specs.Places.{bytes_after}
use Rattle.asc_traj.specs.Parts.{masked}
use Rattle.asc_traj.proofs.Parts.{masked-whole, part_cells-is}
use Rattle.asc_traj.proofs.part.Part.put.Goals as goal

pub returns-then-self-eq15 : goal.returns-then-self-eq15
returns-then-self-eq15 c = grind (arith, common_steps, nat_tests, masked-whole, part_cells-is)

pub returns-else-self-eq15 : goal.returns-else-self-eq15
returns-else-self-eq15 c = grind (arith, common_steps, nat_tests, part_cells-is)
