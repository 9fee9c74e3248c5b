use Rattle.std.proofs.Common.{take, get_or, sym, ap, ◌∙◌, arith}
use Rattle.std.proofs.lemmas.List.{take_more}
use Rattle.std.proofs.lemmas.Bool.Decides.{nat_tests}
use Rattle.std.proofs.lemmas.Grind.{common_steps}
use Rattle.asc_model.specs.State.{State}
use Rattle.asc_model.specs.Places.{bytes_after}
use Rattle.asc_model.proofs.Numbers.{bytes_after-append}
use Rattle.asc_traj.specs.Parts.{all_cells, part_cells}
use Rattle.asc_traj.proofs.Parts.{cells-push, part}
use Rattle.asc_traj.proofs.entry.put_parts.Goals as goal

pub loop-part-preserved : goal.loop-part-preserved
loop-part-preserved c = grind (arith, common_steps, nat_tests, bytes_after-append, cells-push, part, take_more)
