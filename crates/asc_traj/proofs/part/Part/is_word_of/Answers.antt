use Rattle.std.proofs.Common.{◌≡◌, ◌%◌, ◌∙◌, sym, ap, arith}
use Rattle.std.proofs.lemmas.Bool.{eqb-true, eq-eqb}
use Rattle.std.proofs.lemmas.Bool.Decides.{nat_tests}
use Rattle.std.proofs.lemmas.Grind.{common_steps}
use Rattle.asc_model.specs.Number.{word_at}
use Rattle.asc_traj.specs.Parts.{kept, word_place}
use Rattle.asc_traj.proofs.Parts.{part-same}
use Rattle.asc_traj.proofs.part.Part.is_word_of.Goals as goal

pub returns : goal.returns
returns c same = grind (arith, common_steps, nat_tests, part-same)
