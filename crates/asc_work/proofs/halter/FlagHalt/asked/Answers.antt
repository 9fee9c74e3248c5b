use Rattle.std.proofs.Common.{rules}
use Rattle.asc_work.proofs.HaltSteps.{loads}
use Rattle.asc_work.proofs.halter.FlagHalt.asked.Goals as goal

pub load-requires : goal.load-requires
load-requires c = (search rules, search rules, loads _ _ _)
