use Rattle.asc_work.proofs.HaltSteps.{begins}
use Rattle.asc_work.proofs.halter.Halter.open.Goals as goal

pub of_words-requires : goal.of_words-requires
of_words-requires c = begins
