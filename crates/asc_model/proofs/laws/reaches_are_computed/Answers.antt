use Rattle.asc_model.proofs.Computing.{reaches_are_computed}
use Rattle.asc_model.proofs.laws.reaches_are_computed.Goals as goal

pub returns : goal.returns
returns c = reaches_are_computed
