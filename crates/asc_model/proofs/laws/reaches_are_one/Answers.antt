use Rattle.asc_model.proofs.Reaches.{reaches_are_one}
use Rattle.asc_model.proofs.laws.reaches_are_one.Goals as goal

pub returns : goal.returns
returns c = reaches_are_one
