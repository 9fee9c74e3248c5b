use Rattle.asc_model.proofs.Joins.{joins_are_true}
use Rattle.asc_model.proofs.laws.joins_are_true.Goals as goal

pub returns : goal.returns
returns c = joins_are_true
