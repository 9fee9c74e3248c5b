use Rattle.asc_model.proofs.PlainSteps.{plain_steps_join}
use Rattle.asc_model.proofs.laws.plain_steps_join.Goals as goal

pub returns : goal.returns
returns c = plain_steps_join
