use Rattle.asc_model.proofs.LawsHold.{steps_keep_states}
use Rattle.asc_model.proofs.laws.steps_keep_states.Goals as goal

pub returns : goal.returns
returns c = steps_keep_states
