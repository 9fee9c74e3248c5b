use Rattle.asc_model.proofs.LawsHold.{views_determine_states}
use Rattle.asc_model.proofs.laws.views_determine_states.Goals as goal

pub returns : goal.returns
returns c = views_determine_states
