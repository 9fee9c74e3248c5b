use Rattle.asc_model.proofs.LawsHold.{states_determine_views}
use Rattle.asc_model.proofs.laws.states_determine_views.Goals as goal

pub returns : goal.returns
returns c = states_determine_views
