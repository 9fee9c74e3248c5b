use Rattle.asc_model.proofs.Touches.{state-TouchesPlaces}
use Rattle.asc_model.proofs.laws.steps_touch_places.Goals as goal

pub returns : goal.returns
returns c = state-TouchesPlaces
