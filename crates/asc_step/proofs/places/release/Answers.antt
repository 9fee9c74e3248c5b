use Rattle.asc_step.proofs.Touches.{puts_one_byte}
use Rattle.asc_step.proofs.places.release.Goals as goal

pub returns : goal.returns
returns g c = puts_one_byte _ _ 132 0 c.put.ensures.face
