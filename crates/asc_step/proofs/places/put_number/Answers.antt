use Rattle.asc_step.proofs.Touches.{puts_lowest}
use Rattle.asc_step.proofs.places.put_number.Goals as goal

pub returns-in-Byte : goal.returns-in-Byte
returns-in-Byte g c = rw c.in-Byte.is (puts_lowest _ _ _ c.args.value c.put.ensures.face)
