use Rattle.asc_step.proofs.Touches.{state_after_reads, reads_one}
use Rattle.asc_step.proofs.places.read_number.Goals as goal

pub returns-in-Byte-clause-state : goal.returns-in-Byte-clause-state
returns-in-Byte-clause-state g c = state_after_reads _ _ _ (reads_one _ _ _ c.get.ensures.face)

pub returns-in-Byte-clause-face : goal.returns-in-Byte-clause-face
returns-in-Byte-clause-face g c = rw c.in-Byte.is (reads_one _ _ _ c.get.ensures.face)
