use Rattle.asc_step.proofs.Touches.{state_after_reads}
use Rattle.asc_step.proofs.places.read_word.Goals as goal

pub returns-clause-state : goal.returns-clause-state
returns-clause-state g c = state_after_reads _ _ _ c.get_word.ensures.face
