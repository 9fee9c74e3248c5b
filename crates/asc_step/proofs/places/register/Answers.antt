use Rattle.asc_step.proofs.Touches.{state_after_reads}
use Rattle.asc_step.proofs.places.register.Goals as goal

pub returns-else-k-eq0-clause-state : goal.returns-else-k-eq0-clause-state
returns-else-k-eq0-clause-state g c = state_after_reads _ _ _ c.read_settled.ensures.face
