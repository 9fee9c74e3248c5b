use Rattle.asc_model.proofs.LawsHold.{step_writes_bytes}
use Rattle.asc_model.proofs.laws.step_writes_bytes.Goals as goal

pub returns : goal.returns
returns c = step_writes_bytes
