use Rattle.asc_model.proofs.Frames.{one_step_frame}
use Rattle.asc_model.proofs.laws.one_step_frame.Goals as goal

pub returns : goal.returns
returns c = one_step_frame
