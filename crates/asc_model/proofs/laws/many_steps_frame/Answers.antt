use Rattle.asc_model.proofs.Frames.{many_steps_frame}
use Rattle.asc_model.proofs.laws.many_steps_frame.Goals as goal

pub returns : goal.returns
returns c = many_steps_frame
