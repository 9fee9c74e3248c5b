use Rattle.asc_traj.proofs.Parts.{table-and}
use Rattle.asc_traj.proofs.part.kept.Goals as goal

pub returns : goal.returns
returns c = table-and c.args.mask c.args.word c.requires
