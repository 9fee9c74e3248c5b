use Rattle.asc_depvec.proofs.Dependencies as proofs
use Rattle.asc_depvec.proofs.laws.statuses_follow.Goals as goal

pub returns : goal.returns
returns c = proofs.statuses_follow
