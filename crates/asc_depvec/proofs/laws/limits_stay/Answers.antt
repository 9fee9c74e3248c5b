use Rattle.asc_depvec.proofs.Limits as proofs
use Rattle.asc_depvec.proofs.laws.limits_stay.Goals as goal

pub returns : goal.returns
returns c = proofs.limits_stay
