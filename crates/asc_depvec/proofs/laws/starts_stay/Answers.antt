use Rattle.asc_depvec.proofs.Starts as proofs
use Rattle.asc_depvec.proofs.laws.starts_stay.Goals as goal

pub returns : goal.returns
returns c = proofs.starts_stay
