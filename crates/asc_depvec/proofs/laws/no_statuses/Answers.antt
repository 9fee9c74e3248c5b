use Rattle.asc_depvec.proofs.Dependencies as proofs
use Rattle.asc_depvec.proofs.laws.no_statuses.Goals as goal

pub returns : goal.returns
returns c = proofs.no_statuses
