use Rattle.asc_depvec.proofs.Starts as proofs
use Rattle.asc_depvec.proofs.laws.starts_are_told.Goals as goal

pub returns : goal.returns
returns c = proofs.starts_are_told
