use Rattle.asc_depvec.proofs.UndoneReads as proofs
use Rattle.asc_depvec.proofs.laws.reads_are_undone.Goals as goal

pub returns : goal.returns
returns c = proofs.reads_are_undone
