use Rattle.asc_model.proofs.Entries.{entries_are_true}
use Rattle.asc_model.proofs.laws.entries_are_true.Goals as goal

pub returns : goal.returns
returns c = entries_are_true
