use Rattle.asc_model.proofs.Rows.{rows_differ}
use Rattle.asc_model.proofs.laws.rows_differ.Goals as goal

pub returns : goal.returns
returns c = rows_differ
