use Rattle.asc_model.proofs.Decodes.{decode_is_the_table}
use Rattle.asc_model.proofs.laws.decode_is_the_table.Goals as goal

pub returns : goal.returns
returns c = decode_is_the_table
