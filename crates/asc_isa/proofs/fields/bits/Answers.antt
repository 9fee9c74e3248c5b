use Rattle.asc_isa.proofs.Words.{and-shr}
use Rattle.asc_isa.proofs.fields.bits.Goals as goal

pub returns : goal.returns
returns c = and-shr _ _ _ c.requires.n
