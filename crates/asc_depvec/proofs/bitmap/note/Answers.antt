use Rattle.asc_depvec.proofs.Bits.{has-already}
use Rattle.asc_depvec.proofs.bitmap.note.Goals as goal

pub returns-then-before-ne0-clause-bits : goal.returns-then-before-ne0-clause-bits
returns-then-before-ne0-clause-bits c = λ other. has-already c.args.groups.now c.args.block other (c.requires.had (λ e. c.if-before-ne0.true e))
