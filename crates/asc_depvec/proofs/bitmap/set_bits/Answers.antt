use Rattle.asc_depvec.proofs.Bits.{has-merged}
use Rattle.asc_depvec.proofs.bitmap.set_bits.Goals as goal

pub returns-then-bits-ne0-clause-bits : goal.returns-then-bits-ne0-clause-bits
returns-then-bits-ne0-clause-bits c = λ word. has-merged c.args.blocks.now c.args.block c.args.bits word (c.requires.within (λ e. c.if-bits-ne0.true e))
