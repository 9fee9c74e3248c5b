-- Blocks that are not 0 are still to come.
use Rattle.asc_depvec.proofs.Bits.{AreLeft}
use Rattle.asc_depvec.proofs.bitmap.clear.Given as goal

abbrev pub invariant-loop-block : goal.invariant-loop-block
invariant-loop-block l = AreLeft l.blocks l.fn.used 0 l.block-index
