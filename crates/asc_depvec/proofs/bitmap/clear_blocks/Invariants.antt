-- Blocks that are not 0 are still to come.
use Rattle.std.proofs.Common.{◌/◌, map}
use Rattle.asc_depvec.proofs.Bits.{AreLeft}
use Rattle.asc_depvec.specs.declared.bitmap.Block.{Block}
use Rattle.asc_depvec.proofs.bitmap.clear_blocks.Given as goal

abbrev pub invariant-loop-block : goal.invariant-loop-block
invariant-loop-block l = AreLeft l.blocks (map (λ (block : Block). block.first / 64) l.fn.found) 0 l.block-index
