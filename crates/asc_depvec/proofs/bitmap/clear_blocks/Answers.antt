use Rattle.asc_depvec.proofs.Bits.{left-cleared}
use Rattle.asc_depvec.proofs.bitmap.clear_blocks.Goals as goal

pub loop-block-preserved : goal.loop-block-preserved
loop-block-preserved c =
    left-cleared c.loop-block.blocks c.args.found.now c.loop-block.block-index (record { first = 0; bits = 0 }) c.loop-block-test.true c.loop-block.invariant
