use Rattle.std.proofs.Common.{sym, arith}
use Rattle.asc_traj.proofs.Splits.{block-count, block_of}
use Rattle.asc_traj.proofs.entry.word_count.Goals as goal

pub returns : goal.returns
returns c = sym (block-count (block_of c.args.first c.args.bits) (omega (arith, c.ranges.bits)))
