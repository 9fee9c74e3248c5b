use Rattle.std.proofs.Common.{arith}
use lib.Count.{ones-le}
use Rattle.asc_depvec.proofs.bitmap.ones.Goals as goal

pub returns-clause-most : goal.returns-clause-most
returns-clause-most c = ones-le 64 c.args.bits (omega (arith, c.ranges.bits))
