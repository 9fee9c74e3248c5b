use Rattle.std.proofs.Common.{arith}
use Rattle.asc_depvec.proofs.Listed.{left_told}
use Rattle.asc_depvec.proofs.touched.Touched.room.Goals as goal

pub returns : goal.returns
returns c = omega (arith, left_told c.self.inside c.args.self.now c.self.view_is c.self.invariant)
