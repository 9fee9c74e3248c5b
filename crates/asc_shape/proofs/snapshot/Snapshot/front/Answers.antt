use Rattle.std.proofs.Common.{arith}
use Rattle.asc_shape.proofs.Snapshots.{front_tells}
use Rattle.asc_shape.proofs.snapshot.Snapshot.front.Goals as goal

pub returns-clause-front : goal.returns-clause-front
returns-clause-front c i below =
    front_tells c.args.self.now c.self.inside.shape c.self.inside.front c.self.inside.pages c.self.view_is i (omega (arith, below, c.self.invariant.shape.size.least)) below
