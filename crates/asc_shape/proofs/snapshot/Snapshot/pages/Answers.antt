use Rattle.asc_shape.proofs.Snapshots.{pages_tell}
use Rattle.asc_shape.proofs.snapshot.Snapshot.pages.Goals as goal

pub returns : goal.returns
returns c = pages_tell c.args.self.now c.self.inside.shape c.self.inside.front c.self.inside.pages c.self.view_is
