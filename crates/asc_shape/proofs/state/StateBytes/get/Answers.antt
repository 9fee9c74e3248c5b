use Rattle.std.proofs.Common.{sym, refl}
use Rattle.asc_shape.specs.Face.{Untold}
use Rattle.asc_shape.proofs.Faces.{read_untold}
use Rattle.asc_shape.proofs.state.StateBytes.get.Goals as goal

pub returns-clause-face : goal.returns-clause-face
returns-clause-face c = sym (read_untold (record { state = c.args.self.now; marks = Untold }) c.args.place refl)
