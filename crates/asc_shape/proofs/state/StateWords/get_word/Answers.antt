use Rattle.std.proofs.Common.{sym, refl}
use Rattle.asc_model.specs.Places.{places_from}
use Rattle.asc_shape.specs.Face.{Untold}
use Rattle.asc_shape.proofs.Faces.{reads_untold}
use Rattle.asc_shape.proofs.state.StateWords.get_word.Goals as goal

pub returns-clause-face : goal.returns-clause-face
returns-clause-face c = sym (reads_untold (record { state = c.args.self.now; marks = Untold }) (places_from c.args.place 4) refl)
