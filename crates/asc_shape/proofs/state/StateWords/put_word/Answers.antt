use Rattle.std.proofs.Common.{sym, refl, ap, ◌∙◌}
use Rattle.asc_model.specs.Number.{bytes_of}
use Rattle.asc_model.specs.State.{State}
use Rattle.asc_model.specs.Places.{cells}
use Rattle.asc_shape.specs.Face.{Face, Untold}
use Rattle.asc_shape.proofs.Faces.{puts_untold}
use Rattle.asc_shape.proofs.state.StateWords.put_word.Goals as goal

pub returns : goal.returns
returns c =
    let face : State → Face = λ s. record { state = s; marks = Untold } in
    record { face = ap face c.set_word.ensures ∙ sym (puts_untold (face c.args.self.now) (cells c.args.place (bytes_of 4 c.args.word)) refl) }
