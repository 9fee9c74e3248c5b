use Rattle.std.proofs.Common.{sym, refl, ap, ◌∙◌}
use Rattle.asc_model.specs.State.{State}
use Rattle.asc_shape.specs.Face.{Face, Untold}
use Rattle.asc_shape.proofs.Faces.{put_untold}
use Rattle.asc_shape.proofs.state.StateBytes.put.Goals as goal

pub returns : goal.returns
returns c =
    let face : State → Face = λ s. record { state = s; marks = Untold } in
    record { face = ap face c.set.ensures ∙ sym (put_untold (face c.args.self.now) c.args.place c.args.byte refl) }
