use Rattle.std.proofs.Common.{arith, sym, ◌∙◌}
use Rattle.asc_shape.proofs.Faces.{length-put}
use Rattle.asc_model.proofs.Numbers.{bytes_of-to_le_bytes}
use Rattle.asc_step.proofs.Touches.{puts_half}
use Rattle.asc_step.proofs.Rooms.{room_after_put}
use Rattle.asc_step.proofs.places.put_half.Goals as goal

pub put-requires-2-clause-place : goal.put-requires-2-clause-place
put-requires-2-clause-place g c = omega (arith, length-put _ _ _ _ c.put.ensures.face)

pub put-requires-2-clause-room : goal.put-requires-2-clause-room
put-requires-2-clause-room g c = omega (arith, room_after_put _ _ _ _ c.put.ensures.face)

pub returns : goal.returns
returns g c =
    puts_half _ _ _ c.args.place c.args.value _ (c.to_le_bytes.ensures ∙ sym (bytes_of-to_le_bytes c.args.value)) c.put.ensures.face c.put-2.ensures.face
