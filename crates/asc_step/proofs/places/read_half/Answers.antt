use Rattle.std.proofs.Common.{◌+◌, arith, ◌∙◌}
use Rattle.asc_shape.proofs.Faces.{length-read, slice_index-read}
use Rattle.asc_step.proofs.Touches.{state_after_reads, number_at-two, reads_two}
use Rattle.asc_step.proofs.Rooms.{room_after_read}
use Rattle.asc_step.proofs.places.read_half.Goals as goal

pub get-requires-2-clause-place : goal.get-requires-2-clause-place
get-requires-2-clause-place g c = omega (arith, length-read _ _ _ c.get.ensures.face)

pub get-requires-2-clause-room : goal.get-requires-2-clause-room
get-requires-2-clause-room g c = omega (arith, room_after_read _ _ _ c.get.ensures.face)

pub returns-clause-value : goal.returns-clause-value
returns-clause-value g c =
    let k = c.args.place in
    let second = c.get-2.ensures.byte ∙ slice_index-read _ _ _ (k + 1) c.get.ensures.face in
    omega (arith, c.from.ensures, c.from_le_bytes.ensures, c.get.ensures.byte, second, number_at-two (g.B.Bytes.face c.args.bytes.now).state.bytes k)

pub returns-clause-state : goal.returns-clause-state
returns-clause-state g c = state_after_reads _ _ _ (reads_two _ _ _ _ c.get.ensures.face c.get-2.ensures.face)

pub returns-clause-face : goal.returns-clause-face
returns-clause-face g c = reads_two _ _ _ _ c.get.ensures.face c.get-2.ensures.face
