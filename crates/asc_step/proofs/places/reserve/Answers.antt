use Rattle.std.proofs.Common.{arith}
use Rattle.asc_step.proofs.Touches.{length_after_puts, puts_word_and_byte}
use Rattle.asc_step.proofs.Rooms.{room_after_cells}
use Rattle.asc_step.proofs.places.reserve.Goals as goal

pub put-requires-clause-place : goal.put-requires-clause-place
put-requires-clause-place g c = omega (arith, length_after_puts _ _ _ c.put_word.ensures.face)

pub put-requires-clause-room : goal.put-requires-clause-room
put-requires-clause-room g c = omega (arith, room_after_cells _ _ _ c.put_word.ensures.face)

pub returns : goal.returns
returns g c = puts_word_and_byte _ _ _ 128 c.args.address 1 c.put_word.ensures.face c.put.ensures.face
