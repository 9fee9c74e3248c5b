use Rattle.std.proofs.Common.{arith}
use Rattle.asc_step.proofs.Touches.{state_after_reads, reads_word_and_byte, reserved_by_bytes, reserved_if_valid, reserved_unless_valid}
use Rattle.asc_step.proofs.Rooms.{room_after_word}
use Rattle.asc_step.proofs.places.is_reserved.Goals as goal

pub get-valid-requires-clause-room : goal.get-valid-requires-clause-room
get-valid-requires-clause-room g c = omega (arith, room_after_word _ _ 128 c.read_word-reserved.ensures.face)

pub returns-then-valid-eq1-clause-value : goal.returns-then-valid-eq1-clause-value
returns-then-valid-eq1-clause-value g c =
    reserved_if_valid _ _ _ c.if-valid-eq1.true
    (reserved_by_bytes _ _ c.args.address _ _ c.requires.version c.read_word-reserved.ensures.value c.read_word-reserved.ensures.state c.get-valid.ensures.byte)

pub returns-then-valid-eq1-clause-state : goal.returns-then-valid-eq1-clause-state
returns-then-valid-eq1-clause-state g c = state_after_reads _ _ _ (reads_word_and_byte _ _ _ 128 c.read_word-reserved.ensures.face c.get-valid.ensures.face)

pub returns-then-valid-eq1-clause-face : goal.returns-then-valid-eq1-clause-face
returns-then-valid-eq1-clause-face g c = reads_word_and_byte _ _ _ 128 c.read_word-reserved.ensures.face c.get-valid.ensures.face

pub returns-else-valid-eq1-clause-value : goal.returns-else-valid-eq1-clause-value
returns-else-valid-eq1-clause-value g c =
    reserved_unless_valid _ _ _ c.if-valid-eq1.false
    (reserved_by_bytes _ _ c.args.address _ _ c.requires.version c.read_word-reserved.ensures.value c.read_word-reserved.ensures.state c.get-valid.ensures.byte)

pub returns-else-valid-eq1-clause-state : goal.returns-else-valid-eq1-clause-state
returns-else-valid-eq1-clause-state g c = state_after_reads _ _ _ (reads_word_and_byte _ _ _ 128 c.read_word-reserved.ensures.face c.get-valid.ensures.face)

pub returns-else-valid-eq1-clause-face : goal.returns-else-valid-eq1-clause-face
returns-else-valid-eq1-clause-face g c = reads_word_and_byte _ _ _ 128 c.read_word-reserved.ensures.face c.get-valid.ensures.face
