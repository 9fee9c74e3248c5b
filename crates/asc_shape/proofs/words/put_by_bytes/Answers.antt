use Rattle.std.proofs.Common.{◌+◌, [], ◌∷◌, arith, sym, ◌∙◌}
use Rattle.asc_model.proofs.Numbers.{bytes_of-to_le_bytes}
use Rattle.asc_shape.proofs.Faces.{length-put, face_after_puts-cells_4, room-put, untouched_count-le-length}
use Rattle.asc_shape.proofs.words.put_by_bytes.Goals as goal

pub put-requires-2-clause-place : goal.put-requires-2-clause-place
put-requires-2-clause-place g c = omega (arith, length-put _ _ _ _ c.put.ensures.face)

pub put-requires-2-clause-room : goal.put-requires-2-clause-room
put-requires-2-clause-room g c = omega (arith, room-put _ _ _ _ c.put.ensures.face, untouched_count-le-length (g.B.Bytes.face c.args.bytes.now).marks (c.args.place ∷ []))

pub put-requires-3-clause-place : goal.put-requires-3-clause-place
put-requires-3-clause-place g c = omega (arith, length-put _ _ _ _ c.put.ensures.face, length-put _ _ _ _ c.put-2.ensures.face)

pub put-requires-3-clause-room : goal.put-requires-3-clause-room
put-requires-3-clause-room g c =
    let room1 = room-put _ _ _ _ c.put.ensures.face in
    let one = untouched_count-le-length (g.B.Bytes.face c.args.bytes.now).marks (c.args.place ∷ []) in
    let room2 = room-put _ _ _ _ c.put-2.ensures.face in
    let two = untouched_count-le-length (g.B.Bytes.face c.put.new.self).marks ((c.args.place + 1) ∷ []) in
    omega arith

pub put-requires-4-clause-place : goal.put-requires-4-clause-place
put-requires-4-clause-place g c =
    omega (arith, length-put _ _ _ _ c.put.ensures.face, length-put _ _ _ _ c.put-2.ensures.face, length-put _ _ _ _ c.put-3.ensures.face)

pub put-requires-4-clause-room : goal.put-requires-4-clause-room
put-requires-4-clause-room g c =
    let room1 = room-put _ _ _ _ c.put.ensures.face in
    let one = untouched_count-le-length (g.B.Bytes.face c.args.bytes.now).marks (c.args.place ∷ []) in
    let room2 = room-put _ _ _ _ c.put-2.ensures.face in
    let two = untouched_count-le-length (g.B.Bytes.face c.put.new.self).marks ((c.args.place + 1) ∷ []) in
    let room3 = room-put _ _ _ _ c.put-3.ensures.face in
    let three = untouched_count-le-length (g.B.Bytes.face c.put-2.new.self).marks ((c.args.place + 2) ∷ []) in
    omega arith

pub returns : goal.returns
returns g c = record {
  face = face_after_puts-cells_4 _ _ _ _ _ c.args.place c.args.word c.to_le_bytes.result (c.to_le_bytes.ensures ∙ sym (bytes_of-to_le_bytes c.args.word))
      c.put.ensures.face c.put-2.ensures.face c.put-3.ensures.face c.put-4.ensures.face;
}
