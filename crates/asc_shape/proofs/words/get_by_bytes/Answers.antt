use Rattle.std.proofs.Common.{◌+◌, [], ◌∷◌, arith, ◌∙◌}
use Rattle.asc_shape.proofs.Faces.{length-read, slice_index-read, word_at-reads, face_after_reads-span_4, room-read, untouched_count-le-length}
use Rattle.asc_shape.proofs.words.get_by_bytes.Goals as goal

pub get-requires-2-clause-place : goal.get-requires-2-clause-place
get-requires-2-clause-place g c = omega (arith, length-read _ _ _ c.get.ensures.face)

pub get-requires-2-clause-room : goal.get-requires-2-clause-room
get-requires-2-clause-room g c = omega (arith, room-read _ _ _ c.get.ensures.face, untouched_count-le-length (g.B.Bytes.face c.args.bytes.now).marks (c.args.place ∷ []))

pub get-requires-3-clause-place : goal.get-requires-3-clause-place
get-requires-3-clause-place g c = omega (arith, length-read _ _ _ c.get.ensures.face, length-read _ _ _ c.get-2.ensures.face)

pub get-requires-3-clause-room : goal.get-requires-3-clause-room
get-requires-3-clause-room g c =
    let room1 = room-read _ _ _ c.get.ensures.face in
    let one = untouched_count-le-length (g.B.Bytes.face c.args.bytes.now).marks (c.args.place ∷ []) in
    let room2 = room-read _ _ _ c.get-2.ensures.face in
    let two = untouched_count-le-length (g.B.Bytes.face c.get.new.self).marks ((c.args.place + 1) ∷ []) in
    omega arith

pub get-requires-4-clause-place : goal.get-requires-4-clause-place
get-requires-4-clause-place g c =
    omega (arith, length-read _ _ _ c.get.ensures.face, length-read _ _ _ c.get-2.ensures.face, length-read _ _ _ c.get-3.ensures.face)

pub get-requires-4-clause-room : goal.get-requires-4-clause-room
get-requires-4-clause-room g c =
    let room1 = room-read _ _ _ c.get.ensures.face in
    let one = untouched_count-le-length (g.B.Bytes.face c.args.bytes.now).marks (c.args.place ∷ []) in
    let room2 = room-read _ _ _ c.get-2.ensures.face in
    let two = untouched_count-le-length (g.B.Bytes.face c.get.new.self).marks ((c.args.place + 1) ∷ []) in
    let room3 = room-read _ _ _ c.get-3.ensures.face in
    let three = untouched_count-le-length (g.B.Bytes.face c.get-2.new.self).marks ((c.args.place + 2) ∷ []) in
    omega arith

pub returns-clause-word : goal.returns-clause-word
returns-clause-word g c =
    let k = c.args.place in
    let second = slice_index-read _ _ _ (k + 1) c.get.ensures.face in
    let third = slice_index-read _ _ _ (k + 2) c.get-2.ensures.face ∙ slice_index-read _ _ _ (k + 2) c.get.ensures.face in
    let fourth = slice_index-read _ _ _ (k + 3) c.get-3.ensures.face ∙ slice_index-read _ _ _ (k + 3) c.get-2.ensures.face ∙ slice_index-read _ _ _ (k + 3) c.get.ensures.face in
    c.from_le_bytes.ensures
    ∙ word_at-reads _ k _ _ _ _ c.get.ensures.byte (c.get-2.ensures.byte ∙ second) (c.get-3.ensures.byte ∙ third) (c.get-4.ensures.byte ∙ fourth)

pub returns-clause-face : goal.returns-clause-face
returns-clause-face g c =
    face_after_reads-span_4 _ _ _ _ _ c.args.place c.get.ensures.face c.get-2.ensures.face c.get-3.ensures.face c.get-4.ensures.face
