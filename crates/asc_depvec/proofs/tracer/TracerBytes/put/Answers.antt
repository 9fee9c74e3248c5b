use Rattle.std.proofs.Common.{arith}
use Rattle.std.specs.Vec.{with_item}
use Rattle.asc_shape.specs.Face.{face_after_put}
use Rattle.asc_depvec.proofs.Insides.{IsPlace-from, Left, Left-put, of_bytes, of_marks, room_for}
use Rattle.asc_depvec.proofs.tracer.TracerBytes.put.Goals as goal
use Rattle.asc_depvec.proofs.tracer.TracerBytes.put.Goals.{After-self-2-1}

pub index-requires : goal.index-requires
index-requires c = of_marks c.self.inside c.args.place c.self.invariant (IsPlace-from c.self.inside _ c.args.place c.self.view_is c.self.invariant c.requires.place)

pub index_mut-requires : goal.index_mut-requires
index_mut-requires c = of_marks c.self.inside c.args.place c.self.invariant (IsPlace-from c.self.inside _ c.args.place c.self.view_is c.self.invariant c.requires.place)

pub index_mut-requires-2 : goal.index_mut-requires-2
index_mut-requires-2 c = of_bytes c.self.inside c.args.place c.self.invariant (IsPlace-from c.self.inside _ c.args.place c.self.view_is c.self.invariant c.requires.place)

left : (c : After-self-2-1) → Left c.self.inside (with_item c.self.inside.bytes c.args.place c.args.byte) (with_item c.self.inside.marks c.args.place c.mark_of.result) c.note.new.touched
    (λ f. face_after_put f c.args.place c.args.byte)
left c =
    Left-put c.self.inside _ c.note.new.touched c.args.place c.args.byte c.index.result.now c.mark_of.result c.status_of-status.result c.after_write.result c.self.view_is c.self.invariant
    c.requires.place c.requires.room c.index.ensures c.status_of-status.ensures c.after_write.ensures c.mark_of.ensures.status c.mark_of.ensures.other c.note.ensures.touched c.note.ensures.cap

pub invariant_of-self : goal.invariant_of-self
invariant_of-self c = (left c).inv

pub returns : goal.returns
returns c = record { face = (left c).face _ c.self.view_is }

pub note-requires-clause-room : goal.note-requires-clause-room
note-requires-clause-room c = omega (arith, room_for c.self.inside _ 1 c.self.view_is (omega arith) c.requires.room, c.self.invariant.filled)
