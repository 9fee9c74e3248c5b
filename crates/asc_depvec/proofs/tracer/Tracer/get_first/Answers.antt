use Rattle.std.proofs.Common.{arith}
use Rattle.std.specs.Vec.{with_item}
use Rattle.asc_shape.specs.Face.{face_after_read}
use Rattle.asc_depvec.proofs.Insides.{Left, Left-place, byte_first, room_for}
use Rattle.asc_depvec.proofs.tracer.Tracer.get_first.Goals as goal
use Rattle.asc_depvec.proofs.tracer.Tracer.get_first.Goals.{After-push}

left : (c : After-push) → Left c.self.inside (with_item c.self.inside.bytes c.args.place c.byte-byte.result) (with_item c.self.inside.marks c.args.place 2) c.push.new.self (λ f. face_after_read f c.args.place)
left c =
    Left-place c.self.inside _ c.push.new.self c.args.place c.byte-byte.result c.self.view_is c.self.invariant c.requires.place c.requires.room c.requires.untouched c.byte-byte.ensures
    c.push.ensures.items c.push.ensures.cap

pub invariant_of-self : goal.invariant_of-self
invariant_of-self c = (left c).inv

pub returns-clause-face : goal.returns-clause-face
returns-clause-face c = (left c).face _ c.self.view_is

pub push-requires-clause-room : goal.push-requires-clause-room
push-requires-clause-room c = omega (arith, room_for c.self.inside _ 1 c.self.view_is (omega arith) c.requires.room, c.self.invariant.filled)

pub returns-clause-byte : goal.returns-clause-byte
returns-clause-byte c = byte_first c.self.inside _ c.args.place c.byte-byte.result c.self.view_is c.self.invariant c.requires.untouched c.byte-byte.ensures
