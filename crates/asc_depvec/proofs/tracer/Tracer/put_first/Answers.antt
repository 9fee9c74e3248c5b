use Rattle.std.proofs.Common.{arith}
use Rattle.std.specs.Vec.{with_items}
use Rattle.asc_model.specs.Number.{bytes_of}
use Rattle.asc_model.specs.Places.{cells}
use Rattle.asc_shape.specs.Face.{face_after_puts}
use Rattle.asc_depvec.proofs.Insides.{Changes-word, IsNew-word, Left, Left-put_new, listed_word, room_for}
use Rattle.asc_depvec.proofs.tracer.Tracer.put_first.Goals as goal
use Rattle.asc_depvec.proofs.tracer.Tracer.put_first.Goals.{After-self-then-have_mark-1}

left : (c : After-self-then-have_mark-1) → Left c.self.inside (with_items c.self.inside.bytes c.put_word.new.bytes) (with_items c.self.inside.marks c.mark_word.new.marks) c.push_word.new.self
    (λ f. face_after_puts f (cells c.args.place (bytes_of 4 c.args.word)))
left c =
    let t = c.self.inside in
    Left-put_new t _ _ _ (bytes_of 4 c.args.word) c.args.place c.self.invariant
    (IsNew-word t _ _ c.args.place c.args.word c.self.view_is c.self.invariant c.requires.place c.requires.room c.deref.ensures.value (c.have_mark.ensures.status c.if-have_mark.true))
    (Changes-word t c.put_word.new.bytes c.mark_word.new.marks _ _ _ c.push_word.new.self c.args.place c.args.word 4 (λ e. omega (arith, e))
    c.deref_mut-then-have_mark.ensures.value c.put_word.auto.bytes c.put_word.ensures c.deref_mut.ensures.value c.mark_word.auto.marks c.mark_word.ensures.statuses c.mark_word.ensures.marks
    (listed_word t c.push_word.new.self c.args.place c.push_word.ensures.items) c.push_word.ensures.cap)

pub invariant_of-self : goal.invariant_of-self
invariant_of-self c = (left c).inv

pub returns-then-have_mark : goal.returns-then-have_mark
returns-then-have_mark c = record { face = (left c).face _ c.self.view_is }

pub push_word-requires-clause-room : goal.push_word-requires-clause-room
push_word-requires-clause-room c = omega (arith, room_for c.self.inside _ 4 c.self.view_is (omega arith) c.requires.room, c.self.invariant.filled)
