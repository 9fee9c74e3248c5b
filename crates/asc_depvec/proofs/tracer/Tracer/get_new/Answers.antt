use Rattle.std.proofs.Common.{ap, ◌∙◌, arith}
use Rattle.std.specs.Vec.{with_items}
use Rattle.asc_model.specs.Number.{bytes_of}
use Rattle.asc_model.specs.Places.{places_from}
use Rattle.asc_shape.specs.Face.{face_after_reads}
use Rattle.asc_shape.proofs.Guesses.{bytes_of-number_at}
use Rattle.asc_depvec.proofs.Insides.{Changes-word, IsNew-word, Left, Left-read_new, listed_word, room_for, word_first}
use Rattle.asc_depvec.proofs.tracer.Tracer.get_new.Goals as goal
use Rattle.asc_depvec.proofs.tracer.Tracer.get_new.Goals.{After-push_word}

left : (c : After-push_word) → Left c.self.inside (with_items c.self.inside.bytes c.put_word.new.bytes) (with_items c.self.inside.marks c.mark_word.new.marks) c.push_word.new.self
    (λ f. face_after_reads f (places_from c.args.place 4))
left c =
    let t = c.self.inside in
    Left-read_new t _ _ _ (bytes_of 4 c.word-word.result) c.args.place c.self.invariant (ap (bytes_of 4) c.word-word.ensures ∙ bytes_of-number_at 4 t.start.bytes c.args.place c.self.invariant.start.bytes)
    (IsNew-word t _ _ c.args.place _ c.self.view_is c.self.invariant c.requires.place c.requires.room c.deref.ensures.value (c.have_mark.ensures.status c.if-have_mark.true))
    (Changes-word t c.put_word.new.bytes c.mark_word.new.marks _ _ _ c.push_word.new.self c.args.place c.word-word.result 2 (λ e. omega (arith, e))
    c.deref_mut.ensures.value c.put_word.auto.bytes c.put_word.ensures c.deref_mut-then-have_mark.ensures.value c.mark_word.auto.marks c.mark_word.ensures.statuses c.mark_word.ensures.marks
    (listed_word t c.push_word.new.self c.args.place c.push_word.ensures.items) c.push_word.ensures.cap)

pub invariant_of-self : goal.invariant_of-self
invariant_of-self c = (left c).inv

pub returns-then-have_mark-clause-face : goal.returns-then-have_mark-clause-face
returns-then-have_mark-clause-face c = (left c).face _ c.self.view_is

pub push_word-requires-clause-room : goal.push_word-requires-clause-room
push_word-requires-clause-room c = omega (arith, room_for c.self.inside _ 4 c.self.view_is (omega arith) c.requires.room, c.self.invariant.filled)

pub returns-then-have_mark-clause-word : goal.returns-then-have_mark-clause-word
returns-then-have_mark-clause-word c =
    word_first c.self.inside _ _ c.args.place c.word-word.result c.self.view_is c.self.invariant c.deref.ensures.value (c.have_mark.ensures.status c.if-have_mark.true) c.word-word.ensures
