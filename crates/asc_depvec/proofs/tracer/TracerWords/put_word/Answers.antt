use Rattle.std.specs.Vec.{with_items}
use Rattle.asc_model.specs.Number.{bytes_of}
use Rattle.asc_model.specs.Places.{cells}
use Rattle.asc_shape.specs.Face.{face_after_puts}
use Rattle.asc_depvec.proofs.Insides.{Left, Left-word_written}
use Rattle.asc_depvec.proofs.tracer.TracerWords.put_word.Goals as goal
use Rattle.asc_depvec.proofs.tracer.TracerWords.put_word.Goals.{After-self-1}

left : (c : After-self-1) → Left c.self.inside (with_items c.self.inside.bytes c.put_word.new.bytes) c.self.inside.marks c.self.inside.touched
    (λ f. face_after_puts f (cells c.args.place (bytes_of 4 c.args.word)))
left c =
    Left-word_written c.self.inside c.put_word.new.bytes _ c.args.place c.args.word c.self.invariant (rw c.deref.ensures.value at (c.are_written.ensures c.if-are_written.true))
    c.deref_mut.ensures.value c.put_word.auto.bytes c.put_word.ensures

pub invariant_of-self : goal.invariant_of-self
invariant_of-self c = (left c).inv

pub returns-then-are_written : goal.returns-then-are_written
returns-then-are_written c = record { face = (left c).face _ c.self.view_is }
