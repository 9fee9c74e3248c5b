use Rattle.std.specs.Vec.{with_items}
use Rattle.asc_model.specs.Number.{bytes_of}
use Rattle.asc_model.specs.Places.{cells, places_from}
use Rattle.asc_shape.specs.Face.{face_after_puts}
use Rattle.asc_depvec.proofs.Insides.{Left, Left-word_written, marks_written}
use Rattle.asc_depvec.proofs.tracer.TracerWords.put_written.Goals as goal
use Rattle.asc_depvec.proofs.tracer.TracerWords.put_written.Goals.{After-self-1}

left : (c : After-self-1) → Left c.self.inside (with_items c.self.inside.bytes c.put_word.new.bytes) c.self.inside.marks c.self.inside.touched
    (λ f. face_after_puts f (cells c.args.place (bytes_of 4 c.args.word)))
left c =
    Left-word_written c.self.inside c.put_word.new.bytes _ c.args.place c.args.word c.self.invariant (marks_written c.self.inside _ (places_from c.args.place 4) c.self.view_is c.requires.written)
    c.deref_mut.ensures.value c.put_word.auto.bytes c.put_word.ensures

pub invariant_of-self : goal.invariant_of-self
invariant_of-self c = (left c).inv

pub returns : goal.returns
returns c = record { face = (left c).face _ c.self.view_is }
