use Rattle.std.proofs.Common.{arith, refl}
use Rattle.std.specs.Vec.{with_items}
use Rattle.asc_model.specs.declared.status.Status.TheVariants.{Read}
use Rattle.asc_model.specs.Number.{bytes_of}
use Rattle.asc_model.specs.Places.{cells}
use Rattle.asc_shape.specs.Face.{face_after_puts}
use Rattle.asc_depvec.proofs.Insides.{Changes-word, Left, Left-put_read, size_told, were}
use Rattle.asc_depvec.proofs.tracer.Tracer.put_new.Goals as goal
use Rattle.asc_depvec.proofs.tracer.Tracer.put_new.Goals.{After-self-then-have_mark-1}

left : (c : After-self-then-have_mark-1) → Left c.self.inside (with_items c.self.inside.bytes c.put_word.new.bytes) (with_items c.self.inside.marks c.mark_word.new.marks) c.self.inside.touched
    (λ f. face_after_puts f (cells c.args.place (bytes_of 4 c.args.word)))
left c =
    let t = c.self.inside in
    Left-put_read t _ _ _ (bytes_of 4 c.args.word) c.args.place c.self.invariant (omega (arith, c.requires.place, size_told t _ c.self.view_is c.self.invariant))
    (were t _ Read c.args.place c.deref.ensures.value (c.have_mark.ensures.status c.if-have_mark.true))
    (Changes-word t c.put_word.new.bytes c.mark_word.new.marks _ _ _ t.touched c.args.place c.args.word 0 (λ e. omega (arith, e))
    c.deref_mut-then-have_mark.ensures.value c.put_word.auto.bytes c.put_word.ensures c.deref_mut.ensures.value c.mark_word.auto.marks c.mark_word.ensures.statuses c.mark_word.ensures.marks refl refl)

pub invariant_of-self : goal.invariant_of-self
invariant_of-self c = (left c).inv

pub returns-then-have_mark : goal.returns-then-have_mark
returns-then-have_mark c = record { face = (left c).face _ c.self.view_is }
