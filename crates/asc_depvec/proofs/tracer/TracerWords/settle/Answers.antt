use Rattle.std.proofs.Common.{ap}
use Rattle.asc_model.specs.declared.status.Status.TheVariants.{Read}
use Rattle.asc_depvec.specs.Tracer.{Tracing, face_of}
use Rattle.asc_depvec.proofs.Insides.{IsTracer-settled, settled-view, were}
use Rattle.asc_depvec.proofs.tracer.TracerWords.settle.Goals as goal

pub invariant_of-self : goal.invariant_of-self
invariant_of-self c =
    let t = c.self.inside in
    let all = were t _ Read c.args.place c.deref.ensures.value (c.have_mark.ensures.status c.if-have_mark.true) in
    IsTracer-settled t _ c.deref_mut.result.now c.mark_word.new.marks c.args.place c.self.view_is c.self.invariant c.requires.place c.requires.aligned all c.requires.settled
    c.deref_mut.ensures.value c.mark_word.auto.marks c.mark_word.ensures.marks c.mark_word.ensures.statuses

pub returns-then-have_mark : goal.returns-then-have_mark
returns-then-have_mark c =
    let t = c.self.inside in
    let all = were t _ Read c.args.place c.deref.ensures.value (c.have_mark.ensures.status c.if-have_mark.true) in
    ap (λ (v : Tracing). face_of v) (settled-view t _ c.deref_mut.result.now c.mark_word.new.marks c.args.place c.self.view_is all c.deref_mut.ensures.value c.mark_word.auto.marks c.mark_word.ensures.statuses)
