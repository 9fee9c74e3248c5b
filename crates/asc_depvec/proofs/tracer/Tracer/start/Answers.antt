use Rattle.std.proofs.Common.{ap, sym, ◌∙◌}
use Rattle.std.specs.Vec.{with_items}
use Rattle.asc_depvec.specs.Tracer.{Tracing, fresh}
use Rattle.asc_depvec.proofs.Insides.{IsTracer-fresh, back_is, fresh_is, marks_within}
use Rattle.asc_depvec.proofs.tracer.Tracer.start.Goals as goal

pub untouch_all-requires : goal.untouch_all-requires
untouch_all-requires c = marks_within c.self.inside c.deref_mut.result.now c.all.result.now c.self.invariant c.deref_mut.ensures.value c.all.ensures

pub invariant_of-self : goal.invariant_of-self
invariant_of-self c =
    let t = c.self.inside in
    let all = back_is t c.deref_mut.result.now c.untouch_all.new.marks c.all.result.now c.self.invariant c.deref_mut.ensures.value c.untouch_all.auto.marks c.all.ensures c.untouch_all.ensures in
    IsTracer-fresh t c.args.from c.put_word.new.bytes c.deref_mut-2.result.now (with_items t.marks c.untouch_all.new.marks) c.clear.new.self c.word.result c.self.invariant c.shape.ensures.state
    (c.requires ∙ sym (ap (λ (v : Tracing). v.shape) c.self.view_is)) c.word.ensures c.deref_mut-2.ensures.value c.put_word.auto.bytes c.put_word.ensures
    all c.clear.ensures.items c.clear.ensures.cap

pub returns : goal.returns
returns c =
    let t = c.self.inside in
    let own = c.requires ∙ sym (ap (λ (v : Tracing). v.shape) c.self.view_is) in
    let all = back_is t c.deref_mut.result.now c.untouch_all.new.marks c.all.result.now c.self.invariant c.deref_mut.ensures.value c.untouch_all.auto.marks c.all.ensures c.untouch_all.ensures in
    fresh_is t.shape t.cap c.args.from _ _ c.clear.new.self.items c.shape.ensures.state own (invariant_of-self c).size all c.clear.ensures.items
    ∙ ap (λ (v : Tracing). fresh v.shape v.cap c.args.from) c.self.view_is
