use Rattle.std.proofs.Common.{drop, refl, arith}
use Rattle.std.specs.Vec.{with_items}
use Rattle.asc_model.specs.Shape.{length_of}
use Rattle.asc_depvec.specs.Tracer.{places_of}
use Rattle.asc_depvec.proofs.Insides.{IsTracer-later, Leaves-undone, back_items, count_told, forgotten, forgotten-back, forgotten-none, forgotten-view, given_items, later, marks_within, undone-view}
use Rattle.asc_depvec.proofs.Settling.{tell_touched}
use Rattle.asc_depvec.proofs.tracer.Tracer.undo.Goals as goal

pub forget_all-requires-clause-within : goal.forget_all-requires-clause-within
forget_all-requires-clause-within c = marks_within c.self.inside c.deref_mut.result.now c.all.result.now c.self.invariant c.deref_mut.ensures.value c.all.ensures

pub forget_all-requires-clause-among : goal.forget_all-requires-clause-among
forget_all-requires-clause-among c =
    let t = c.self.inside in
    rw (c.deref_mut.ensures.value, c.all.ensures) (tell_touched (length_of t.shape) t.start.bytes t.marks.items (places_of t.touched.items) c.self.invariant.places)

pub take_back-requires-clause-count : goal.take_back-requires-clause-count
take_back-requires-clause-count c = omega (arith, c.requires, count_told c.self.inside _ c.self.view_is)

pub take_back-requires-clause-places : goal.take_back-requires-clause-places
take_back-requires-clause-places c =
    let t = c.self.inside in
    let inv = forgotten t c.deref_mut.result.now c.forget_all.new.marks c.self.invariant c.deref_mut.ensures.value c.forget_all.auto.marks c.forget_all.ensures.statuses c.forget_all.ensures.none in
    marks_within (later t t.bytes (with_items t.marks c.forget_all.new.marks) t.touched) c.deref_mut-3.result.now t.touched.items inv c.deref_mut-3.ensures.value refl

pub invariant_of-self : goal.invariant_of-self
invariant_of-self c =
    let first = c.self.inside in
    let inv = forgotten first c.deref_mut.result.now c.forget_all.new.marks c.self.invariant c.deref_mut.ensures.value c.forget_all.auto.marks c.forget_all.ensures.statuses c.forget_all.ensures.none in
    let t = later first first.bytes (with_items first.marks c.forget_all.new.marks) first.touched in
    let none = forgotten-none first c.deref_mut.result.now c.forget_all.new.marks c.deref_mut.ensures.value c.forget_all.auto.marks c.forget_all.ensures.none in
    let last = drop c.args.count (places_of t.touched.items) in
    let put = given_items t c.deref_mut-2.result.now c.take_back.new.bytes last c.deref_mut-2.ensures.value c.take_back.auto.bytes c.take_back.ensures.bytes in
    let back = back_items t c.deref_mut-3.result.now c.take_back.new.marks last c.deref_mut-3.ensures.value c.take_back.auto.marks c.take_back.ensures.statuses in
    IsTracer-later t (with_items t.bytes c.take_back.new.bytes) (with_items t.marks c.take_back.new.marks) c.take_back.new.touched _ _ inv
    (Leaves-undone t (with_items t.bytes c.take_back.new.bytes) (with_items t.marks c.take_back.new.marks) c.take_back.new.touched c.args.count inv put back c.take_back.ensures.places c.take_back.ensures.cap)
    (forgotten-back t _ c.deref_mut-3.result.now c.take_back.new.marks c.deref_mut-3.ensures.value c.take_back.auto.marks none c.take_back.ensures.less)

pub returns : goal.returns
returns c =
    let first = c.self.inside in
    let view = forgotten-view first _ c.deref_mut.result.now c.forget_all.new.marks c.self.view_is c.deref_mut.ensures.value c.forget_all.auto.marks c.forget_all.ensures.statuses in
    let t = later first first.bytes (with_items first.marks c.forget_all.new.marks) first.touched in
    let last = drop c.args.count (places_of t.touched.items) in
    let put = given_items t c.deref_mut-2.result.now c.take_back.new.bytes last c.deref_mut-2.ensures.value c.take_back.auto.bytes c.take_back.ensures.bytes in
    let back = back_items t c.deref_mut-3.result.now c.take_back.new.marks last c.deref_mut-3.ensures.value c.take_back.auto.marks c.take_back.ensures.statuses in
    undone-view t _ (with_items t.bytes c.take_back.new.bytes) (with_items t.marks c.take_back.new.marks) c.take_back.new.touched c.args.count view put back c.take_back.ensures.places
