use Rattle.std.proofs.Common.{◌∙◌, ap}
use Rattle.std.proofs.lemmas.List.{length-replicate}
use Rattle.asc_shape.specs.State.{zero_state}
use Rattle.asc_depvec.specs.Inside.{statuses_of}
use Rattle.asc_depvec.specs.Tracer.{fresh}
use Rattle.asc_depvec.specs.Unfilled.{Filling}
use Rattle.asc_depvec.proofs.Fresh.{statuses-replicate}
use Rattle.asc_depvec.proofs.Insides.{IsTracer-new, fresh_is}
use Rattle.asc_depvec.proofs.unfilled.Unfilled.into_tracer.Goals as goal

pub invariant_of-result : goal.invariant_of-result
invariant_of-result c =
    let u = c.self.inside in
    let inv = c.self.invariant in
    let size = c.places_of-len.ensures.places in
    IsTracer-new u.shape u.cap u.start c.fill.new.bytes c.fill-2.new.bytes u.touched c.fill_blocks.new.blocks u.groups u.used inv.cap inv.state inv.start
    (rw (← size) (c.fill.ensures.bytes inv.bytes)) (rw (← size) (c.fill-2.ensures.bytes inv.marks)) inv.none_touched inv.room_touched
    (rw (← size) c.fill_blocks.ensures) inv.groups inv.none_used inv.room_used

pub returns : goal.returns
returns c =
    let u = c.self.inside in
    let inv = c.self.invariant in
    let size = c.places_of-len.ensures.places in
    fresh_is u.shape u.cap u.start c.fill.new.bytes.items (statuses_of c.fill-2.new.bytes.items) u.touched.items inv.state
    (rw inv.start) (rw (c.fill.ensures.bytes inv.bytes, length-replicate) size) (rw (c.fill-2.ensures.bytes inv.marks, statuses-replicate, size))
    inv.none_touched
    ∙ ap (fresh u.shape u.cap) inv.start
    ∙ ap (λ (f : Filling). fresh f.shape f.cap (zero_state f.shape)) c.self.view_is
