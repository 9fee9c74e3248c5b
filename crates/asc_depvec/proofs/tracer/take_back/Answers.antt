use Rattle.std.proofs.lemmas.List.{map-set}
use Rattle.std.proofs.Common.{ℕ, List, ◌∷◌, length, ap, ◌∙◌, arith, length-append, []}
use Rattle.asc_depvec.specs.Tracer.{places_of}
use Rattle.asc_depvec.proofs.Items.{pop_step}
use Rattle.asc_depvec.proofs.Settling.{less-join, less-set}
use Rattle.asc_depvec.proofs.tracer.take_back.Goals as goal

pub loop-touched-preserved : goal.loop-touched-preserved
loop-touched-preserved c =
    let all = places_of c.args.touched.now.items in
    let old = places_of c.loop-touched.touched.items in
    let new = places_of c.pop-place.new.self.items in
    let step = pop_step all old new c.pop-place.result c.loop-touched.invariant.listed c.pop-place.ensures.places in
    record {
      least = omega (arith, c.loop-touched-test.true, c.len.ensures, ap (λ (l : List ℕ). length l) c.pop-place.ensures.places, length-append new (c.pop-place.result ∷ []));
      listed = step.0;
      statuses = rw (map-set, c.loop-touched.invariant.statuses, step.1);
      less = less-join c.args.marks.now c.loop-touched.marks _ c.loop-touched.invariant.less (less-set c.loop-touched.marks c.pop-place.result 3 (λ e. absurd (omega (arith, e))));
      bytes = rw (c.loop-touched.invariant.bytes, c.byte.ensures, step.1);
      cap = c.pop-place.ensures.cap ∙ c.loop-touched.invariant.cap;
    }
