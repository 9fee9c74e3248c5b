-- A program that has not begun is on its way to the visit.
use Rattle.std.proofs.Common.{refl, sym, ◌∙◌}
use Rattle.std.proofs.lemmas.Result.{err_from_is_err_and}
use Rattle.asc_calls.specs.World.{outside_of, world_in}
use Rattle.asc_inspect.proofs.Missing.{ends-short, first-way}
use Rattle.asc_inspect.proofs.miss.misses_at.Goals as goal

pub returns-in_err-copies-clause-ended : goal.returns-in_err-copies-clause-ended
returns-in_err-copies-clause-ended g c =
    let way = first-way c.args.visit.pc c.args.process (outside_of c.args.guest.now c.args.steps.now) c.requires.start in
    let p = err_from_is_err_and c.from_residual.result c.from_residual.ensures.1 in
    rw (p.1, p.2) (ends-short c.args.line.now c.args.visit _ _ _ c.in_err-copies.field-0.0 (c.in_err-copies.ensures.ended _ way))

pub misses_text-requires-clause-prev : goal.misses_text-requires-clause-prev
misses_text-requires-clause-prev g c =
    let way = first-way c.args.visit.pc c.args.process (outside_of c.args.guest.now c.args.steps.now) c.requires.start in
    let shapes = c.in_ok-copies.ensures.shapes _ way in
    shapes.0 ∙ sym shapes.1

pub misses_text-requires-clause-last : goal.misses_text-requires-clause-last
misses_text-requires-clause-last g c =
    let way = first-way c.args.visit.pc c.args.process (outside_of c.args.guest.now c.args.steps.now) c.requires.start in
    let shapes = c.in_ok-copies.ensures.shapes _ way in
    let comes = c.in_ok-copies.ensures.there _ way in
    shapes.1 ∙ sym comes.shape

pub returns-in-Ok-clause-shown : goal.returns-in-Ok-clause-shown
returns-in-Ok-clause-shown g c =
    let new = c.come_with_copies.new in
    record {
      prev = c.in_ok-copies.copies.0.value;
      last = c.in_ok-copies.copies.1.value;
      now = world_in new.visitor.process.state new.visitor.process.calls (outside_of new.guest new.steps);
      count = new.visitor.process.count;
      comes = c.in_ok-copies.ensures.there _ (first-way c.args.visit.pc c.args.process (outside_of c.args.guest.now c.args.steps.now) c.requires.start);
      before = c.in_ok-copies.ensures.below;
      same_left = refl;
      same_steps = refl;
      is = c.in-Ok.ensures;
    }
