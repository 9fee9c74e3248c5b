-- What the visit made, the jump leaves.
use Rattle.std.proofs.Common.{◌+◌, sym, subst}
use Rattle.asc_find.specs.Helper.{Sees}
use Rattle.asc_run.proofs.visited.Visited.land.Goals as goal

pub returns-in-Some-clause-seen : goal.returns-in-Some-clause-seen
returns-in-Some-clause-seen g c = λ _.
    subst (Sees (c.args.self.now.asked + 1) (g.H.Finder.aid c.args.helper.now).plan) (sym c.jump.ensures.plan) c.visit_by.ensures.seen
