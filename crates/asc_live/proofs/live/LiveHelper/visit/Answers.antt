-- The visit was made, or passed over.
use Rattle.std.proofs.Common.{rules}
use Rattle.asc_live.proofs.Seeing.{visit-plans, visit-sees}
use Rattle.asc_live.proofs.live.LiveHelper.visit.Goals as goal

pub returns-clause-plan : goal.returns-clause-plan
returns-clause-plan g c =
    let v = c.learn_of.ensures.visits in
    visit-plans c.args.number v.0 c.args.state.now c.args.self.now c.learn_of.new.self (search rules) v.2

pub returns-clause-seen : goal.returns-clause-seen
returns-clause-seen g c =
    let v = c.learn_of.ensures.visits in
    visit-sees c.args.number v.0 c.args.state.now c.args.self.now c.learn_of.new.self (search rules) v.2
