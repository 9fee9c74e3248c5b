use Rattle.std.proofs.Common.{Option, ap, sym, ◌∙◌}
use Rattle.std.specs.Option.{is_some}
use Rattle.asc_traj.specs.declared.made.Made.{Made}
use Rattle.asc_work.specs.Lanes.{Lanes}
use Rattle.asc_work.proofs.Rounds.{has_none, stands_in}
use Rattle.asc_work.proofs.lanes.Lanes.has.Goals as goal

pub returns-then-i-self : goal.returns-then-i-self
returns-then-i-self c =
    let inside = c.self.inside in
    c.has.ensures ∙ ap (λ (o : Option Made). is_some o)
    (sym (stands_in inside.lanes.items inside.jobs c.args.i c.len-lanes.result c.args.self.now.results c.index.result.now (ap (λ (t : Lanes). t.results) c.self.view_is)
    c.self.invariant.0.some (c.len-lanes.ensures ∙ inside.lanes.ok.0) c.index.ensures c.if-i-self.true))

pub returns-else-i-self : goal.returns-else-i-self
returns-else-i-self c =
    has_none c.self.inside.lanes.items c.self.inside.jobs c.args.i c.args.self.now.results (ap (λ (t : Lanes). t.results) c.self.view_is) c.if-i-self.false
