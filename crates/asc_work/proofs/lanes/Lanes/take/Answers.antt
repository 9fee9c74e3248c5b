use Rattle.std.proofs.Common.{◌≡◌, true, Option, ap, subst, ◌∙◌}
use Rattle.std.specs.Option.{is_some}
use Rattle.asc_traj.specs.declared.made.Made.{Made}
use Rattle.asc_work.specs.Lanes.{Lanes}
use Rattle.asc_work.proofs.Rounds.{stands, taken}
use Rattle.asc_work.proofs.lanes.Lanes.take.Goals as goal

pub take-requires : goal.take-requires
take-requires c =
    let inside = c.self.inside in
    subst (λ (o : Option Made). is_some o ≡ true)
    (stands inside.lanes.items inside.jobs c.args.i c.len-lanes.result c.args.self.now.results c.index_mut.result.now (ap (λ (t : Lanes). t.results) c.self.view_is)
    c.self.invariant.0.some (c.len-lanes.ensures ∙ inside.lanes.ok.0) c.index_mut.ensures.value c.requires) c.requires

pub returns-clause-result : goal.returns-clause-result
returns-clause-result c =
    let inside = c.self.inside in
    stands inside.lanes.items inside.jobs c.args.i c.len-lanes.result c.args.self.now.results c.index_mut.result.now (ap (λ (t : Lanes). t.results) c.self.view_is)
    c.self.invariant.0.some (c.len-lanes.ensures ∙ inside.lanes.ok.0) c.index_mut.ensures.value c.requires ∙ c.take.ensures.result

pub returns-clause-others : goal.returns-clause-others
returns-clause-others c =
    let inside = c.self.inside in
    taken c.args.self.now inside.shape inside.laps inside.span inside.jobs c.args.i c.len-lanes.result inside.lanes.items c.index_mut.result.now c.take.new.self
    c.self.view_is c.self.invariant.0.some (c.len-lanes.ensures ∙ inside.lanes.ok.0) c.index_mut.ensures.value c.take.ensures.left
