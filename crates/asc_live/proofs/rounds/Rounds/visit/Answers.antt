-- Each job that the lanes have run is settled in its turn, and all of them make the visit.
use Rattle.std.proofs.Common.{◌∙◌, ◌<◌, ◌≤◌, arith, length, ap, subst}
use Rattle.asc_run.specs.VisitedBy.{IsVisit}
use Rattle.asc_live.specs.Rounds.{Rounds, told_by}
use Rattle.asc_work.specs.Lanes.{Lanes}
use Rattle.asc_live.proofs.InRounds.{settles_more, visit_done, visit_elsewhere}
use Rattle.asc_live.proofs.rounds.Rounds.visit.Goals as goal

pub loop-i-preserved : goal.loop-i-preserved
loop-i-preserved g c =
    let within : c.loop-i.i < length c.plan-jobs.new.self.jobs = let jobs = c.plan-jobs.ensures.jobs in let below = c.loop-i-test.true in omega (arith, jobs, below) in
    settles_more c.plan-jobs.new.self c.loop-i.self-inside.serial c.settle.new.self c.run_jobs.new.lanes c.loop-i.self-inside.lanes c.take-made.new.self c.loop-i.i c.take-made.result
    c.loop-i.invariant within c.take-made.ensures.result c.take-made.ensures.others c.settle.ensures

pub returns-clause-visit : goal.returns-clause-visit
returns-clause-visit g c =
    let jobs = c.plan-jobs.ensures.jobs in
    let few = c.plan-jobs.ensures.few in
    let most : length c.plan-jobs.new.self.jobs ≤ 128 = omega (arith, jobs, few) in
    subst (λ (r : Rounds). IsVisit c.args.number c.args.state.now c.plan-jobs.new.state (told_by r) (told_by (record { helper = c.loop-i.self-inside.serial; lanes = c.loop-i.self-inside.lanes }))) c.self.view_is
    (visit_done c.args.number c.args.state.now c.plan-jobs.new.state c.self.inside.serial c.plan-jobs.new.self c.loop-i.self-inside.serial c.loop-i.i
    c.plan-jobs.ensures.planned c.loop-i.invariant.works (omega (arith, jobs)) most c.plan-jobs.ensures.stays)

pub returns-clause-lanes : goal.returns-clause-lanes
returns-clause-lanes g c =
    ap (λ (l : Lanes). l.lanes) c.loop-i.invariant.same ∙ ap (λ (l : Lanes). l.lanes) c.run_jobs.ensures.same ∙ ap (λ (r : Rounds). r.lanes.lanes) c.self.view_is

pub returns-clause-other : goal.returns-clause-other
returns-clause-other g c = λ other.
    let jobs = c.plan-jobs.ensures.jobs in
    visit_elsewhere c.args.number c.args.state.now c.self.inside.serial c.plan-jobs.new.self c.loop-i.self-inside.serial c.loop-i.i
    c.plan-jobs.ensures.planned c.loop-i.invariant.works (omega (arith, jobs)) (λ same. other (same ∙ ap (λ (r : Rounds). r.helper.machine.shape) c.self.view_is))
    ∙ ap told_by c.self.view_is
