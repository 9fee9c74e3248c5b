-- There are at most two jobs for each visit ahead.
use Rattle.std.proofs.Common.{ap, arith}
use Rattle.asc_run.specs.LastVisits.{LastVisits}
use Rattle.asc_run.proofs.Jobs.{due-few, due-near}
use Rattle.asc_run.proofs.last_visits.LastVisits.list.Goals as goal

pub list_jobs-requires-clause-room : goal.list_jobs-requires-clause-room
list_jobs-requires-clause-room c =
    let v = c.args.self.now in
    let few = due-few v.issued c.args.number v.guessing.ahead c.targets-due.result.start c.targets-due.result.end c.targets-due.ensures.targets in
    let i = c.self.invariant in
    omega (arith, few, i.0, i.2, ap (λ (v : LastVisits). v.guessing.ahead) c.self.view_is, c.clear.ensures.capacity)

pub list_jobs-requires-clause-near : goal.list_jobs-requires-clause-near
list_jobs-requires-clause-near c = λ h.
    let v = c.args.self.now in
    let near = due-near v.issued c.args.number v.guessing.ahead c.targets-due.result.start c.targets-due.result.end c.targets-due.ensures.targets h in
    omega (arith, near.1, c.self.invariant.0, ap (λ (v : LastVisits). v.guessing.ahead) c.self.view_is)

pub invariant_of-self : goal.invariant_of-self
invariant_of-self c =
    let v = c.args.self.now in
    let few = due-few v.issued c.args.number v.guessing.ahead c.targets-due.result.start c.targets-due.result.end c.targets-due.ensures.targets in
    let same = ap (λ (v : LastVisits). v.guessing.ahead) c.self.view_is in
    let i = c.self.invariant in
    (i.0, i.1, omega (arith, i.2, c.clear.ensures.capacity, c.list_jobs.ensures.room), omega (arith, few, i.0, same, c.list_jobs.ensures.few), i.4)
