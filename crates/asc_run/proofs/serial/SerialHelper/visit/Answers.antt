-- Each job adds what it made to what the jobs before it left, and all of them make the machine's visit.
use Rattle.std.proofs.Common.{◌<◌, arith, length}
use Rattle.asc_run.proofs.Visiting.{works-more, visit-is}
use Rattle.asc_run.proofs.serial.SerialHelper.visit.Goals as goal

pub loop-i-preserved : goal.loop-i-preserved
loop-i-preserved c =
    let within : c.loop-i.i < length c.plan-jobs.new.self.jobs = let jobs = c.plan-jobs.ensures.jobs in omega (arith, jobs) in
    works-more c.plan-jobs.new.self c.loop-i.self c.make-made.new.self c.settle.new.self c.loop-i.i c.make-made.result c.loop-i.invariant within c.make-made.ensures.stays c.make-made.ensures.made c.settle.ensures

pub returns-clause-machine : goal.returns-clause-machine
returns-clause-machine c =
    let jobs = c.plan-jobs.ensures.jobs in
    visit-is c.args.number c.args.state.now c.args.self.now c.plan-jobs.new.self c.loop-i.self c.loop-i.i c.plan-jobs.ensures.planned c.loop-i.invariant (omega (arith, jobs))
