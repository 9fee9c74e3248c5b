use Rattle.asc_live.proofs.InRounds.{have_run}
use Rattle.asc_live.proofs.rounds.run_jobs.Goals as goal

pub returns-in-Some : goal.returns-in-Some
returns-in-Some g c =
    have_run c.args.serial.now c.args.lanes.now c.run.new.self c.jobs.result.now c.in-Some.prev.now.value c.in-Some.last.now.value
    c.requires.lanes c.jobs.ensures.jobs c.in-Some.ensures.states.0 c.in-Some.ensures.states.1 c.run.ensures.done c.run.ensures.same
