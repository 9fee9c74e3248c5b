-- The turn of a fault.
use Rattle.asc_run.proofs.Stepped.{Turns-fault}
use Rattle.asc_run.proofs.process.Process.stop.Goals as goal

pub returns-in-Faulted-clause-turn : goal.returns-in-Faulted-clause-turn
returns-in-Faulted-clause-turn g c = λ _.
    Turns-fault c.args.stopped _ _ _ _ _ _ _ _ c.in-Faulted.fault c.in-Faulted.is (λ _. c.requires.stands)
