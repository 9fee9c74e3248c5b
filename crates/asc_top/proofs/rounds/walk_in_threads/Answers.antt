-- What a walk in threads comes to: beside workers, or in rounds.
use Rattle.asc_top.proofs.Beside.{ran_beside}
use Rattle.asc_top.proofs.rounds.walk_in_threads.Goals as goal

pub returns-in-0 : goal.returns-in-0
returns-in-0 g c = λ files opened.
    ran_beside c.args.line.now files _ _ opened _ _ _ c.walk_beside.result (c.requires.threads.some c.in-0.is) c.walk_beside.ensures
