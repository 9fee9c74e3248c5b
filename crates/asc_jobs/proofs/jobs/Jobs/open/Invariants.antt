use Rattle.asc_jobs.specs.Jobs.{AreOpened}
use Rattle.asc_jobs.proofs.jobs.Jobs.open.Given as goal

abbrev pub invariant-loop : goal.invariant-loop
invariant-loop l = AreOpened l.fn.capacity l.counter l.giver l.made.items
