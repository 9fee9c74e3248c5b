use Rattle.asc_work.specs.Halting.{AreOpened}
use Rattle.asc_work.proofs.halter.Halter.open.Given as goal

abbrev pub invariant-loop : goal.invariant-loop
invariant-loop l = AreOpened l.counter l.halter l.made.items
