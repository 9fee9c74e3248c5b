use Rattle.asc_run.proofs.Visiting.{Works}
use Rattle.asc_run.proofs.serial.SerialHelper.visit.Given as goal

abbrev pub invariant-loop-i : goal.invariant-loop-i
invariant-loop-i l = Works l.initial.self l.self l.i
