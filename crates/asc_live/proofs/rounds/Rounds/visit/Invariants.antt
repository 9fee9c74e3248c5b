use Rattle.asc_live.proofs.InRounds.{Settles}
use Rattle.asc_live.proofs.rounds.Rounds.visit.Given as goal

abbrev pub invariant-loop-i : goal.invariant-loop-i
invariant-loop-i g l = Settles l.initial.self-inside.serial l.self-inside.serial l.initial.self-inside.lanes l.self-inside.lanes l.i
