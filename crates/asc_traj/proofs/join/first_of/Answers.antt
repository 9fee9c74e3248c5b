use Rattle.std.proofs.Common.{sym}
use Rattle.asc_traj.proofs.Taking.{first-none, first-some}
use Rattle.asc_traj.proofs.join.first_of.Goals as goal

pub returns-in-Some : goal.returns-in-Some
returns-in-Some c = first-some c.args.parts.now c.in-Some.part.now (sym c.in-Some.ensures.value)

pub returns-in-None : goal.returns-in-None
returns-in-None c = first-none c.args.parts.now (sym c.in-None.ensures.value)
