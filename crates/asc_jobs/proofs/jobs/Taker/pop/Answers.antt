use Rattle.std.proofs.Common.{rules}
use Rattle.asc_jobs.proofs.Moves.{pops, has_all}
use Rattle.asc_jobs.proofs.jobs.Taker.pop.Goals as goal

pub pop_as-requires-clause-rule : goal.pop_as-requires-clause-rule
pop_as-requires-clause-rule g c = (pops _ _ (search rules), has_all _ _)
