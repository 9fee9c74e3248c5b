use Rattle.std.proofs.Common.{rules}
use Rattle.asc_jobs.proofs.Moves.{forks}
use Rattle.asc_jobs.proofs.jobs.Giver.taker.Goals as goal

pub another-pass-requires-clause-rule : goal.another-pass-requires-clause-rule
another-pass-requires-clause-rule c = forks _ _ (search rules) (search rules)
