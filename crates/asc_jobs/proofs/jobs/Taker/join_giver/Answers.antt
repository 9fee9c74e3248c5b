use Rattle.std.proofs.Common.{rules}
use Rattle.asc_jobs.proofs.Moves.{merges}
use Rattle.asc_jobs.proofs.jobs.Taker.join_giver.Goals as goal

pub absorb-requires-clause-rule : goal.absorb-requires-clause-rule
absorb-requires-clause-rule c = merges _ _ _ _ (search rules)
