use Rattle.std.proofs.Common.{rules}
use Rattle.asc_jobs.proofs.Moves.{pushes, holds_no_more}
use Rattle.asc_jobs.proofs.jobs.Giver.push.Goals as goal

pub push_as-requires-clause-rule : goal.push_as-requires-clause-rule
push_as-requires-clause-rule g c = (pushes _ _ _ _ (search rules) (search rules) (search rules), holds_no_more _ _ (search rules))
