use Rattle.asc_jobs.proofs.Moves.{begins}
use Rattle.asc_jobs.proofs.jobs.Jobs.open.Goals as goal

pub ruled-requires-clause-rule : goal.ruled-requires-clause-rule
ruled-requires-clause-rule c = begins
