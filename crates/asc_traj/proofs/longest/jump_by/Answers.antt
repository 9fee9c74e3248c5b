use Rattle.asc_traj.proofs.Matching.{matches-yes}
use Rattle.asc_traj.proofs.longest.jump_by.Goals as goal

pub put-requires : goal.put-requires
put-requires c = (matches-yes c.args.state.now c.args.entry.now c.requires).shape

pub returns-clause-goes : goal.returns-clause-goes
returns-clause-goes c = c.put.ensures.steps (matches-yes _ _ c.requires)
