use Rattle.std.proofs.Common.{arith}
use Rattle.asc_work.proofs.Posts.{queue_unknown, team_idle}
use Rattle.asc_work.proofs.team.Team.new.Goals as goal

pub invariant_of-result : goal.invariant_of-result
invariant_of-result g c =
    let size = c.in_ok-posts.ensures.posts in let some = c.requires.some in let few = c.requires.few in
    team_idle c.in_ok-posts.posts.items (omega arith) (omega arith) c.in_ok-posts.ensures.idle

pub returns-clause-queue : goal.returns-clause-queue
returns-clause-queue g c =
    let size = c.in_ok-posts.ensures.posts in let some = c.requires.some in
    queue_unknown c.in_ok-posts.posts.items (omega arith) c.in_ok-posts.ensures.idle
