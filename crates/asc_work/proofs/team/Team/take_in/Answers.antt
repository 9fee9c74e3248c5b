use Rattle.asc_work.proofs.Posts.{team_relieved}
use Rattle.asc_work.proofs.team.Team.take_in.Goals as goal

pub invariant_of-self : goal.invariant_of-self
invariant_of-self g c =
    (team_relieved c.self.inside.posts.len c.as_mut_slice.result.now c.self.inside.posts.items c.take_in.new.posts c.as_mut_slice.ensures.value c.as_mut_slice.ensures.len
    c.take_in.ensures.posts c.self.invariant).0
