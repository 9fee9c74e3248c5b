use Rattle.std.proofs.Common.{ap, ◌∙◌}
use Rattle.asc_work.specs.Posts.{IsRehalted, Team}
use Rattle.asc_work.specs.declared.post.Post.{Post}
use Rattle.asc_work.proofs.Posts.{team_manned, written_as}
use Rattle.asc_work.proofs.team.Team.begin.Goals as goal

pub invariant_of-self : goal.invariant_of-self
invariant_of-self g c =
    let none = ap (λ (t : Team g.row.W.Denot g.row.H.Denot). t.queue) c.self.view_is ∙ c.requires.queue in
    let queue = c.args._giver.now.queue in
    (team_manned queue c.self.inside.posts.len c.as_mut_slice.result.now c.self.inside.posts.items c.man.new.posts c.as_mut_slice.ensures.value c.as_mut_slice.ensures.len
    c.man.ensures.count c.self.invariant none (c.man.ensures.manned queue c.requires.takers)).0

pub returns-clause-queue : goal.returns-clause-queue
returns-clause-queue g c =
    let none = ap (λ (t : Team g.row.W.Denot g.row.H.Denot). t.queue) c.self.view_is ∙ c.requires.queue in
    let queue = c.args._giver.now.queue in
    (team_manned queue c.self.inside.posts.len c.as_mut_slice.result.now c.self.inside.posts.items c.man.new.posts c.as_mut_slice.ensures.value c.as_mut_slice.ensures.len
    c.man.ensures.count c.self.invariant none (c.man.ensures.manned queue c.requires.takers)).1

pub returns-clause-workers : goal.returns-clause-workers
returns-clause-workers g c =
    let posts = ap (λ (t : Team g.row.W.Denot g.row.H.Denot). t.posts) c.self.view_is in
    written_as (λ (p q : Post g.row.W.Denot g.row.H.Denot). IsRehalted p q) c.self.inside.posts.len c.as_mut_slice.result.now c.self.inside.posts.items c.args.self.now.posts c.man.new.posts
    c.as_mut_slice.ensures.value posts c.as_mut_slice.ensures.len c.man.ensures.count c.man.ensures.rehalted
