use Rattle.std.proofs.Common.{All, ap, sym, subst, ◌∙◌}
use Rattle.asc_work.specs.Posts.{HasServed, IsReady, Team}
use Rattle.asc_work.specs.declared.post.Post.{Post}
use Rattle.asc_work.proofs.Posts.{manned_ready, team_written, written_as}
use Rattle.asc_work.proofs.team.Team.beside.Goals as goal

pub beside-requires-clause-ready : goal.beside-requires-clause-ready
beside-requires-clause-ready g c =
    let known = ap (λ (t : Team g.row.W.Denot g.row.H.Denot). t.queue) c.self.view_is ∙ c.requires.queue.1 in
    λ lifetimes outlive. subst (All (λ (p : Post g.row.W.Denot g.row.H.Denot). IsReady p)) (sym c.as_mut_slice.ensures.value)
    (manned_ready c.requires.queue.0 c.self.inside.posts.items (c.self.invariant.manned c.requires.queue.0 known))

pub invariant_of-self : goal.invariant_of-self
invariant_of-self g c =
    let known = ap (λ (t : Team g.row.W.Denot g.row.H.Denot). t.queue) c.self.view_is ∙ c.requires.queue.1 in
    (team_written g.H.Halt.count g.W.Insert.identity c.requires.queue.0 c.self.inside.posts.len c.as_mut_slice.result.now c.self.inside.posts.items c.beside.new.posts
    c.as_mut_slice.ensures.value c.as_mut_slice.ensures.len c.beside.ensures.count c.self.invariant known c.beside.ensures.served).0

pub returns-clause-served : goal.returns-clause-served
returns-clause-served g c =
    let posts = ap (λ (t : Team g.row.W.Denot g.row.H.Denot). t.posts) c.self.view_is in
    written_as (HasServed g.H.Halt.count g.W.Insert.identity) c.self.inside.posts.len c.as_mut_slice.result.now c.self.inside.posts.items c.args.self.now.posts c.beside.new.posts
    c.as_mut_slice.ensures.value posts c.as_mut_slice.ensures.len c.beside.ensures.count c.beside.ensures.served

pub returns-clause-queue : goal.returns-clause-queue
returns-clause-queue g c =
    let known = ap (λ (t : Team g.row.W.Denot g.row.H.Denot). t.queue) c.self.view_is ∙ c.requires.queue.1 in
    (team_written g.H.Halt.count g.W.Insert.identity c.requires.queue.0 c.self.inside.posts.len c.as_mut_slice.result.now c.self.inside.posts.items c.beside.new.posts
    c.as_mut_slice.ensures.value c.as_mut_slice.ensures.len c.beside.ensures.count c.self.invariant known c.beside.ensures.served).1
    ∙ ap (λ (t : Team g.row.W.Denot g.row.H.Denot). t.queue) c.self.view_is
