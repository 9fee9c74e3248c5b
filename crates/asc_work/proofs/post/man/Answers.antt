use Rattle.std.proofs.Common.{◌≡◌, ◌<◌, All, length, take, take_all, subst, arith}
use Rattle.asc_work.specs.Posts.{IsManned}
use Rattle.asc_work.proofs.Posts.{is_popped, man_next}
use Rattle.asc_work.proofs.post.man.Goals as goal

pub loop-i-preserved : goal.loop-i-preserved
loop-i-preserved g c =
    let t = is_popped c.loop-i.takers.items c.pop.new.self.items _ c.in-Some.taker c.pop.ensures.items c.in-Some.is in
    let h = is_popped c.loop-i.halts.items c.pop-in-loop-i.new.self.items _ c.in-Some-pop.halt c.pop-in-loop-i.ensures.items c.in-Some-pop.is in
    let low : c.loop-i.i < length c.args.posts.now = omega arith in
    man_next c.args.posts.now c.loop-i.posts c.loop-i.i c.args.takers.items c.loop-i.takers.items c.pop.new.self.items c.args.halts.items c.loop-i.halts.items
    c.pop-in-loop-i.new.self.items c.in-Some.taker c.in-Some-pop.halt c.man.new.self c.index-posts-i.result low c.loop-i.invariant t h c.man.ensures

pub returns-clause-manned : goal.returns-clause-manned
returns-clause-manned g c =
    let whole : take c.loop-i.i c.loop-i.posts ≡ c.loop-i.posts = take_all c.loop-i.i c.loop-i.posts (omega arith) in
    λ queue takers idle. subst (All (IsManned {W = g.row.W.Denot} {H = g.row.H.Denot} queue)) whole (c.loop-i.invariant.manned queue takers idle).1
