use Rattle.std.proofs.Common.{◌≡◌, None, [], ◌∷◌, ◌++◌, ◌∙◌, refl, arith}
use Rattle.asc_work.specs.declared.post.Post.{Post}
use Rattle.asc_work.proofs.Posts.{is_popped, one_less, idle_more, moved}
use Rattle.asc_work.proofs.post.new_posts.Goals as goal

pub loop-worker-preserved : goal.loop-worker-preserved
loop-worker-preserved g c =
    let workers = c.loop-worker.workers.items in let rest = c.pop.new.self.items in let w = c.in-Some.worker in
    let posts = c.loop-worker.posts.items in let more = c.push-in-Some.new.self.items in
    let p : Post g.row.W.Denot g.row.H.Denot = record { worker = w; taker = None; parker = c.in_ok-parker.parker } in
    let is = is_popped workers rest _ w c.pop.ensures.items c.in-Some.is in
    let pushed : more ≡ posts ++ p ∷ [] = c.in_ok-push-2.ensures.items in
    let waked = one_less c.push.new.self.items c.loop-worker.wakers.items c.in_ok-clone.field-0 c.in_ok-push.ensures.items in
    let one = one_less workers rest w is in let posted = one_less more posts p pushed in
    let inv = c.loop-worker.invariant in
    let number = inv.number in let wakers = inv.wakers in
    let idle = idle_more workers rest posts more p is pushed refl (inv.new, inv.idle) in record {
      number = omega (arith, one, posted, number);
      wakers = omega (arith, waked, posted, wakers);
      new = idle.0;
      idle = idle.1;
      workers = inv.workers ∙ moved workers rest posts more p is pushed;
    }
