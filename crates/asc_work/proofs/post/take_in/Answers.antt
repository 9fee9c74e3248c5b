use Rattle.std.proofs.Common.{◌≡◌, ◌+◌, ◌<◌, ◌∙◌, Some, length, get_or, set, take, ap, sym, arith}
use Rattle.std.proofs.lemmas.List.{length-set, take_more}
use Rattle.std.proofs.lemmas.List.Edits.{map_over_more}
use Rattle.asc_jobs.specs.Jobs.{Taker}
use Rattle.asc_model.specs.Tally.{added, job_counts}
use Rattle.asc_work.specs.Posts.{relieved}
use Rattle.asc_work.specs.declared.post.Post.{Post}
use Rattle.asc_work.proofs.Posts.{next_is, next_taken}
use Rattle.asc_work.proofs.post.take_in.Goals as goal

pub loop-i-preserved : goal.loop-i-preserved
loop-i-preserved g c =
    let old = c.args.posts.now in let posts = c.loop-i.posts in let i = c.loop-i.i in
    let x : Post g.row.W.Denot g.row.H.Denot = c.index-posts-i.result in
    let kept = length-set old 0 c.relieve-all.new.self in let test = c.loop-i-test.true in
    let low : i < length old = omega (arith, kept, test) in
    let was : get_or posts i x ≡ get_or old i x = ap (λ ps. get_or ps i x) c.loop-i.invariant.posts ∙ next_is (λ p. relieved p) old i x low in
    let now : c.relieve-taker.new.self ≡ relieved x = c.relieve-taker.ensures.post ∙ ap (λ p. relieved p) (sym c.index-posts-i.is) in
    let there : (get_or old i x).taker ≡ Some c.relieve-taker.result.0 = ap (λ (p : Post g.row.W.Denot g.row.H.Denot). p.taker) (sym was) ∙ c.relieve-taker.ensures.taker in
    let tally = c.relieve-taker.ensures.tally ∙ ap (λ (p : Post g.row.W.Denot g.row.H.Denot). p.worker.tally) was in
    let joined = c.join.ensures in record {
      queue = ap (λ (t : Taker). t.queue) joined ∙ c.loop-i.invariant.queue;
      posts = ap (λ p. set posts i p) now ∙ map_over_more (λ p. relieved p) old posts i x low c.loop-i.invariant.posts c.index-posts-i.is;
      taken = next_taken c.args.giver.queue (take i old) (take (i + 1) old) (get_or old i x) c.relieve-taker.result.0 c.loop-i.all.hand c.join.new.self.hand (job_counts c.loop-i.tally)
          (job_counts c.add.new.self) (take_more old i x low) c.loop-i.invariant.taken (c.requires.manned i x low) there (ap (λ (t : Taker). t.hand) joined)
          (c.add.ensures ∙ ap (added (job_counts c.loop-i.tally)) tally);
    }
