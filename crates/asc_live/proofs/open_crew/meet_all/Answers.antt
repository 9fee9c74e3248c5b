use Rattle.std.proofs.Common.{◌≡◌, ℕ, ◌<◌, length, get_or, sym, ap, subst, ◌∙◌, below_more, arith}
use mathlib.Core.List.{IsPrefix}
use Rattle.asc_cache.specs.Cache.{IsOwnReader, ShardWriter}
use Rattle.asc_work.specs.Halting.{Flag}
use Rattle.asc_work.specs.Worker.{Worker}
use Rattle.asc_work.specs.declared.post.Post.{Post}
use Rattle.asc_live.specs.Crew.{HasMet}
use Rattle.asc_live.proofs.Meeting.{later_twice, one_of, stays_met}
use Rattle.asc_live.proofs.Opening.{stays_own}
use Rattle.asc_live.proofs.open_crew.meet_all.Goals as goal

pub meet-requires : goal.meet-requires
meet-requires g c =
    let posts = c.args.team.now.posts in let i = c.loop-i.i in
    let l : i < length posts = omega (arith, c.loop-i-test.true, c.len-i-end.ensures) in
    let d : Post ShardWriter Flag = one_of posts i l in
    let here : c.writer.result.now ≡ (get_or posts i d).worker.writer = c.writer.ensures ∙ ap (λ (w : Worker ShardWriter Flag). w.writer) (c.worker.ensures d) in
    subst (λ w. IsOwnReader w c.loop-i.readers.readers) (sym here)
    (stays_own c.args.readers.now.readers c.loop-i.readers.readers c.loop-i.invariant.later (get_or posts i d).worker.writer (c.requires i d l))

pub loop-i-preserved : goal.loop-i-preserved
loop-i-preserved g c =
    let posts = c.args.team.now.posts in let i = c.loop-i.i in
    let l : i < length posts = omega (arith, c.loop-i-test.true, c.len-i-end.ensures) in
    let first = c.args.readers.now.readers in let old = c.loop-i.readers.readers in let new = c.meet.new.self.readers in
    let P : ℕ → Type 0 = λ k. (d : Post ShardWriter Flag) → HasMet new (get_or posts k d).worker.writer in record {
      later = later_twice first old new c.loop-i.invariant.later c.meet.ensures.later;
      met =
          below_more P i
          (λ k h d. stays_met old new c.meet.ensures.later (get_or posts k d).worker.writer (c.loop-i.invariant.met k h d))
          (λ d.
          let w = (get_or posts i d).worker.writer in
          let here : c.writer.result.now ≡ w = c.writer.ensures ∙ ap (λ (w : Worker ShardWriter Flag). w.writer) (c.worker.ensures d) in record {
            own = stays_own first new (later_twice first old new c.loop-i.invariant.later c.meet.ensures.later) w (c.requires i d l);
            seen = λ e. subst (λ w. IsPrefix w.stored (get_or new w.index e).seen) here (c.meet.ensures.seen e);
          });
    }
