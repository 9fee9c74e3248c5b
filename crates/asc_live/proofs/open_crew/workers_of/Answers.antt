use Rattle.std.proofs.Common.{◌≡◌, [], ◌∷◌, ◌++◌, All, sym, ap, subst, arith}
use Rattle.std.proofs.lemmas.List.Elements.{All-push}
use Rattle.asc_model.specs.Tally.{no_jobs}
use Rattle.asc_work.proofs.Posts.{all_popped, is_popped, one_less}
use Rattle.asc_live.specs.Crew.{HasBoundsOf, IsWriterOf}
use Rattle.asc_live.proofs.open_crew.workers_of.Goals as goal

pub loop-writer-preserved : goal.loop-writer-preserved
loop-writer-preserved g c =
    let writers = c.loop-writer.writers.items in let rest_writers = c.pop.new.self.items in
    let flags = c.loop-writer.flags.items in let rest_flags = c.pop-in-Some.new.self.items in
    let workers = c.loop-writer.workers.items in let w = c.in-Ok.worker in
    let popped_writer = is_popped writers rest_writers _ c.in-Some.writer c.pop.ensures.items c.in-Some.is in
    let e = one_less writers rest_writers c.in-Some.writer popped_writer in
    let popped_flag = is_popped flags rest_flags _ c.in-Some-pop.flag c.pop-in-Some.ensures.items c.in-Some-pop.is in
    let f = one_less flags rest_flags c.in-Some-pop.flag popped_flag in
    let pushed : c.push.new.self.items ≡ workers ++ w ∷ [] = c.in_ok-push-in-Ok.ensures.items in
    let more = one_less c.push.new.self.items workers w pushed in
    let inv = c.loop-writer.invariant in (
      omega (arith, inv.0, e, f),
      omega (arith, inv.1, e, more),
      subst (All (λ w. w.tally ≡ no_jobs)) (sym pushed) (All-push (λ w. w.tally ≡ no_jobs) workers w inv.2 (ap (λ w. w.tally) c.in-Ok.ensures.made)),
      subst (All (HasBoundsOf c.args.shape c.args.guessing)) (sym pushed) (All-push (HasBoundsOf c.args.shape c.args.guessing) workers w inv.3
          (ap (λ w. w.shape) c.in-Ok.ensures.made, ap (λ w. w.laps) c.in-Ok.ensures.made, ap (λ w. w.span) c.in-Ok.ensures.made, ap (λ w. w.join) c.in-Ok.ensures.made)),
      λ readers h. let s = all_popped (IsWriterOf readers) writers rest_writers c.in-Some.writer popped_writer (inv.4 readers h).0 in (
        s.0,
        subst (All (λ w. IsWriterOf readers w.writer)) (sym pushed) (All-push (λ w. IsWriterOf readers w.writer) workers w (inv.4 readers h).1
            (subst (λ w. IsWriterOf readers w) (sym (ap (λ w. w.writer) c.in-Ok.ensures.made)) s.1)),
      ),
    )

pub returns-clause-writers : goal.returns-clause-writers
returns-clause-writers g c = λ readers h. (c.loop-writer.invariant.4 readers h).1
