use Rattle.std.proofs.Common.{All, sym, subst, ◌∙◌}
use Rattle.asc_work.proofs.Posts.{all_at}
use Rattle.asc_live.specs.Crew.{HasBoundsOf, IsWriterOf}
use Rattle.asc_live.proofs.open_crew.team_of.Goals as goal

pub returns-clause-team : goal.returns-clause-team
returns-clause-team g c =
    let made = c.in_ok-team.ensures in let workers = c.in_ok-workers.ensures in
    let posts = c.in_ok-team.team.posts in
    λ readers own. record {
      idle = made.queue;
      count = made.posts ∙ workers.number;
      bounds = all_at (HasBoundsOf c.args.shape c.args.guessing) posts (subst (All (HasBoundsOf c.args.shape c.args.guessing)) (sym made.workers) workers.bounds);
      writers = all_at (λ w. IsWriterOf readers w.writer) posts (subst (All (λ w. IsWriterOf readers w.writer)) (sym made.workers) (workers.writers readers own));
    }
