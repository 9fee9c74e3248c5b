use Rattle.std.proofs.Common.{◌≡◌, ◌++◌, take, drop, map}
use Rattle.asc_model.specs.Tally.{job_counts}
use Rattle.asc_work.specs.Posts.{relieved}
use Rattle.asc_work.proofs.Posts.{AreTaken}
use Rattle.asc_work.proofs.post.take_in.Given as goal

abbrev pub invariant-loop-i : goal.invariant-loop-i
invariant-loop-i g l = record {
  queue : l.all.queue ≡ l.giver.queue;
  posts : l.posts ≡ map (λ p. relieved p) (take l.i l.fn.posts) ++ drop l.i l.fn.posts;
  taken : AreTaken (take l.i l.fn.posts) l.all.hand (job_counts l.tally);
}
