use Rattle.std.proofs.Common.{◌≡◌, ◌+◌, ◌++◌, All, length}
use Rattle.asc_model.specs.Tally.{no_jobs}
use Rattle.asc_work.specs.Posts.{IsIdle, workers_at}
use Rattle.asc_work.proofs.post.new_posts.Given as goal

abbrev pub invariant-loop-worker : goal.invariant-loop-worker
invariant-loop-worker g l = record {
  number : length l.posts.items + length l.workers.items ≡ length l.initial.workers.items;
  wakers : length l.wakers.items ≡ length l.posts.items;
  new : All (λ w. w.tally ≡ no_jobs) l.workers.items;
  idle : All (λ p. IsIdle p) l.posts.items;
  workers : l.initial.workers.items ≡ l.workers.items ++ workers_at l.posts.items;
}

abbrev pub decreases-loop-worker : goal.decreases-loop-worker
decreases-loop-worker g l = length l.workers.items
