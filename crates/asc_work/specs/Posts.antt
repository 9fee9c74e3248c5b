-- What workers at their posts have done.
use Rattle.std.specs.Prelude.{◌≡◌, ℕ, ◌+◌, ◌^◌, ◌<◌, ◌≤◌, Option, Some, None, List, [], ◌∷◌, ◌++◌, false, true, All, length}
use Rattle.std.specs.Option.{is_some, option_map}
use Rattle.atomic_table.specs.Seated.{TableId}
use Rattle.asc_model.specs.declared.limits.TheConstants.{MOST_WORKERS}
use Rattle.asc_outside.specs.Outside.{one_more}
use Rattle.asc_cache.specs.Insert.{ShardId}
use Rattle.asc_jobs.specs.Hands.{hand}
use Rattle.asc_jobs.specs.Jobs.{Taker}
use Rattle.asc_model.specs.Tally.{JobCounts, no_jobs, added}
use Rattle.asc_work.specs.Worker.{Worker}
use Rattle.asc_work.specs.declared.post.Post.{Post}

-- A count of yes answers has risen: one answer since was yes.
abbrev pub HasRisen : (before now : ℕ) → Type 0
HasRisen before now = (n : ℕ) × (before ≤ n) × (now ≡ one_more n)

-- A worker took jobs and counted as many in its tally, w and t being the worker and its taker before, and v and u
-- afterwards. Its writer is the same shard's still.
pub record HasWorked {W H : Type 0} (identity : W → Option ShardId) (w : Worker W H) (t : Taker) (v : Worker W H) (u : Taker) : Type 0 where
  pub queue : u.queue ≡ t.queue
  pub popped : u.hand ≡ hand t.hand.gives t.hand.pushed t.hand.opened t.hand.parts u.hand.popped
  pub jobs : length u.hand.popped + w.tally.ran ≡ length t.hand.popped + v.tally.ran
  pub most : v.tally.ran ≤ 2 ^ 57
  pub shape : v.shape ≡ w.shape
  pub laps : v.laps ≡ w.laps
  pub span : v.span ≡ w.span
  pub join : v.join ≡ w.join
  pub writer : identity v.writer ≡ identity w.writer

-- the same at posts, each of which has a taker
abbrev pub HaveWorked : {W H : Type 0} → (identity : W → Option ShardId) → Worker W H → Option Taker → Worker W H → Option Taker → Type 0
HaveWorked identity w (Some t) v (Some u) = HasWorked identity w t v u
HaveWorked identity w t v u = ⊥

-- A worker at its post took jobs and counted as many in its tally, until its halt said to stop.
pub record HasServed {W H : Type 0} (count : H → ℕ) (identity : W → Option ShardId) (p q : Post W H) : Type 0 where
  pub halted : HasRisen (count p.worker.halt) (count q.worker.halt)
  pub worked : HaveWorked identity p.worker p.taker q.worker q.taker

-- a worker with a taker of a queue, whose tally counts as many jobs as that took
pub record IsManned {W H : Type 0} (queue : TableId) (p : Post W H) : Type 0 where
  pub taker : Taker
  pub there : p.taker ≡ Some taker
  pub queue_is : taker.queue ≡ queue
  pub popped : taker.hand ≡ hand false [] 0 1 taker.hand.popped
  pub jobs : length taker.hand.popped ≡ p.worker.tally.ran
  pub most : p.worker.tally.ran ≤ 2 ^ 57

-- a worker that has no queue, and whose tally is of no jobs
pub record IsIdle {W H : Type 0} (p : Post W H) : Type 0 where
  pub taker : p.taker ≡ None
  pub tally : p.worker.tally ≡ no_jobs

-- the worker at a post became one that asks another halt
pub record IsRehalted {W H : Type 0} (p q : Post W H) : Type 0 where
  pub worker : q.worker ≡ record p.worker { halt = q.worker.halt }

-- the worker at a post counts from 0 on
pub record IsTakenIn {W H : Type 0} (p q : Post W H) : Type 0 where
  pub worker : q.worker ≡ record p.worker { tally = no_jobs }

-- the tallies of workers, column by column
abbrev pub all_tallies : {W H : Type 0} → List (Post W H) → JobCounts
all_tallies [] = no_jobs
all_tallies (p ∷ posts) = added p.worker.tally (all_tallies posts)

-- the workers at some posts, the last post's first
abbrev pub workers_at : {W H : Type 0} → List (Post W H) → List (Worker W H)
workers_at [] = []
workers_at (p ∷ posts) = workers_at posts ++ p.worker ∷ []

-- the halts of workers at some posts, the last post's first
abbrev pub halts_at : {W H : Type 0} → List (Post W H) → List H
halts_at [] = []
halts_at (p ∷ posts) = halts_at posts ++ p.worker.halt ∷ []

-- a team of workers: their queue, where they have one, and their posts
pub record Team (W H : Type 0) : Type 0 where
  pub queue : Option TableId
  pub posts : List (Post W H)

abbrev pub queue_of : {W H : Type 0} → List (Post W H) → Option TableId
queue_of [] = None
queue_of (p ∷ posts) = option_map (λ (t : Taker). t.queue) p.taker

-- 1 to 64 workers of one queue, in whose tallies are the jobs that they took; or of no queue
pub record IsTeam {W H : Type 0} (posts : List (Post W H)) : Type 0 where
  pub some : 0 < length posts
  pub few : length posts ≤ MOST_WORKERS
  pub manned : (queue : TableId) → queue_of posts ≡ Some queue → All (IsManned queue) posts
  pub idle : queue_of posts ≡ None → All (λ p. IsIdle p) posts

-- ---- words of private contracts

-- a worker that can take jobs: it has a taker, and a tally that is not too large to be counted with others
pub record IsReady {W H : Type 0} (p : Post W H) : Type 0 where
  pub taker : is_some p.taker ≡ true
  pub few : p.worker.tally.ran ≤ 2 ^ 57

-- a post once it is manned with a taker and a halt
abbrev pub manned_with : {W H : Type 0} → Taker → H → Post W H → Post W H
manned_with taker halt p = record p { worker = record p.worker { halt = halt }; taker = Some taker }

-- a post once its worker is taken in
abbrev pub relieved : {W H : Type 0} → Post W H → Post W H
relieved p = record p { worker = record p.worker { tally = no_jobs }; taker = None }
