-- What callers see of a queue's giver and its takers.
use Rattle.std.specs.Prelude.{◌≡◌, ℕ, ◌+◌, true, List, [], ◌∷◌, ◌++◌, length, All}
use Rattle.atomic_table.specs.Seated.{TableId}
use Rattle.asc_jobs.specs.declared.job.Job.{Job}
use Rattle.asc_jobs.specs.declared.hand.Hand.{Hand}
use Rattle.asc_jobs.specs.Hands.{hand, new_hand, popped_by}

-- a giver
pub record Giver : Type 0 where
  pub queue : TableId
  -- how many jobs the queue may hold
  pub capacity : ℕ
  -- in how many parts the queue was opened: one for the giver, and one for each taker
  pub opened : ℕ
  -- all jobs, the oldest first
  pub pushed : List Job

-- A queue: in how many parts it was opened, one for its giver and one for each taker, and how many jobs it may hold.
pub record Queue : Type 0 where
  pub table : TableId
  pub parts : ℕ
  pub capacity : ℕ

-- the queue of a giver
abbrev pub queue_of : Giver → Queue
queue_of giver = record { table = giver.queue; parts = giver.opened; capacity = giver.capacity }

-- a taker
pub record Taker : Type 0 where
  pub queue : TableId
  pub hand : Hand

-- what a giver knows
abbrev pub hand_of : Giver → Hand
hand_of g = hand true g.pushed g.opened 1 []

-- what is known is a giver's
pub record IsGivers (v : Hand) : Type 0 where
  pub gives : v.gives ≡ true
  pub parts : v.parts ≡ 1
  pub popped : v.popped ≡ []

abbrev pub new_taker : TableId → Taker
new_taker queue = record { queue = queue; hand = new_hand }

abbrev pub one_taker_more : Giver → Giver
one_taker_more g = record { queue = g.queue; capacity = g.capacity; opened = g.opened + 1; pushed = g.pushed }

abbrev pub after_push : Giver → Job → Giver
after_push g job = record { queue = g.queue; capacity = g.capacity; opened = g.opened; pushed = g.pushed ++ job ∷ [] }

abbrev pub after_pop : Taker → Job → Taker
after_pop t job = record { queue = t.queue; hand = popped_by t.hand job }

-- the giver and all takers were joined
pub record HasAllParts (v : Hand) : Type 0 where
  pub gives : v.gives ≡ true
  pub parts : v.parts ≡ v.opened

-- the giver and so many takers of a new queue
pub record AreOpened (capacity takers : ℕ) (giver : Giver) (made : List Taker) : Type 0 where
  pub bound : giver.capacity ≡ capacity
  pub empty : giver.pushed ≡ []
  pub parts : giver.opened ≡ takers + 1
  pub number : length made ≡ takers
  pub each : All (λ t. t ≡ new_taker giver.queue) made
