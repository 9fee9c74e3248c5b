-- The jobs that are due at a visit, and what becomes of them.
use Rattle.std.specs.Prelude.{◌≡◌, ◌⊎◌, ℕ, zero, suc, ◌+◌, ◌%◌, ◌<◌, ◌≤◌, ◌==◌, ◌&&◌, ◌||◌, not, nat_lt, nat_le, Bool, List, [], ◌∷◌, ◌++◌, length, map, filter}
use Rattle.std.specs.Arc.{arc_value}
use Rattle.asc_model.specs.State.{State}
use Rattle.asc_guess.specs.declared.kind.Kind.{Kind}
use Rattle.asc_outside.specs.Outside.{one_more}
use Rattle.asc_guess.specs.Guess.{Task}
use Rattle.asc_jobs.specs.declared.job.Job.{Job}
use Rattle.asc_jobs.specs.Jobs.{Giver}
use Rattle.asc_jobs.specs.JobRule.{CountUp}

-- a job that is due: from the states of the last visit and of the one before, a later visit is to be guessed
pub record Due : Type 0 where
  pub prev : State
  pub last : State
  -- how many visits past the last one it is
  pub ahead : ℕ
  pub kind : Kind

-- what a job in a queue asks for
abbrev pub due_of : Job → Due
due_of job = record { prev = arc_value job.prev; last = arc_value job.last; ahead = job.ahead; kind = job.kind }

-- the jobs of these guesses
abbrev pub jobs_of : (prev last : State) → List Task → List Due
jobs_of prev last tasks = map (λ (task : Task). record { prev = prev; last = last; ahead = task.1; kind = task.0 }) tasks

-- some elements of a list, in its order
abbrev pub IsSublist : {A : Type 0} → (some all : List A) → Type 0
IsSublist some [] = some ≡ []
IsSublist {A} some (x ∷ xs) = IsSublist some xs ⊎ ((rest : List A) × (some ≡ x ∷ rest) × IsSublist rest xs)

-- a count that rose n times
abbrev pub raised : (count n : ℕ) → ℕ
raised count zero = count
raised count (suc n) = one_more (raised count n)

-- what pushes jobs, and what it counted
pub record Pusher : Type 0 where
  pub giver : Giver
  -- how many guesses were offered and found no room
  pub lacked : ℕ
  -- how many were not in the workers' share, and left to the walk
  pub left : ℕ
  -- how many were counted at visits that were passed over, or that kept their state alone
  pub passed : ℕ
  -- how often memory was wanting
  pub refused : ℕ

-- one that has pushed nothing yet
abbrev pub new_pusher : Giver → Pusher
new_pusher giver = record { giver = giver; lacked = 0; left = 0; passed = 0; refused = 0 }

-- how many guesses were not pushed though memory was not wanting
abbrev pub full_of : Pusher → ℕ
full_of p = p.lacked + p.left + p.passed

-- whether jobs were pushed, and as many as the queue holds
abbrev pub is_filled : Giver → Bool
is_filled giver = nat_lt 0 (length giver.pushed) && nat_le giver.capacity (length giver.pushed)

-- Whether the guesses of a visit are for the workers. Of each workers + 1 visits in a row all but one are: the walk goes to
-- that one itself.
abbrev pub is_for_workers : (workers target : ℕ) → Bool
is_for_workers workers target = nat_lt 0 workers && not (target % (workers + 1) == 1)

-- Whether a job that is due at a visit is offered to the workers: each one is until the queue had been filled up, and from
-- then on those of their share.
abbrev pub is_offered : (filled : Bool) → (workers number : ℕ) → Due → Bool
is_offered filled workers number due = not filled || is_for_workers workers (number + due.ahead)

-- Of the jobs that are due some are offered; the others are left to the walk, once the queue had been filled up. Of those
-- offered some were pushed, in order, and some found no room. For the rest memory was wanting.
pub record Pushes (offers : Due → Bool) (due : List Due) (old new : Pusher) : Type 0 where
  pub jobs : List Job
  pub lacked : ℕ
  pub wanting : ℕ
  pub left : ℕ
  pub some : IsSublist (map due_of jobs) (filter offers due)
  pub all : length (filter offers due) ≡ length jobs + lacked + wanting
  pub rest : length due ≡ length (filter offers due) + left
  pub giver : new.giver ≡ record old.giver { pushed = old.giver.pushed ++ jobs }
  pub tickets : CountUp (length old.giver.pushed) jobs
  pub lacked_is : new.lacked ≡ old.lacked + lacked
  pub left_is : new.left ≡ old.left + left
  pub passed_is : new.passed ≡ old.passed
  pub room : 0 < lacked + left → old.giver.capacity ≤ length new.giver.pushed
  pub refused : new.refused ≡ raised old.refused wanting
