-- The rule of the queue, at every moment.
use Rattle.std.specs.Prelude.{◌≡◌, ◌==◌, ℕ, ◌+◌, ◌^◌, ◌<◌, ◌≤◌, Bool, true, false, List, [], ◌∷◌, ◌++◌, length, filter}
use mathlib.Core.Option.{some}
use lib.ListN.{get_elem?}
use Rattle.asc_jobs.specs.declared.job.Job.{Job}
use Rattle.asc_jobs.specs.declared.hand.Hand.{Hand}

-- the tickets of a list count up from n
abbrev pub CountUp : (n : ℕ) → List Job → Type 0
CountUp n [] = Unit {0}
CountUp n (job ∷ jobs) = (job.ticket ≡ n) × CountUp (n + 1) jobs

-- the jobs of a list that are one pass's, where owner names the pass by the ticket
abbrev pub taken_by : (owner : ℕ → ℕ) → (pass : ℕ) → List Job → List Job
taken_by owner pass jobs = filter (λ (job : Job). owner job.ticket == pass) jobs

-- each job of a list is that of one of so many passes
abbrev pub AreOwned : (passes : ℕ) → (owner : ℕ → ℕ) → List Job → Type 0
AreOwned passes owner [] = Unit {0}
AreOwned passes owner (job ∷ jobs) = (owner job.ticket < passes) × AreOwned passes owner jobs

-- the parts of all passes
abbrev pub all_parts : List Hand → ℕ
all_parts [] = 0
all_parts (v ∷ vs) = v.parts + all_parts vs

-- No pass but the giver's gives. It knows which jobs were pushed and in how many parts the queue was opened; every other
-- knows nothing of these.
pub record KnowsPushed (giver : ℕ) (jobs : List Job) (opened : ℕ) (pass : ℕ) (gives : Bool) (pushed : List Job) (told : ℕ) : Type 0 where
  pub own : gives ≡ true → (pass ≡ giver) × (pushed ≡ jobs) × (told ≡ opened)
  pub none : gives ≡ false → (pushed ≡ []) × (told ≡ 0)

-- What a pass knows is so: the jobs that it has popped are its own among those taken, in order.
pub record Knows (giver : ℕ) (jobs : List Job) (opened : ℕ) (owner : ℕ → ℕ) (taken : List Job) (pass : ℕ) (v : Hand) : Type 0 where
  pub pushed : KnowsPushed giver jobs opened pass v.gives v.pushed v.opened
  pub popped : v.popped ≡ taken_by owner pass taken
  pub idle : v.parts ≡ 0 → v.popped ≡ []

-- the pass of this number gives
abbrev pub IsThere : (hands : List Hand) → (pass : ℕ) → Type 0
IsThere hands pass = (v : Hand) × (get_elem? hands pass ≡ some v) × (v.gives ≡ true)

-- The jobs pushed so far are those taken and then those that the queue holds, at most 2^61. Their tickets count up from 0.
-- Each job taken is one pass's, and stands in that pass's list alone, once. There is one giver: the pass of this number
-- gives, and no other does.
pub record JobRule (items : List Job) (hands : List Hand) : Type 0 where
  pub jobs : List Job
  pub taken : List Job
  pub giver : ℕ
  pub opened : ℕ
  pub owner : ℕ → ℕ
  pub order : jobs ≡ taken ++ items
  pub most : length jobs ≤ 2 ^ 61
  pub numbered : CountUp 0 jobs
  pub owned : AreOwned (length hands) owner taken
  pub parts : all_parts hands ≡ opened
  pub known : (pass : ℕ) (v : Hand) → get_elem? hands pass ≡ some v → Knows giver jobs opened owner taken pass v
  pub there : IsThere hands giver
