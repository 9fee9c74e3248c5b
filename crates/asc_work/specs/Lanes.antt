-- Lanes, and what they make of the jobs of a visit.
use Rattle.std.specs.Prelude.{◌≡◌, ◌≢◌, ◌↔◌, ℕ, ◌+◌, ◌*◌, ◌/◌, ◌%◌, ◌^◌, ◌<◌, ◌≤◌, List, [], Option, Some, None, map, length, slice_index_or, vec_capacity, All}
use Rattle.std.specs.List.{range_with_len}
use Rattle.asc_model.specs.declared.limits.TheConstants.{MOST_GUESSES, MOST_WORKERS}
use Rattle.asc_model.specs.Shape.{Shape}
use Rattle.asc_model.specs.State.{State}
use Rattle.asc_model.specs.Machine.{view_of}
use Rattle.asc_guess.specs.declared.kind.Kind.{Kind}
use Rattle.asc_guess.specs.Guess.{guess_of, Task}
use Rattle.asc_traj.specs.declared.made.Made.{Made}
use Rattle.asc_traj.specs.declared.made.Made.TheVariants.{Refused}
use Rattle.asc_traj.specs.Made.{IsMade}
use Rattle.asc_traj.specs.Trace.{guess_bounds}
use Rattle.asc_work.specs.Inside.{HasOwn}
use Rattle.asc_work.specs.declared.lane.Lane.{Lane}
use Rattle.asc_work.specs.declared.lane.Round.{Round}

-- Lanes: the shape of their states, how far they trace a guess, and how many they are. And what became of each job of the
-- last round, in the jobs' order: nothing is there of a job whose result was taken. And how many jobs each lane ran in that
-- round.
pub record Lanes : Type 0 where
  pub shape : Shape
  pub laps : ℕ
  pub span : ℕ
  pub lanes : ℕ
  pub results : List (Option Made)
  pub ran : List ℕ

-- The result of a job is there. It is what becomes of its guess, traced up to the pc of the last state, or memory was
-- wanting.
abbrev pub IsDone : (laps span : ℕ) → (prev last : State) → Task → Option Made → Type 0
IsDone laps span prev last job None = ⊥
IsDone laps span prev last job (Some made) = made ≢ Refused
    → IsMade (guess_bounds (view_of last).pc laps span) (guess_of job.0 job.1 prev last) 0 0 made

-- A round's jobs were shared among so many lanes: lane k has a result of each of the jobs k, k + lanes, k + 2 lanes and so
-- on, and of no other. So the result of job i is that of lane i modulo their number alone.
abbrev pub AreShared : (ran : List ℕ) → (lanes jobs : ℕ) → Type 0
AreShared ran lanes jobs = (k j : ℕ) → k < lanes → (j < slice_index_or ran k 0) ↔ (k + j * lanes < jobs)

-- ---- words of private contracts

-- The results of so many jobs, where each lane has those of its own: job i stands in lane i modulo their number.
abbrev pub dealt : (lists : List (List (Option Made))) → (jobs : ℕ) → List (Option Made)
dealt lists jobs =
    map (λ i. slice_index_or (slice_index_or lists (i % length lists) []) (i / length lists) None) (range_with_len 0 jobs)

-- the results that each lane has
abbrev pub lists_of : List Lane → List (List (Option Made))
lists_of lanes = map (λ lane. lane.results.items) lanes

-- how many jobs each lane ran: it has a result of each, or none where that was taken
abbrev pub ran_by : List Lane → List ℕ
ran_by lanes = map (λ lane. length lane.results.items) lanes

-- one of so many lanes for states of a shape: it has a tracer or its memory, and room for its part of a round
pub record IsLane (shape : Shape) (lanes : ℕ) (lane : Lane) : Type 0 where
  pub own : HasOwn shape lane.unfilled lane.tracer
  pub room : MOST_GUESSES ≤ vec_capacity lane.results * lanes

-- a round that lanes for states of a shape can run
pub record IsRound (shape : Shape) (round : Round) : Type 0 where
  pub prev : round.prev.now.value.shape ≡ shape
  pub last : round.last.now.value.shape ≡ shape
  pub few : length round.jobs.now ≤ MOST_GUESSES
  pub first : round.first < 2 ^ 62
  pub laps : 1 ≤ round.laps
  pub span : 1 ≤ round.span
  pub some : 1 ≤ round.lanes
  pub most : round.lanes ≤ MOST_WORKERS

-- what became of job i of a round
abbrev pub IsDoneAt : Round → (i : ℕ) → Option Made → Type 0
IsDoneAt round i made = (d : Task)
    → IsDone round.laps round.span round.prev.now.value round.last.now.value (slice_index_or round.jobs.now i d) made

-- A lane has run its first `count` jobs of a round: those from `at` on, each so many further on as there are lanes.
abbrev pub HasRunFirst : Round → (at count : ℕ) → Lane → Type 0
HasRunFirst round at count lane =
    (j : ℕ) → j < count → IsDoneAt round (at + j * round.lanes) (slice_index_or lane.results.items j None)

-- the first `count` jobs of a lane are jobs of the round
abbrev pub AreJobs : Round → (at count : ℕ) → Type 0
AreJobs round at count = (j : ℕ) → j < count → at + j * round.lanes < length round.jobs.now

-- it has run all of them
abbrev pub HasRunAll : Round → (at : ℕ) → Lane → Type 0
HasRunAll round at lane = (j : ℕ) → at + j * round.lanes < length round.jobs.now
    → IsDoneAt round (at + j * round.lanes) (slice_index_or lane.results.items j None)

-- It has run each of them once, and no others: it has as many results.
abbrev pub HasRunOnly : Round → (at : ℕ) → Lane → Type 0
HasRunOnly round at lane = (j : ℕ) → (j < length lane.results.items) ↔ (at + j * round.lanes < length round.jobs.now)

-- 1 to 64 lanes for states of a shape
pub record AreLanes (shape : Shape) (lanes : List Lane) : Type 0 where
  pub some : 1 ≤ length lanes
  pub most : length lanes ≤ MOST_WORKERS
  pub each : All (IsLane shape (length lanes)) lanes
