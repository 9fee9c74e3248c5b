-- The last two visits of a walk, and the guesses that are due at one.
use Rattle.std.specs.Prelude.{ℕ, ◌+◌, List, [], Option, Some, None}
use Rattle.std.specs.Global.{Global}
use Rattle.std.specs.declared.sync.Arc.{Arc}
use Rattle.asc_model.specs.State.{State}
use Rattle.asc_guess.specs.Guess.{Task}
use Rattle.asc_find.specs.declared.guessing.Guessing.{Guessing}
use Rattle.asc_find.specs.Serial.{tasks_of}

pub record LastVisits : Type 0 where
  -- what is guessed
  pub guessing : Guessing
  -- the states of the visit before the last one and of the last one, where they are kept
  pub prev : Option State
  pub last : Option State
  -- the last visit that was guessed
  pub issued : ℕ
  -- the guesses that were listed last
  pub jobs : List Task

-- before the first visit
abbrev pub no_visits : Guessing → LastVisits
no_visits guessing = record { guessing = guessing; prev = None; last = None; issued = 0; jobs = [] }

-- the state of a copy, where there is one
abbrev pub state_in : Option (Arc State Global) → Option State
state_in None = None
state_in (Some copy) = Some copy.value

-- The guesses that are due at a visit, by the state of the visit before: none where that is not kept.
abbrev pub tasks_after : Guessing → (issued number : ℕ) → (prev : Option State) → List Task
tasks_after g issued number None = []
tasks_after g issued number (Some prev) = tasks_of g issued number

-- the last visit that is guessed once those guesses are made
abbrev pub issued_after : Guessing → (issued number : ℕ) → (prev : Option State) → ℕ
issued_after g issued number None = issued
issued_after g issued number (Some prev) = number + g.ahead

-- the state of a visit is kept
abbrev pub kept : State → LastVisits → LastVisits
kept now v = record v { prev = v.last; last = Some now }

-- both states are given up
abbrev pub forgotten : LastVisits → LastVisits
forgotten v = record v { prev = None; last = None }

-- a visit is not guessed from: its guesses are as good as made, and the state before it is given up
abbrev pub skipped : (number : ℕ) → LastVisits → LastVisits
skipped number v = record v { prev = None; issued = number + v.guessing.ahead }

-- the guesses of a visit are listed, whether two states are kept or not
abbrev pub listed : (number : ℕ) → LastVisits → LastVisits
listed number v =
    record v { issued = number + v.guessing.ahead; jobs = tasks_of v.guessing v.issued number }

-- those that are due are listed
abbrev pub planned : (number : ℕ) → LastVisits → LastVisits
planned number v = record v {
  issued = issued_after v.guessing v.issued number v.prev;
  jobs = tasks_after v.guessing v.issued number v.prev;
}
