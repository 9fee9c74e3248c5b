-- The states in which a run was at its visits of an address.
use Rattle.std.specs.Prelude.{◌≡◌, ℕ, List, [], ◌∷◌}
use Rattle.asc_model.specs.State.{State}
use Rattle.asc_calls.specs.World.{World}
use Rattle.asc_run.specs.Execution.{Position, On}
use Rattle.asc_run.specs.Visits.{Course}
use Rattle.asc_run.specs.Way.{Reaches}
use Rattle.asc_inspect.specs.Visited.{IsVisit, visits_before}

-- a run was in this state when it was at the address for the numberth time
pub record WasIn (address number : ℕ) (s : State) (run : Course) : Type 0 where
  pub count : ℕ
  pub visit : IsVisit address number run count
  pub position : Position
  pub stands : run count ≡ On position
  pub state : position.state ≡ s

-- it was in each of these states at the visit of its number
abbrev pub WasInAll : (address : ℕ) → List (ℕ × State) → Course → Type 0
WasInAll address [] run = Unit {0}
WasInAll address (visit ∷ seen) run = WasIn address visit.0 visit.1 run × WasInAll address seen run

-- From start to now a program that had not begun came on for count steps, none of them skipped. Before that it was at
-- the address so often, and in these states.
abbrev pub IsOnWay : (address visits : ℕ) → List (ℕ × State) → (start now : World) → (count : ℕ) → Type 0
IsOnWay address visits seen start now count =
    Reaches (λ run. (visits_before address run count ≡ visits) × WasInAll address seen run)
    start.calls.low start.calls.high start.state start now count 0

-- From start to now it came to that visit, and at earlier ones was in these states.
abbrev pub ComesFrom : (address number : ℕ) → List (ℕ × State) → (start now : World) → (count : ℕ) → Type 0
ComesFrom address number seen start now count =
    Reaches (λ run. IsVisit address number run count × WasInAll address seen run)
    start.calls.low start.calls.high start.state start now count 0
