-- The visits of an address on a plain run, and the entry of the lap that begins at one of them.
use Rattle.std.specs.Prelude.{◌≡◌, ℕ, zero, suc, ◌+◌, ◌<◌, true, if◌then◌else◌, Some, MatchOption}
use Rattle.std.specs.Arc.{arc_value}
use Rattle.asc_model.specs.State.{State}
use Rattle.asc_model.specs.Entry.{entry_of}
use Rattle.asc_model.specs.Reach.{Bounds, IsReach}
use Rattle.asc_calls.specs.World.{World}
use Rattle.asc_run.specs.Visits.{Course, goes_on_at}
use Rattle.asc_run.specs.Way.{Reaches}
use Rattle.asc_run.specs.Walk.{Goes}
use Rattle.asc_run.specs.declared.walk.Ended.{Ended}
use Rattle.asc_inspect.specs.declared.lap.Lap.{Lap}

-- at how many of a run's first counts, from 0 on, it goes on at an address
unfoldable pub visits_before : (address : ℕ) → Course → ℕ → ℕ
visits_before address run zero = 0
visits_before address run (suc n) =
    visits_before address run n + (if goes_on_at (Some address) (run n) then 1 else 0)

-- a run is at the address after count steps, for the numberth time
pub record IsVisit (address number : ℕ) (run : Course) (count : ℕ) : Type 0 where
  pub stands : goes_on_at (Some address) (run count) ≡ true
  pub times : visits_before address run count + 1 ≡ number

-- From old to new a program that had not begun came to that visit in count steps, none of them skipped.
abbrev pub Comes : (address number : ℕ) → (old new : World) → (count : ℕ) → Type 0
Comes address number old new count =
    Reaches (λ run. IsVisit address number run count) old.calls.low old.calls.high old.state old new count 0

-- From old to new it ended before, as plain execution up to a limit does; it was at the address so often.
abbrev pub EndsBefore : (limit address visits : ℕ) → (old new : World) → (count : ℕ) → Ended → Type 0
EndsBefore limit address visits old new count ended =
    Goes limit (λ to run. visits_before address run to ≡ visits) old new count 0 ended

-- A trace of a state ends for this reason after so many steps, and their entry is this one, where there are any.
pub record IsLap (bounds : Bounds) (s : State) (lap : Lap) : Type 0 where
  pub steps : ℕ
  pub reach : IsReach bounds s steps lap.why
  pub entry : MatchOption lap.entry (steps ≡ 0)
      (λ entry. (0 < steps) × (entry_of steps s ≡ Some (arc_value entry)))
