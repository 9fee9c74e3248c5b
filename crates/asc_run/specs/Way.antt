-- How far a program has come on its way.
use Rattle.std.specs.Prelude.{◌≡◌, ℕ, ◌+◌, List, ◌++◌, Option}
use Rattle.asc_model.specs.State.{State}
use Rattle.asc_calls.specs.GuestCall.{Io}
use Rattle.asc_calls.specs.World.{World, DoesIo, MayCome, KnowsEnd}
use Rattle.asc_run.specs.Execution.{On, progress, first_position}
use Rattle.asc_run.specs.Turn.{position_in}
use Rattle.asc_run.specs.Visits.{Course, IsVisitedFrom, VisitRule}

-- From old to now a program went on for n steps from its start, of which so many were skipped. What it took and put is
-- io, and its plain run has Q.
pub record Reaches (Q : Course → Type 0) (low high : ℕ) (start : State) (old now : World) (n skipped : ℕ) : Type 0 where
  pub io : Io
  pub does : DoesIo old.outside now.outside io
  pub run : (rest : List ℕ) → MayCome now rest → progress low high (first_position start low (io.taken ++ rest)) n ≡ On (position_in now rest io)
  pub says : (rest : List ℕ) → MayCome now rest → Q (progress low high (first_position start low (io.taken ++ rest)))
  pub known : KnowsEnd now
  pub same_low : now.calls.low ≡ low
  pub same_high : now.calls.high ≡ high
  pub shape : now.state.shape ≡ start.shape
  pub steps : now.steps + skipped ≡ old.steps + n

-- From start to here a program went on for so many steps, none of them skipped. Its run has no visit up to here, and from
-- here on, below a limit, it has one wherever it goes on at this address.
abbrev pub ComesUnvisited : (limit : ℕ) → (rule : Course → VisitRule) → (address : Option ℕ) → (start here : World)
    → (count : ℕ) → Type 0
ComesUnvisited limit rule address start here count =
    Reaches (λ run. IsVisitedFrom limit count address (rule run) run) start.calls.low start.calls.high start.state start here
    count 0
