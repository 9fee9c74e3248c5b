-- A run without workers: its machine at first, and its numbers.
use Rattle.std.specs.Prelude.{◌≡◌, ℕ, ◌+◌, List, None}
use Rattle.asc_model.specs.declared.run_counts.RunCounts.{RunCounts}
use Rattle.asc_model.specs.Shape.{Shape}
use Rattle.asc_model.specs.Entry.{Entry}
use Rattle.asc_find.specs.declared.guessing.Guessing.{Guessing}
use Rattle.asc_find.specs.Serial.{Serial}
use Rattle.asc_run.specs.Execution.{run_of}
use Rattle.asc_run.specs.Visits.{Course, Visit, AreVisits, jumps_of, VisitRule}
use Rattle.asc_run.specs.Helped.{IsSerial}
use Rattle.asc_run.specs.Walk.{jumps}

-- the machine before its first visit, with this content
abbrev pub serial_of : Shape → Guessing → (content : List Entry) → Serial
serial_of shape guessing content =
    record { shape = shape; guessing = guessing; prev = None; last = None; issued = 0; content = content }

-- What is told of a run: the steps that were executed and those that were jumped over, the visits, the jumps, and the
-- guesses that were made.
pub record Numbers : Type 0 where
  pub run : RunCounts
  pub made : ℕ

-- These are the numbers of a run without workers, with guesses of this kind, which has these entries before its first
-- visit.
pub record IsSerialRun (limit : ℕ) (rule : VisitRule) (run : Course) (shape : Shape) (guessing : Guessing)
    (first : List Entry) (numbers : Numbers) : Type 0 where
  -- its visits up to the limit: at each the machine learns of the state, and then gives the reply
  pub visits : List Visit
  pub are : AreVisits limit run rule visits limit
  -- the machine at its end, and the guesses that it made
  pub now : Serial
  pub serial : IsSerial limit run (serial_of shape guessing first) visits now numbers.made
  -- how many visits there were, how many steps their jumps gave, and how many jumps there were
  pub jumps : jumps_of visits (jumps 0 0 0) ≡ jumps numbers.run.asked numbers.run.skipped numbers.run.hits
  -- the other steps of the run were executed
  pub executed : numbers.run.executed + numbers.run.skipped ≡ (run_of limit (run limit)).count
