-- Where a run without workers is visited that seeks its address.
use Rattle.std.specs.Prelude.{◌≡◌, ℕ, ◌++◌, codes, decimal, List, [], Option, Some, None}
use Rattle.asc_model.specs.Machine.{view_of}
use Rattle.asc_model.specs.Shape.{Shape}
use Rattle.asc_model.specs.State.{State}
use Rattle.asc_calls.specs.GuestCall.{Device}
use Rattle.asc_calls.specs.World.{World}
use Rattle.asc_find.specs.Finder.{Jumps}
use Rattle.asc_find.specs.Serial.{Serial}
use Rattle.asc_run.specs.declared.walk.Ended.{Ended}
use Rattle.asc_run.specs.Execution.{device_of}
use Rattle.asc_run.specs.Helped.{IsSerial}
use Rattle.asc_run.specs.SerialRun.{serial_of}
use Rattle.asc_run.specs.Visits.{AreVisits, Course, Visit, visit_rule, jumps_of}
use Rattle.asc_run.specs.Walk.{Follows, StopsAt, jumps}
use Rattle.asc_top.specs.Numbers.{guessing_of, recognised_by}
use Rattle.asc_words.specs.declared.line.RunLine.{RunLine}
use Rattle.asc_inspect.specs.declared.answer.Answer.{Answer}
use Rattle.asc_inspect.specs.declared.answer.Answer.TheVariants as answers
use Rattle.asc_inspect.specs.declared.answer.Reached.TheVariants as reached
use Rattle.asc_inspect.specs.Profile.{chosen_text, until_text}

-- the address of the last of two visits or more
abbrev pub last_address : (prev last : Option State) → Option ℕ
last_address None last = None
last_address (Some before) None = None
last_address (Some before) (Some now) = Some (view_of now).pc

-- The text: how many steps the run has, and how it ended; the address at which it was visited last; how often it was
-- visited, the jumps, and the steps that they gave.
abbrev pub sought_text : Ended → (count : ℕ) → (address : Option ℕ) → Jumps → List ℕ
sought_text ended count address t =
    codes "steps " ++ decimal count ++ until_text ended
    ++ codes "\naddress " ++ chosen_text address
    ++ codes "\nvisits " ++ decimal t.asked
    ++ codes " jumps " ++ decimal t.hits
    ++ codes " skipped " ++ decimal t.given ++ codes "\n"

-- these are the visits of a run without workers up to the limit, and so the machine stands at its end
pub record IsVisitedAlone (line : RunLine) (shape : Shape) (visits : List Visit) (now : Serial) (made : ℕ) (run : Course)
    : Type 0 where
  pub are : AreVisits line.limit run (visit_rule (recognised_by line) run) visits line.limit
  pub serial : IsSerial line.limit run (serial_of shape (guessing_of line) []) visits now made

-- This is the text of the run without workers up to the limit, in which no device failed. What was taken from the input,
-- and the count of steps that were executed, are that run's.
pub record ShowsSought (line : RunLine) (start : World) (left : Option (List ℕ)) (steps : ℕ) (text : List ℕ) : Type 0
  where
    pub now : World
    pub count : ℕ
    pub ended : Ended
    pub visits : List Visit
    pub machine : Serial
    pub made : ℕ
    pub sound : device_of ended ≡ None
    pub follows : Follows line.limit (IsVisitedAlone line start.state.shape visits machine made) start now count
        (jumps_of visits (jumps 0 0 0)).given ended
    pub same_left : left ≡ now.left
    pub same_steps : steps ≡ now.steps
    pub is : text ≡ sought_text ended count (last_address machine.prev machine.last) (jumps_of visits (jumps 0 0 0))

-- a device failed on the run, so many steps from its start, of which some were jumped over
pub record SoughtFails (line : RunLine) (start : World) (left : Option (List ℕ)) (steps : ℕ) (ended : Ended) (count : ℕ)
    : Type 0 where
  pub now : World
  pub skipped : ℕ
  pub device : Device
  pub failed : device_of ended ≡ Some device
  pub stops : StopsAt line.limit (λ run. Unit {0}) start now count skipped device
  pub same_left : left ≡ now.left
  pub same_steps : steps ≡ now.steps

-- why there is no text
abbrev pub EndsSought : RunLine → (start : World) → (left : Option (List ℕ)) → (steps : ℕ) → Answer → Type 0
EndsSought line start left steps (answers.Ended ended (reached.Steps count)) = SoughtFails line start left steps ended count
EndsSought line start left steps answers.Memory = Unit {0}
EndsSought line start left steps answer = ⊥
