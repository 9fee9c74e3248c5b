-- The entry of the lap that begins at a visit.
use Rattle.std.specs.Prelude.{◌≡◌, ℕ, ◌<◌, List, Option, None, MatchOption}
use Rattle.std.specs.Arc.{arc_value}
use Rattle.asc_traj.specs.Trace.{guess_bounds}
use Rattle.asc_calls.specs.World.{World}
use Rattle.asc_run.specs.declared.walk.Ended.{Ended}
use Rattle.asc_words.specs.declared.line.RunLine.{RunLine}
use Rattle.asc_inspect.specs.declared.answer.Answer.{Answer}
use Rattle.asc_inspect.specs.declared.answer.Answer.TheVariants as answers
use Rattle.asc_inspect.specs.declared.answer.Reached.TheVariants.{Visits}
use Rattle.asc_inspect.specs.declared.lap.Lap.{Lap}
use Rattle.asc_inspect.specs.declared.request.Visit.{Visit}
use Rattle.asc_inspect.specs.Text.{entry_text}
use Rattle.asc_inspect.specs.Visited.{Comes, EndsBefore, IsLap}

-- a lap has an entry, whose text is this
abbrev pub HasText : Lap → (text : List ℕ) → Type 0
HasText lap text = MatchOption lap.entry ⊥ (λ entry. text ≡ entry_text (arc_value entry) lap.why)

-- The plain run from start came to a visit, before the limit, and this is the lap that begins there. What is left of the
-- input, and the count of steps, are those of that run.
pub record ComesToLap (line : RunLine) (visit : Visit) (start : World) (left : Option (List ℕ)) (steps : ℕ) (lap : Lap)
    : Type 0 where
  pub now : World
  pub count : ℕ
  pub comes : Comes visit.pc visit.number start now count
  pub before : count < line.limit
  pub same_left : left ≡ now.left
  pub same_steps : steps ≡ now.steps
  pub is : IsLap (guess_bounds visit.pc line.laps line.span) now.state lap

-- The plain run from start, up to the limit, ended so before a visit. It had been at the address so often.
pub record EndsBeforeVisit (line : RunLine) (visit : Visit) (start : World) (left : Option (List ℕ)) (steps : ℕ)
    (ended : Ended) (visits : ℕ) : Type 0 where
  pub now : World
  pub count : ℕ
  pub before : visits < visit.number
  pub ends : EndsBefore line.limit visit.pc visits start now count ended
  pub same_left : left ≡ now.left
  pub same_steps : steps ≡ now.steps

-- the text is that of the entry of the lap that begins at a visit
abbrev pub ShowsEntry : RunLine → Visit → (start : World) → (left : Option (List ℕ)) → (steps : ℕ)
    → (text : List ℕ) → Type 0
ShowsEntry line visit start left steps text = (lap : Lap) × ComesToLap line visit start left steps lap × HasText lap text

-- Why there is no such text: the run ended before the visit, or no step goes on from there.
abbrev pub EndsEntry : RunLine → Visit → (start : World) → (left : Option (List ℕ)) → (steps : ℕ) → Answer → Type 0
EndsEntry line visit start left steps answers.Memory = Unit {0}
EndsEntry line visit start left steps answers.NoStep =
    (lap : Lap) × ComesToLap line visit start left steps lap × (lap.entry ≡ None)
EndsEntry line visit start left steps (answers.Ended ended (Visits visits)) =
    EndsBeforeVisit line visit start left steps ended visits
EndsEntry line visit start left steps answer = ⊥
