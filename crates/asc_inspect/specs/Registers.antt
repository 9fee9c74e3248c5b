-- The registers of a plain run after a count of steps, and the word at the pc.
use Rattle.std.specs.Prelude.{◌≡◌, ℕ, ◌++◌, ◌≤◌, ◌<◌, codes, decimal, List, [], map, slice_index, Option, if◌then◌else◌}
use Rattle.asc_model.specs.Machine.{view_of}
use Rattle.asc_model.specs.Places.{places_from}
use Rattle.asc_model.specs.Shape.{holds, place_of, start_of}
use Rattle.asc_model.specs.State.{State}
use Rattle.asc_calls.specs.World.{World}
use Rattle.asc_run.specs.Way.{Reaches}
use Rattle.asc_run.specs.Walk.{Goes}
use Rattle.asc_run.specs.declared.walk.Ended.{Ended}
use Rattle.asc_run.specs.declared.walk.Ended.TheVariants.{Exit}
use Rattle.asc_words.specs.declared.line.RunLine.{RunLine}
use Rattle.asc_inspect.specs.declared.answer.Answer.{Answer}
use Rattle.asc_inspect.specs.declared.answer.Answer.TheVariants as answers
use Rattle.asc_inspect.specs.declared.answer.Reached.TheVariants.{Steps}
use Rattle.asc_inspect.specs.Text.{cells_text}

-- From old to new a program that had not begun came so many steps, none of them skipped.
abbrev pub ComesTo : (count : ℕ) → (old new : World) → Type 0
ComesTo count old new = Reaches (λ _. Unit {0}) old.calls.low old.calls.high old.state old new count 0

-- A run that ended so after a count of steps does not go on at the one that is wanted: the call by which a program ends
-- is its last step, and all else that ends a run is no step.
abbrev pub IsBefore : Ended → (count wanted : ℕ) → Type 0
IsBefore (Exit code) count wanted = count ≤ wanted
IsBefore ended count wanted = count < wanted

-- From old to new it ended so before the step that is wanted, as plain execution up to a limit does.
pub record EndsBeforeStep (limit wanted : ℕ) (old new : World) (count : ℕ) (ended : Ended) : Type 0 where
  pub goes : Goes limit (λ _ _. Unit {0}) old new count 0 ended
  pub before : IsBefore ended count wanted

-- ---- the text

-- n cells of a state, each a place with its byte, from a place on
abbrev pub cells_from : State → (place n : ℕ) → List (ℕ × ℕ)
cells_from s place n = map (λ p. (p, slice_index s.bytes p)) (places_from place n)

-- the cells of the word at the pc, where it is in memory
abbrev pub pc_cells : State → List (ℕ × ℕ)
pc_cells s = if holds s.shape (view_of s).pc 4 then cells_from s (place_of s.shape (view_of s).pc) 4 else []

-- how many steps there were, the words before memory, and the word at the pc
abbrev pub registers_text : (steps : ℕ) → State → List ℕ
registers_text steps s = codes "steps " ++ decimal steps ++ codes "\n"
    ++ cells_text s.shape 0 (cells_from s 0 (start_of s.shape.version)) ++ cells_text s.shape 0 (pc_cells s)

-- ---- what is shown

-- The plain run from start came so many steps, at most as many as the limit, and the text is that of the state to which
-- they lead.
pub record ShowsRegisters (line : RunLine) (wanted : ℕ) (start : World) (left : Option (List ℕ)) (steps : ℕ)
    (text : List ℕ) : Type 0 where
  pub now : World
  pub comes : ComesTo wanted start now
  pub within : wanted ≤ line.limit
  pub same_left : left ≡ now.left
  pub same_steps : steps ≡ now.steps
  pub is : text ≡ registers_text wanted now.state

-- the plain run from start, up to the limit, ended so before it came so many steps
pub record EndsBeforeCount (line : RunLine) (wanted : ℕ) (start : World) (left : Option (List ℕ)) (steps : ℕ)
    (ended : Ended) (count : ℕ) : Type 0 where
  pub now : World
  pub ends : EndsBeforeStep line.limit wanted start now count ended
  pub same_left : left ≡ now.left
  pub same_steps : steps ≡ now.steps

-- why there is no such text
abbrev pub EndsRegisters : RunLine → (wanted : ℕ) → (start : World) → (left : Option (List ℕ)) → (steps : ℕ) → Answer
    → Type 0
EndsRegisters line wanted start left steps answers.Memory = Unit {0}
EndsRegisters line wanted start left steps (answers.Ended ended (Steps count)) =
    EndsBeforeCount line wanted start left steps ended count
EndsRegisters line wanted start left steps answer = ⊥
