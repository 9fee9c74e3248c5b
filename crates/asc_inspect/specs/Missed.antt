-- What guesses of a visit have wrong.
use Rattle.std.specs.Prelude.{◌≡◌, ℕ, zero, suc, ◌-◌, ◌<◌, ◌==◌, Bool, MatchBool, codes, decimal, List, [], ◌∷◌, ◌++◌, map, take, slice_index, slice_index_or, Option, Some, None, is_some, if◌then◌else◌}
use Rattle.std.specs.Arc.{arc_value}
use Rattle.std.specs.List.{list_all}
use Rattle.hex.specs.Hex.{encode_lower}
use Rattle.asc_model.specs.declared.why.Why.{Why}
use Rattle.asc_model.specs.State.{State}
use Rattle.asc_model.specs.Entry.{Entry}
use Rattle.asc_guess.specs.declared.kind.Kind.{Kind}
use Rattle.asc_guess.specs.declared.kind.Kind.TheVariants as kinds
use Rattle.asc_guess.specs.Guess.{guess_of}
use Rattle.asc_traj.specs.Content.{matches}
use Rattle.asc_traj.specs.Trace.{guess_bounds}
use Rattle.asc_calls.specs.World.{World}
use Rattle.asc_words.specs.declared.line.RunLine.{RunLine}
use Rattle.asc_inspect.specs.declared.answer.Answer.{Answer}
use Rattle.asc_inspect.specs.declared.answer.Answer.TheVariants as answers
use Rattle.asc_inspect.specs.declared.answer.Reached.TheVariants.{Visits}
use Rattle.asc_inspect.specs.declared.lap.Lap.{Lap}
use Rattle.asc_inspect.specs.declared.request.Visit.{Visit}
use Rattle.asc_inspect.specs.Text.{place_text, why_text, word_of}
use Rattle.asc_inspect.specs.Visited.{EndsBefore, IsLap}
use Rattle.asc_inspect.specs.Entered.{EndsBeforeVisit}
use Rattle.asc_inspect.specs.Standing.{ComesFrom}

-- ---- the text

-- the bytes of cells in hexadecimal digits, the last one first
abbrev pub hex_of : List (ℕ × ℕ) → List ℕ
hex_of [] = []
hex_of (cell ∷ rest) = hex_of rest ++ encode_lower (cell.1 ∷ [])

-- the same places, with the bytes that a state has there
abbrev pub met_cells : State → List (ℕ × ℕ) → List (ℕ × ℕ)
met_cells now cells = map (λ cell. (cell.0, slice_index now.bytes cell.0)) cells

-- whether a state has each of these bytes
abbrev pub has_cells : State → List (ℕ × ℕ) → Bool
has_cells now cells = list_all (λ cell. slice_index now.bytes cell.0 == cell.1) cells

-- the line of cells that were guessed, from the place of the first one on, where a state has other bytes there
abbrev pub miss_line : (now : State) → List (ℕ × ℕ) → List ℕ
miss_line now cells = if has_cells now cells then [] else codes "  " ++ place_text now.shape (slice_index_or cells 0 (0, 0)).0
    ++ codes " guessed " ++ hex_of cells ++ codes " met " ++ hex_of (met_cells now cells) ++ codes "\n"

-- of how many of some cells the first line is: of the four places of a word, where all are there, and else of one place
abbrev pub line_length : List (ℕ × ℕ) → ℕ
line_length cells = if is_some (word_of cells) then 4 else 1

-- the lines of cells that were guessed but the first so many
unfoldable pub misses_text : (now : State) → (skipped : ℕ) → List (ℕ × ℕ) → List ℕ
misses_text now skipped [] = []
misses_text now (suc k) (cell ∷ rest) = misses_text now k rest
misses_text now zero (cell ∷ rest) =
    miss_line now (take (line_length (cell ∷ rest)) (cell ∷ rest)) ++ misses_text now (line_length (cell ∷ rest) - 1) rest

abbrev pub kind_text : Kind → List ℕ
kind_text kinds.Last = codes "last"
kind_text kinds.Stride = codes "stride"

-- what a state has of the reads of a guess's entry
abbrev pub reads_text : (now : State) → Entry → List ℕ
reads_text now e = if matches now e then codes "  all that it reads is met\n" else misses_text now 0 e.reads

-- the trace of a guess: the steps of its entry, what ended it, and what a state has of its reads
abbrev pub lap_text : (now : State) → Why → Option Entry → List ℕ
lap_text now why None = codes ": no step\n"
lap_text now why (Some e) = codes ": steps " ++ decimal e.steps ++ why_text why ++ codes "\n" ++ reads_text now e

abbrev pub entry_in : Lap → Option Entry
entry_in lap = elim lap.entry [ Some entry ↦ Some (arc_value entry) | None ↦ None ]

-- what was met of a guess of this kind, of which this is the lap
abbrev pub guess_text : Kind → (now : State) → Lap → List ℕ
guess_text kind now lap = kind_text kind ++ lap_text now lap.why (entry_in lap)

-- ---- what is shown

-- The text of a guess of this kind of the next visit, from the states at the last two, of which the second is `last`.
-- The guess is traced as that of a job would be.
pub record IsGuessText (line : RunLine) (address : ℕ) (kind : Kind) (prev last now : State) (text : List ℕ) : Type 0 where
  pub lap : Lap
  pub is : IsLap (guess_bounds address line.laps line.span) (guess_of kind 1 prev last) lap
  pub tells : text ≡ guess_text kind now lap

-- whether guesses of a kind are on
abbrev pub is_on : RunLine → Kind → Bool
is_on line kinds.Last = line.last
is_on line kinds.Stride = line.stride

-- the text of a kind; of one that is off there is none
abbrev pub IsKindText : RunLine → (address : ℕ) → Kind → (prev last now : State) → List ℕ → Type 0
IsKindText line address kind prev last now text =
    MatchBool (is_on line kind) (IsGuessText line address kind prev last now text) (text ≡ [])

-- the text of all kinds
pub record IsMissText (line : RunLine) (address : ℕ) (prev last now : State) (text : List ℕ) : Type 0 where
  pub last_text : List ℕ
  pub stride_text : List ℕ
  pub by_last : IsKindText line address kinds.Last prev last now last_text
  pub by_stride : IsKindText line address kinds.Stride prev last now stride_text
  pub whole : text ≡ last_text ++ stride_text

-- The plain run came to that visit, before the limit, and this is what guesses from the states at the two visits before
-- have wrong. What was taken from the input, and the count of steps, are that run's.
pub record ShowsMisses (line : RunLine) (visit : Visit) (start : World) (left : Option (List ℕ)) (steps : ℕ) (text : List ℕ)
    : Type 0 where
  pub prev : State
  pub last : State
  pub now : World
  pub count : ℕ
  pub comes : ComesFrom visit.pc visit.number ((visit.number - 1, last) ∷ (visit.number - 2, prev) ∷ []) start now count
  pub before : count < line.limit
  pub same_left : left ≡ now.left
  pub same_steps : steps ≡ now.steps
  pub is : IsMissText line visit.pc prev last now.state text

-- why there is no such text
abbrev pub EndsMisses : RunLine → Visit → (start : World) → (left : Option (List ℕ)) → (steps : ℕ) → Answer → Type 0
EndsMisses line visit start left steps answers.Memory = Unit {0}
EndsMisses line visit start left steps (answers.Ended ended (Visits visits)) =
    EndsBeforeVisit line visit start left steps ended visits
EndsMisses line visit start left steps answer = ⊥

-- ---- on the way

-- Why a run from start did not come to a visit: it ended so before, or memory was wanting.
abbrev pub StopsShort : (limit : ℕ) → Visit → (start now : World) → (count : ℕ) → Answer → Type 0
StopsShort limit visit start now count answers.Memory = Unit {0}
StopsShort limit visit start now count (answers.Ended ended (Visits visits)) =
    (visits < visit.number) × EndsBefore limit visit.pc visits start now count ended
StopsShort limit visit start now count answer = ⊥
