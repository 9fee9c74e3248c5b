-- Laws on command lines.
use Rattle.std.specs.Prelude.{◌≡◌, ◌⊎◌, codes, List, [], Some, Result, Ok}
use Rattle.clap.specs.Walk.{Row, Text}
use Rattle.clap.specs.Simple.{subcommand_of}
use Rattle.clap.specs.Faults.{fault_of}
use Rattle.asc_words.specs.Command.{asc_command}
use Rattle.asc_words.specs.declared.answer.Bad.{Bad}
use Rattle.asc_words.specs.declared.line.Line.{Line}
use Rattle.asc_words.specs.Line.{IsWithin, batch_of, line_of, make_of, run_of, save_of, trial_of}
use Rattle.asc_words.specs.Rows.{IsBatch, IsMake, IsRun, IsSave, IsTrial}

-- The words name this subcommand, each of its arguments has its value, each number within its range, and the line, or
-- what is wrong, is made of these values.
pub record HaveLineOf (words : List Text) (name : Text) (AreValues : List Row → Type 0) (made : List Row → Result Line Bad) : Type 0 where
  pub rows : List Row
  pub names : subcommand_of asc_command words ≡ Some (name, rows)
  pub values : AreValues rows
  pub line : line_of words ≡ made rows

-- one of the five subcommands
abbrev pub HaveLine : List Text → Type 0
HaveLine words =
    HaveLineOf words (codes "run") IsRun run_of
    ⊎ HaveLineOf words (codes "save") IsSave save_of
    ⊎ HaveLineOf words (codes "make") IsMake make_of
    ⊎ HaveLineOf words (codes "trial") IsTrial trial_of
    ⊎ HaveLineOf words (codes "batch") IsBatch batch_of

-- words that clap does not refuse have a line
abbrev pub TakenWordsHaveLines : Type 0
TakenWordsHaveLines = (words : List Text) → fault_of asc_command words ≡ [] → HaveLine words

-- the numbers of a line are within their ranges
abbrev pub LinesAreWithin : Type 0
LinesAreWithin = (words : List Text) (line : Line) → line_of words ≡ Ok line → IsWithin line
