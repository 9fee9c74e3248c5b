-- What `asc batch` is asked for, as contracts see it.
use Rattle.std.specs.Prelude.{List}
use Rattle.clap.specs.Walk.{Text}
use Rattle.asc_words.specs.declared.line.RunLine.{RunLine}

-- how each input's run goes, and the inputs' names
pub record BatchLine : Type 0 where
  pub run : RunLine
  pub inputs : List Text
