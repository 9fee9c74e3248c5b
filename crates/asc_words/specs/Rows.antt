-- What clap's answers are to the code: an error as a fault, and the matches of words that it takes.
use Rattle.std.specs.Prelude.{◌≡◌, ℕ, ◌^◌, ◌-◌, ◌||◌, codes, true, List, is_some, Some}
use Rattle.std.specs.Str.{bytes_eq}
use Rattle.clap.specs.Values.{IsUnsignedIn}
use Rattle.clap.specs.Walk.{Row, Text, first_of, one_of}
use Rattle.clap.specs.declared.error.kind.ErrorKind.{ErrorKind}
use Rattle.clap.specs.declared.error.kind.ErrorKind.TheVariants as kinds
use Rattle.asc_model.specs.declared.limits.TheConstants.{MOST_AHEAD, MOST_ENTRY_STEPS, MOST_WAITING, MOST_WORKERS}
use Rattle.asc_words.specs.declared.answer.Bad.TheVariants.{Words}
use Rattle.asc_words.specs.declared.line.LineFault.{LineFault}
use Rattle.asc_words.specs.declared.line.LineFault.TheVariants as faults

-- clap's error as a fault: want of memory, and else wrong words
abbrev pub line_fault : ErrorKind → LineFault
line_fault kinds.OutOfMemory = faults.Memory
line_fault _ = faults.Usage Words

-- a number was found for an option, within its range
pub record HasNumber (id : Text) (least most : ℕ) (rows : List Row) : Type 0 where
  pub text : Text
  pub found : one_of id rows ≡ Some text
  pub accepted : IsUnsignedIn least most text

-- whether a flag was given was found
pub record HasFlag (id : Text) (rows : List Row) : Type 0 where
  pub text : Text
  pub found : one_of id rows ≡ Some text
  pub accepted : (bytes_eq text (codes "true") || bytes_eq text (codes "false")) ≡ true

-- a text was found for an argument
abbrev pub HasText : Text → List Row → Type 0
HasText id rows = is_some (first_of id rows) ≡ true

-- what `asc run`, `asc save` and `asc batch` all take has its values
pub record HasShared (rows : List Row) : Type 0 where
  pub image : HasText (codes "image") rows
  pub memory : HasNumber (codes "memory") 64 65536 rows
  pub limit : HasNumber (codes "steps") 0 (2 ^ 40) rows
  pub machine : HasNumber (codes "machine") 1 2 rows
  pub guess : HasText (codes "guess") rows
  pub profile : HasNumber (codes "profile") 2 65536 rows
  pub least : HasNumber (codes "min") 2 65536 rows
  pub laps : HasNumber (codes "laps") 1 1000000 rows
  pub span : HasNumber (codes "span") 1 MOST_ENTRY_STEPS rows
  pub ahead : HasNumber (codes "ahead") 1 MOST_AHEAD rows
  pub queue : HasNumber (codes "queue") 1 MOST_WAITING rows
  pub join : HasFlag (codes "join") rows
  pub seek : HasFlag (codes "seek") rows

-- what `asc run` takes has its values
pub record IsRun (rows : List Row) : Type 0 where
  pub shared : HasShared rows
  pub workers : HasNumber (codes "workers") 0 MOST_WORKERS rows
  pub rounds : HasFlag (codes "rounds") rows
  pub report : HasFlag (codes "report") rows

-- what `asc save` takes has its values
abbrev pub IsSave : List Row → Type 0
IsSave = HasShared

-- what `asc make` takes has its value
pub record IsMake (rows : List Row) : Type 0 where
  pub number : HasNumber (codes "number") 0 (2 ^ 64 - 1) rows

-- what `asc trial` takes has its values
pub record IsTrial (rows : List Row) : Type 0 where
  pub number : HasNumber (codes "number") 0 (2 ^ 64 - 1) rows
  pub workers : HasNumber (codes "workers") 0 MOST_WORKERS rows
  pub rounds : HasFlag (codes "rounds") rows

-- what `asc batch` takes has its values
pub record IsBatch (rows : List Row) : Type 0 where
  pub shared : HasShared rows
  pub workers : HasNumber (codes "workers") 0 MOST_WORKERS rows
  pub report : HasFlag (codes "report") rows
  pub inputs : HasText (codes "inputs") rows
