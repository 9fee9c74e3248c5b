-- What the words of a command line mean.
use Rattle.std.specs.Prelude.{ℕ, ◌≡◌, ◌^◌, ◌<◌, ◌≤◌, ◌==◌, ◌&&◌, Bool, true, false, codes, nat_le, nat_lt, List, [], length, Option, Some, None, Result, Ok, Err, unwrap_or, if◌then◌else◌}
use Rattle.std.specs.Char.{is_ascii_hexdigit}
use Rattle.std.specs.List.{list_all}
use Rattle.std.specs.Result.{result_map_both}
use Rattle.std.specs.Str.{bytes_eq}
use Rattle.std.specs.Str.Parse.{digits_value, without_leading_plus}
use Rattle.clap.specs.Walk.{Row, Text, all_of, first_of, one_of, is_empty}
use Rattle.clap.specs.Simple.{subcommand_of}
use Rattle.clap.specs.Faults.{fault_of}
use Rattle.asc_words.specs.declared.line.TheConstants.{FILE_LIMIT}
use Rattle.asc_model.specs.declared.limits.TheConstants.{MOST_AHEAD, MOST_ENTRY_STEPS, MOST_WAITING, MOST_WORKERS}
use Rattle.asc_model.specs.declared.version.Version.{Version}
use Rattle.asc_model.specs.declared.version.Version.TheVariants.{One, Two}
use Rattle.asc_seek.specs.declared.seeker.Seeking.{Seeking}
use Rattle.asc_words.specs.declared.answer.Bad.{Bad}
use Rattle.asc_words.specs.declared.answer.Bad.TheVariants.{Words, Pc, Inputs}
use Rattle.asc_words.specs.declared.line.Line.{Line}
use Rattle.asc_words.specs.declared.line.Line.TheVariants.{Run, Save, Make, Trial, Batch}
use Rattle.asc_words.specs.declared.line.Guesses.{Guesses}
use Rattle.asc_words.specs.declared.line.RunLine.{RunLine}
use Rattle.asc_words.specs.Batch.{BatchLine}
use Rattle.asc_words.specs.Command.{asc_command}

-- a file that is read has at most 64 MiB
abbrev pub file_limit : ℕ
file_limit = FILE_LIMIT

-- a batch has at most 64 inputs
abbrev pub most_inputs : ℕ
most_inputs = 64

-- ---- the values that clap found for an argument

abbrev pub text_in : Text → List Row → Text
text_in id rows = unwrap_or (first_of id rows) []

-- a number is decimal digits, with at most one `+` before them
abbrev pub number_in : Text → List Row → ℕ
number_in id rows = digits_value 10 (without_leading_plus (unwrap_or (one_of id rows) []))

abbrev pub flag_in : Text → List Row → Bool
flag_in id rows = bytes_eq (unwrap_or (one_of id rows) []) (codes "true")

-- the names of the inputs, in the order of the words
abbrev pub inputs_in : List Row → List Text
inputs_in rows = unwrap_or (all_of (codes "inputs") rows) []

-- an address is 1 to 8 hexadecimal digits, of either case
abbrev pub is_address : Text → Bool
is_address text = nat_le 1 (length text) && nat_le (length text) 8 && list_all is_ascii_hexdigit text

-- the address of an option that may be absent, whose value must be one
abbrev pub address_of : Option Text → Result (Option ℕ) Bad
address_of None = Ok None
address_of (Some text) = if is_address text then Ok (Some (digits_value 16 text)) else Err Pc

-- The guesses that a word asks for: those whose words are those of the last visit, and those whose words go on by their
-- differences between the last two visits.
abbrev pub guesses_of : Text → Result Guesses Bad
guesses_of text =
    if bytes_eq text (codes "none") then Ok (record { last = false; stride = false })
    else if bytes_eq text (codes "last") then Ok (record { last = true; stride = false })
    else if bytes_eq text (codes "stride") then Ok (record { last = false; stride = true })
    else if bytes_eq text (codes "both") then Ok (record { last = true; stride = true })
    else Err Words

-- how many workers go beside a run: none where it goes in rounds
abbrev pub beside_in : List Row → ℕ
beside_in rows = if flag_in (codes "rounds") rows then 0 else number_in (codes "workers") rows

-- how many workers follow the guesses of each visit beside the run's own thread, where it goes in rounds
abbrev pub lanes_in : List Row → ℕ
lanes_in rows = if flag_in (codes "rounds") rows then number_in (codes "workers") rows else 0

-- ---- lines

abbrev pub version_numbered : ℕ → Version
version_numbered number = if number == 1 then One else Two

-- what `asc run`, `asc save` and `asc batch` are all asked for, with no workers, no lanes, no report and no saved entries
abbrev pub shared_with : List Row → Guesses → (pc : Option ℕ) → RunLine
shared_with rows guesses pc = record {
  image = text_in (codes "image") rows;
  memory = number_in (codes "memory") rows;
  limit = number_in (codes "steps") rows;
  version = version_numbered (number_in (codes "machine") rows);
  last = guesses.last;
  stride = guesses.stride;
  pc = pc;
  profile = number_in (codes "profile") rows;
  least = number_in (codes "min") rows;
  laps = number_in (codes "laps") rows;
  span = number_in (codes "span") rows;
  ahead = number_in (codes "ahead") rows;
  workers = 0;
  lanes = 0;
  queue = number_in (codes "queue") rows;
  join = flag_in (codes "join") rows;
  seek = flag_in (codes "seek") rows;
  report = false;
  load = None;
}

-- wrong words come before a wrong address
abbrev pub shared_at : List Row → Result Guesses Bad → Result (Option ℕ) Bad → Result RunLine Bad
shared_at rows (Err bad) pc = Err bad
shared_at rows (Ok guesses) (Ok pc) = Ok (shared_with rows guesses pc)
shared_at rows (Ok guesses) (Err bad) = Err bad

-- this, of what clap found for the arguments, or what is wrong with them
abbrev pub shared_of : List Row → Result RunLine Bad
shared_of rows = shared_at rows (guesses_of (text_in (codes "guess") rows)) (address_of (first_of (codes "pc") rows))

-- with what only `asc run` is asked for
abbrev pub run_with : List Row → RunLine → RunLine
run_with rows line = record line {
  workers = beside_in rows;
  lanes = lanes_in rows;
  report = flag_in (codes "report") rows;
  load = first_of (codes "load") rows;
}

-- the line of `asc run`
abbrev pub run_of : List Row → Result Line Bad
run_of rows = result_map_both (λ line. Run (run_with rows line)) (λ bad. bad) (shared_of rows)

-- the line of `asc save`
abbrev pub save_of : List Row → Result Line Bad
save_of rows = result_map_both (λ line. Save line) (λ bad. bad) (shared_of rows)

-- the line of `asc make`
abbrev pub make_of : List Row → Result Line Bad
make_of rows = Ok (Make (number_in (codes "number") rows))

-- the line of `asc trial`
abbrev pub trial_of : List Row → Result Line Bad
trial_of rows = Ok (Trial (number_in (codes "number") rows) (beside_in rows) (lanes_in rows))

-- with what only `asc batch` is asked for
abbrev pub batch_with : List Row → RunLine → BatchLine
batch_with rows line = record {
  run = record line { workers = number_in (codes "workers") rows; report = flag_in (codes "report") rows };
  inputs = inputs_in rows;
}

-- Other wrong words come before too many inputs.
abbrev pub batch_at : List Row → Result RunLine Bad → Result Line Bad
batch_at rows (Err bad) = Err bad
batch_at rows (Ok line) =
    if nat_le (length (inputs_in rows)) most_inputs then Ok (Batch (batch_with rows line)) else Err Inputs

-- the line of `asc batch`
abbrev pub batch_of : List Row → Result Line Bad
batch_of rows = batch_at rows (shared_of rows)

-- the line of a subcommand and of what clap found for its arguments
abbrev pub line_found : Option (Text × List Row) → Result Line Bad
line_found (Some (name, rows)) =
    if bytes_eq name (codes "run") then run_of rows
    else if bytes_eq name (codes "save") then save_of rows
    else if bytes_eq name (codes "make") then make_of rows
    else if bytes_eq name (codes "trial") then trial_of rows
    else if bytes_eq name (codes "batch") then batch_of rows
    else Err Words
line_found None = Err Words

-- The line that clap's simple command gives for these words, or what is wrong with them. The first word is the program's
-- name.
unfoldable pub line_of : List Text → Result Line Bad
line_of words =
    if is_empty (fault_of asc_command words) then line_found (subcommand_of asc_command words)
    else Err Words

-- the steps that the laps of a sought address have to have beside workers: a jump over fewer gains less than a visit takes
abbrev pub worth_steps : ℕ
worth_steps = 500

-- what is sought in a run, where it has no address
abbrev pub seeking_of : RunLine → Seeking
seeking_of line = record {
  least = line.least;
  least_lap = if nat_lt 0 line.workers then worth_steps else 1;
  ahead = line.ahead;
}

-- a number is from least to most
abbrev pub IsBetween : ℕ → ℕ → ℕ → Type 0
IsBetween least most number = (least ≤ number) × (number ≤ most)

-- the numbers of `asc run` are within their ranges
pub record IsRunWithin (line : RunLine) : Type 0 where
  pub memory : IsBetween 64 65536 line.memory
  pub limit : line.limit ≤ 2 ^ 40
  pub profile : IsBetween 2 65536 line.profile
  pub least : IsBetween 2 65536 line.least
  pub laps : IsBetween 1 1000000 line.laps
  pub span : IsBetween 1 MOST_ENTRY_STEPS line.span
  pub ahead : IsBetween 1 MOST_AHEAD line.ahead
  pub workers : line.workers ≤ MOST_WORKERS
  pub lanes : line.lanes ≤ MOST_WORKERS
  pub rounds : 0 < line.lanes → line.workers ≡ 0
  pub queue : IsBetween 1 MOST_WAITING line.queue

-- so are those of `asc save`, which has no workers, no lanes, no report and no saved entries
pub record IsSaveWithin (line : RunLine) : Type 0 where
  pub within : IsRunWithin line
  pub alone : line.workers ≡ 0
  pub no_lanes : line.lanes ≡ 0
  pub quiet : line.report ≡ false
  pub loads_none : line.load ≡ None

-- So are those of `asc batch`, which has no lanes and no saved entries, and 1 to 64 inputs.
pub record IsBatchWithin (line : BatchLine) : Type 0 where
  pub within : IsRunWithin line.run
  pub no_lanes : line.run.lanes ≡ 0
  pub loads_none : line.run.load ≡ None
  pub some : 1 ≤ length line.inputs
  pub few : length line.inputs ≤ most_inputs

-- its numbers are within their ranges
abbrev pub IsWithin : Line → Type 0
IsWithin (Run line) = IsRunWithin line
IsWithin (Save line) = IsSaveWithin line
IsWithin (Make n) = n < 2 ^ 64
IsWithin (Trial n workers lanes) = (n < 2 ^ 64) × (workers ≤ MOST_WORKERS) × (lanes ≤ MOST_WORKERS) × (0 < lanes → workers ≡ 0)
IsWithin (Batch line) = IsBatchWithin line
