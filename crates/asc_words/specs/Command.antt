-- The command line of asc as `clap`, the kit's parser of command lines, sees it.
use Rattle.std.specs.Prelude.{ℕ, ◌^◌, ◌-◌, codes, true, false, List, [], ◌∷◌, ◌++◌, Some}
use Rattle.clap.specs.Walk.{Rule, Text}
use Rattle.clap.specs.Simple.{App, Shape, new_rule, new_shape}
use Rattle.clap.specs.declared.builder.action.ArgAction.TheVariants.{Append, SetTrue}
use Rattle.clap.specs.declared.builder.value_parser.ValueParser.TheVariants as parsers
use Rattle.asc_model.specs.declared.limits.TheConstants.{MOST_AHEAD, MOST_ENTRY_STEPS, MOST_WAITING, MOST_WORKERS}

-- an argument without a name, which must be there
abbrev pub required : Text → Rule
required id = record (new_rule id) { required = true }

-- an argument without a name, which must be there: a number from least to most
abbrev pub required_number : Text → ℕ → ℕ → Rule
required_number id least most = record (required id) { parser = Some (parsers.Unsigned least most) }

-- `--NAME N`, a number from least to most, and what it is where it is absent
abbrev pub number_option : Text → ℕ → ℕ → Text → Rule
number_option name least most default = record (new_rule name) {
  long = Some name;
  parser = Some (parsers.Unsigned least most);
  defaults = default ∷ [];
}

-- `--NAME TEXT`, which may be absent
abbrev pub text_option : Text → Rule
text_option name = record (new_rule name) { long = Some name }

-- `--NAME TEXT`, and what it is where it is absent
abbrev pub text_with_default : Text → Text → Rule
text_with_default name default = record (text_option name) { defaults = default ∷ [] }

-- `--NAME`, which takes no value
abbrev pub flag : Text → Rule
flag name = record (new_rule name) { long = Some name; action = Some SetTrue }

-- how many workers a run has
abbrev pub workers_option : Rule
workers_option = number_option (codes "workers") 0 MOST_WORKERS (codes "0")

-- whether they run the guesses of each visit in rounds
abbrev pub rounds_flag : Rule
rounds_flag = flag (codes "rounds")

-- what `asc run`, `asc save` and `asc batch` all take: a row for each argument
abbrev pub shared_arguments : List Rule
shared_arguments =
    required (codes "image")
    ∷ number_option (codes "memory") 64 65536 (codes "1024")
    ∷ number_option (codes "steps") 0 (2 ^ 40) (codes "1099511627776")
    ∷ number_option (codes "machine") 1 2 (codes "2")
    ∷ text_with_default (codes "guess") (codes "stride")
    ∷ text_option (codes "pc")
    ∷ number_option (codes "profile") 2 65536 (codes "4096")
    ∷ number_option (codes "min") 2 65536 (codes "4")
    ∷ number_option (codes "laps") 1 1000000 (codes "1")
    ∷ number_option (codes "span") 1 MOST_ENTRY_STEPS (codes "1000000")
    ∷ number_option (codes "ahead") 1 MOST_AHEAD (codes "4")
    ∷ number_option (codes "queue") 1 MOST_WAITING (codes "256")
    ∷ flag (codes "join")
    ∷ flag (codes "seek")
    ∷ []

-- what `asc run` takes: workers, rounds, a file of saved entries and a report besides
abbrev pub run_arguments : List Rule
run_arguments =
    shared_arguments ++ workers_option ∷ rounds_flag ∷ text_option (codes "load") ∷ flag (codes "report") ∷ []

-- what `asc save` takes
abbrev pub save_arguments : List Rule
save_arguments = shared_arguments

-- the number of a generated image
abbrev pub number_argument : Rule
number_argument = required_number (codes "number") 0 (2 ^ 64 - 1)

-- what `asc make` takes
abbrev pub make_arguments : List Rule
make_arguments = number_argument ∷ []

-- what `asc trial` takes
abbrev pub trial_arguments : List Rule
trial_arguments = number_argument ∷ workers_option ∷ rounds_flag ∷ []

-- the names of the inputs of a batch: an argument without a name, which must be there, and takes a word at each use
abbrev pub inputs_argument : Rule
inputs_argument = record (required (codes "inputs")) { action = Some Append }

-- what `asc batch` takes: workers and a report besides, and behind the image its inputs
abbrev pub batch_arguments : List Rule
batch_arguments = shared_arguments ++ workers_option ∷ flag (codes "report") ∷ inputs_argument ∷ []

-- a subcommand of this name, which takes these arguments
abbrev pub subcommand_with : Text → List Rule → Shape
subcommand_with name arguments = record (new_shape name) { rules = arguments }

abbrev pub run_command : Shape
run_command = subcommand_with (codes "run") run_arguments

abbrev pub save_command : Shape
save_command = subcommand_with (codes "save") save_arguments

abbrev pub make_command : Shape
make_command = subcommand_with (codes "make") make_arguments

abbrev pub trial_command : Shape
trial_command = subcommand_with (codes "trial") trial_arguments

abbrev pub batch_command : Shape
batch_command = subcommand_with (codes "batch") batch_arguments

-- asc with its subcommands, of which one must be there; it has no version, and no flag or subcommand for help
abbrev pub asc_command : App
asc_command = record {
  top = record (new_shape (codes "asc")) {
    is_leaf = false;
    subcommand_required = true;
    disable_help_flag = true;
    disable_help_subcommand = true;
  };
  subs = run_command ∷ save_command ∷ make_command ∷ trial_command ∷ batch_command ∷ [];
}
