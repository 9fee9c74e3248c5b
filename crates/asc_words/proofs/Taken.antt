-- What is known of words that clap takes for asc's command.
use Rattle.std.proofs.Common.{◌≡◌, ◌∙◌, ◌||◌, ◌^◌, ◌-◌, ◌⊎◌, ℕ, zero, suc, inl, inr, Bool, codes, cond, true, false, not, refl, ap, subst, List, [], ◌∷◌, ◌++◌, Option, Some, None, is_some}
use Rattle.std.specs.Prelude.{option_and_then, option_map, slice_get}
use Rattle.std.specs.List.{find}
use Rattle.std.specs.Str.{bytes_eq}
use Rattle.std.specs.Option.{option_map_or}
use Rattle.clap.specs.ValueTests.{accepts}
use Rattle.clap.proofs.ValueTestLemmas.{accepts-Accepts}
use Rattle.clap.specs.Values.{read_as, reading_of}
use Rattle.clap.specs.Facts.{parser_of_value}
use Rattle.clap.specs.declared.builder.value_parser.Reading.TheVariants.{AsWritten}
use Rattle.clap.specs.declared.builder.value_parser.ValueParser.{ValueParser}
use Rattle.clap.specs.declared.builder.value_parser.ValueParser.TheVariants as parsers
use Rattle.clap.specs.Walk.{Held, Names, Row, Rule, Text, answers_to, finished, nothing_held, row_text, settled, stop_after, walk, walk_from, is_empty}
use Rattle.clap.specs.Simple.{Shape, argument_words, built, entered, filled, label_of, with_index, names_of, rows_at, subcommand_of}
use Rattle.clap.specs.Takes.{is_given}
use Rattle.clap.specs.Kinds.{Kinds, or_else}
use Rattle.clap.specs.Faults.{check_fault, defaults_fault, entered_fault, fault_of, level_fault, settle_fault, walk_fault}
use Rattle.clap.specs.declared.error.kind.ErrorKind.TheVariants as kind
use Rattle.asc_words.specs.Command.{asc_command, flag, inputs_argument, number_argument, number_option, required, rounds_flag, run_command, text_option, text_with_default, workers_option}
use Rattle.asc_words.specs.Rows.{HasFlag, HasNumber, HasShared, HasText, IsBatch, IsMake, IsRun, IsSave, IsTrial}
use Rattle.asc_words.proofs.Fitting.{AllFit, AreDistinct, AreOptions, Found, distinct_of, options_of, defaults_fit, found_for, given_row, made_by_defaults, neither, not_chosen, settle_fits, walk_fits}

-- ---- a level of a command

-- no step of a level fails
record Passes (s : Shape) (names : Names) (words : List Text) (has_subcommand : Bool) (below : Kinds) : Type 0 where
  of_walk : walk_fault s names (walk_from nothing_held) words ≡ []
  of_below : below ≡ []
  of_pending : settle_fault s.rules s.args_override_self (walk s.rules names nothing_held words).held ≡ []
  of_defaults : defaults_fault (settled s.rules (walk s.rules names nothing_held words).held).rows s.rules ≡ []
  of_check : check_fault s (finished s.rules (walk s.rules names nothing_held words).held) has_subcommand ≡ []

passes : (s : Shape) (names : Names) (words : List Text) (has_subcommand : Bool) (below : Kinds) → level_fault s names nothing_held words has_subcommand below ≡ []
    → Passes s names words has_subcommand below
passes s names words has_subcommand below none =
    let end = (walk s.rules names nothing_held words).held in
    let last = check_fault s (finished s.rules end) has_subcommand in
    let defaults = defaults_fault (settled s.rules end).rows s.rules in
    let settles = settle_fault s.rules s.args_override_self end in
    let one = neither (walk_fault s names (walk_from nothing_held) words) (or_else below (or_else settles (or_else defaults last))) none in
    let two = neither below (or_else settles (or_else defaults last)) one.1 in
    let three = neither settles (or_else defaults last) two.1 in
    let four = neither defaults last three.1 in
    record { of_walk = one.0; of_below = two.0; of_pending = three.0; of_defaults = four.0; of_check = four.1 }

-- a number in its range was found for an option
has_number : (a : Rule) (least most : ℕ) (rows : List Row) → a.parser ≡ Some (parsers.Unsigned least most) → Found a rows → HasNumber a.id least most rows
has_number a least most rows is of = record {
  text = of.fits.first;
  found = ap (option_and_then row_text) of.found
      ∙ (λ i. option_map (read_as (reads i)) (slice_get (of.fits.values i) 0));
  accepted = accepts-Accepts a.ignore_case (parsers.Unsigned least most) of.fits.first
      (subst (λ (p : Option ValueParser). accepts a.ignore_case (parser_of_value p) of.fits.first ≡ true) is of.fits.passes);
}
  where
    reads : of.row.reading ≡ AsWritten
    reads = of.fits.read ∙ ap (λ (p : Option ValueParser). reading_of (parser_of_value p)) is

-- whether a flag was given was found
has_flag : (a : Rule) (rows : List Row) → a.parser ≡ Some parsers.Bool → Found a rows → HasFlag a.id rows
has_flag a rows is of = record {
  text = of.fits.first;
  found = ap (option_and_then row_text) of.found
      ∙ (λ i. option_map (read_as (reads i)) (slice_get (of.fits.values i) 0));
  accepted = subst (λ (p : Option ValueParser). accepts a.ignore_case (parser_of_value p) of.fits.first ≡ true) is of.fits.passes;
}
  where
    reads : of.row.reading ≡ AsWritten
    reads = of.fits.read ∙ ap (λ (p : Option ValueParser). reading_of (parser_of_value p)) is

has_text : (a : Rule) (rows : List Row) → Found a rows → HasText a.id rows
has_text a rows of =
    ap (λ (o : Option Row). is_some (option_and_then (λ r. slice_get r.values 0) o)) of.found
    ∙ ap (λ (values : List Text). is_some (slice_get values 0)) of.fits.values

-- ---- a subcommand, whose arguments are options of different names

end_of : Shape → List Text → Held
end_of s words = (walk s.rules [] nothing_held words).held

rows_found : Shape → List Text → List Row
rows_found s words = finished s.rules (end_of s words)

module _ (s : Shape) (once : s.args_override_self ≡ false) (options : AreOptions s.rules) (distinct : AreDistinct s.rules)
    (words : List Text) (level : Passes s [] words false []) where
  all_fit : AllFit s.rules (rows_found s words)
  unfolding end_of rows_found
  all_fit = defaults_fit s.rules s.rules (settled s.rules (end_of s words)).rows (λ row one. one) options level.of_defaults
      (settle_fits s.rules s.args_override_self once options (end_of s words) level.of_pending
      (walk_fits s [] once options (walk_from nothing_held) words level.of_walk tt))

  -- what was found for an argument that has a default
  of_default : (a : Rule) → find (λ b. bytes_eq b.id a.id) s.rules ≡ Some a → is_empty a.defaults ≡ false → Found a (rows_found s words)
  unfolding end_of rows_found
  of_default a is some =
      found_for s.rules a (rows_found s words) distinct is all_fit (made_by_defaults s.rules a (settled s.rules (end_of s words)).rows is some)

  -- what was found for an argument that was given
  of_given : (a : Rule) → find (λ b. bytes_eq b.id a.id) s.rules ≡ Some a → is_given a.id (rows_found s words) ≡ true → Found a (rows_found s words)
  of_given a is given = found_for s.rules a (rows_found s words) distinct is all_fit (given_row a.id (rows_found s words) given)

  -- the number of an option
  number_of : (name : Text) (least most : ℕ) (default : Text) → find (λ b. bytes_eq b.id name) s.rules ≡ Some (filled (number_option name least most default))
      → HasNumber name least most (rows_found s words)
  number_of name least most default is =
      has_number (filled (number_option name least most default)) least most (rows_found s words) refl
      (of_default (filled (number_option name least most default)) is refl)

-- of the arguments only this one must be there, and it is
is_there : (given : Bool) → (not given || false) ≡ false → given ≡ true
is_there true is = refl
is_there false is = cc

-- ---- the subcommands as clap builds them

-- the one at a place
abbrev shape_at : ℕ → List Shape → Shape
shape_at n [] = run_command
shape_at zero (s ∷ subs) = s
shape_at (suc n) (s ∷ subs) = shape_at n subs

abbrev built_run : Shape
built_run = shape_at 0 (built asc_command).subs

abbrev built_save : Shape
built_save = shape_at 1 (built asc_command).subs

abbrev built_make : Shape
built_make = shape_at 2 (built asc_command).subs

abbrev built_trial : Shape
built_trial = shape_at 3 (built asc_command).subs

abbrev built_batch : Shape
built_batch = shape_at 4 (built asc_command).subs

abbrev image : Rule
image = with_index 1 (filled (required (codes "image")))

abbrev guess : Rule
guess = filled (text_with_default (codes "guess") (codes "stride"))

abbrev join : Rule
join = filled (flag (codes "join"))

abbrev seek : Rule
seek = filled (flag (codes "seek"))

abbrev rounds : Rule
rounds = filled rounds_flag

abbrev report : Rule
report = filled (flag (codes "report"))

abbrev number : Rule
number = with_index 1 (filled number_argument)

abbrev pub inputs : Rule
inputs = with_index 2 (filled inputs_argument)

-- what `asc save`, `asc run` and `asc batch` all take, where the rules of others may stand behind these
module _ (s : Shape) (more : List Rule) (shared : s.rules ≡ built_save.rules ++ more) (once : s.args_override_self ≡ false)
    (options : AreOptions s.rules) (distinct : AreDistinct s.rules) (words : List Text) (level : Passes s [] words false [])
    (given : is_given (codes "image") (rows_found s words) ≡ true) where
  rule_is : (name : Text) (rule : Option Rule) → find (λ b. bytes_eq b.id name) (built_save.rules ++ more) ≡ rule → find (λ b. bytes_eq b.id name) s.rules ≡ rule
  rule_is name rule is = ap (find (λ b. bytes_eq b.id name)) shared ∙ is

  shared_number : (name : Text) (least most : ℕ) (default : Text)
      → find (λ b. bytes_eq b.id name) (built_save.rules ++ more) ≡ Some (filled (number_option name least most default))
      → HasNumber name least most (rows_found s words)
  shared_number name least most default is = number_of s once options distinct words level name least most default (rule_is name _ is)

  shared_values : HasShared (rows_found s words)
  shared_values = record {
    image = has_text image (rows_found s words) (of_given s once options distinct words level image (rule_is (codes "image") _ refl) given);
    memory = shared_number (codes "memory") 64 65536 (codes "1024") refl;
    limit = shared_number (codes "steps") 0 (2 ^ 40) (codes "1099511627776") refl;
    machine = shared_number (codes "machine") 1 2 (codes "2") refl;
    guess = has_text guess (rows_found s words) (of_default s once options distinct words level guess (rule_is (codes "guess") _ refl) refl);
    profile = shared_number (codes "profile") 2 65536 (codes "4096") refl;
    least = shared_number (codes "min") 2 65536 (codes "4") refl;
    laps = shared_number (codes "laps") 1 1000000 (codes "1") refl;
    span = shared_number (codes "span") 1 1000000000 (codes "1000000") refl;
    ahead = shared_number (codes "ahead") 1 64 (codes "4") refl;
    queue = shared_number (codes "queue") 1 1024 (codes "256") refl;
    join = has_flag join (rows_found s words) refl (of_default s once options distinct words level join (rule_is (codes "join") _ refl) refl);
    seek = has_flag seek (rows_found s words) refl (of_default s once options distinct words level seek (rule_is (codes "seek") _ refl) refl);
  }

run_options : AreOptions built_run.rules
run_options = options_of built_run.rules refl

run_distinct : AreDistinct built_run.rules
run_distinct = distinct_of built_run.rules refl

-- the rules that only `asc run` has
abbrev run_rules : List Rule
run_rules = filled workers_option ∷ rounds ∷ filled (text_option (codes "load")) ∷ report ∷ []

module _ (words : List Text) (level : Passes built_run [] words false []) where
  run_image_given : is_given (codes "image") (rows_found built_run words) ≡ true
  unfolding end_of rows_found
  run_image_given = is_there (is_given (codes "image") (rows_found built_run words)) (not_chosen _ kind.MissingRequiredArgument level.of_check)

  run_values : IsRun (rows_found built_run words)
  run_values = record {
    shared = shared_values built_run run_rules refl refl run_options run_distinct words level run_image_given;
    workers = number_of built_run refl run_options run_distinct words level (codes "workers") 0 64 (codes "0") refl;
    rounds = has_flag rounds (rows_found built_run words) refl (of_default built_run refl run_options run_distinct words level rounds refl refl);
    report = has_flag report (rows_found built_run words) refl (of_default built_run refl run_options run_distinct words level report refl refl);
  }

save_options : AreOptions built_save.rules
save_options = options_of built_save.rules refl

save_distinct : AreDistinct built_save.rules
save_distinct = distinct_of built_save.rules refl

module _ (words : List Text) (level : Passes built_save [] words false []) where
  save_image_given : is_given (codes "image") (rows_found built_save words) ≡ true
  unfolding end_of rows_found
  save_image_given = is_there (is_given (codes "image") (rows_found built_save words)) (not_chosen _ kind.MissingRequiredArgument level.of_check)

  save_values : IsSave (rows_found built_save words)
  save_values = shared_values built_save [] refl refl save_options save_distinct words level save_image_given

make_options : AreOptions built_make.rules
make_options = options_of built_make.rules refl

make_distinct : AreDistinct built_make.rules
make_distinct = distinct_of built_make.rules refl

module _ (words : List Text) (level : Passes built_make [] words false []) where
  make_given : is_given (codes "number") (rows_found built_make words) ≡ true
  unfolding end_of rows_found
  make_given = is_there (is_given (codes "number") (rows_found built_make words)) (not_chosen _ kind.MissingRequiredArgument level.of_check)

  make_values : IsMake (rows_found built_make words)
  make_values = record {
    number = has_number number 0 (2 ^ 64 - 1) (rows_found built_make words) refl
        (of_given built_make refl make_options make_distinct words level number refl make_given);
  }

trial_options : AreOptions built_trial.rules
trial_options = options_of built_trial.rules refl

trial_distinct : AreDistinct built_trial.rules
trial_distinct = distinct_of built_trial.rules refl

module _ (words : List Text) (level : Passes built_trial [] words false []) where
  trial_given : is_given (codes "number") (rows_found built_trial words) ≡ true
  unfolding end_of rows_found
  trial_given = is_there (is_given (codes "number") (rows_found built_trial words)) (not_chosen _ kind.MissingRequiredArgument level.of_check)

  trial_values : IsTrial (rows_found built_trial words)
  trial_values = record {
    number = has_number number 0 (2 ^ 64 - 1) (rows_found built_trial words) refl
        (of_given built_trial refl trial_options trial_distinct words level number refl trial_given);
    workers = number_of built_trial refl trial_options trial_distinct words level (codes "workers") 0 64 (codes "0") refl;
    rounds = has_flag rounds (rows_found built_trial words) refl (of_default built_trial refl trial_options trial_distinct words level rounds refl refl);
  }

batch_options : AreOptions built_batch.rules
batch_options = options_of built_batch.rules refl

batch_distinct : AreDistinct built_batch.rules
batch_distinct = distinct_of built_batch.rules refl

-- the rules that `asc batch` has besides
abbrev batch_rules : List Rule
batch_rules = filled workers_option ∷ report ∷ inputs ∷ []

-- of the arguments only these two must be there, and they are
are_there : (first second : Bool) → (not first || (not second || false)) ≡ false → (first ≡ true) × (second ≡ true)
are_there true true is = (refl, refl)
are_there true false is = cc
are_there false second is = cc

module _ (words : List Text) (level : Passes built_batch [] words false []) where
  batch_given : (is_given (codes "image") (rows_found built_batch words) ≡ true) × (is_given (codes "inputs") (rows_found built_batch words) ≡ true)
  unfolding end_of rows_found
  batch_given =
      are_there (is_given (codes "image") (rows_found built_batch words)) (is_given (codes "inputs") (rows_found built_batch words))
      (not_chosen _ kind.MissingRequiredArgument level.of_check)

  batch_values : IsBatch (rows_found built_batch words)
  batch_values = record {
    shared = shared_values built_batch batch_rules refl refl batch_options batch_distinct words level batch_given.0;
    workers = number_of built_batch refl batch_options batch_distinct words level (codes "workers") 0 64 (codes "0") refl;
    report = has_flag report (rows_found built_batch words) refl (of_default built_batch refl batch_options batch_distinct words level report refl refl);
    inputs = has_text inputs (rows_found built_batch words) (of_given built_batch refl batch_options batch_distinct words level inputs refl batch_given.1);
  }

-- ---- asc

-- the subcommand that was met has this name, and its arguments have their values
pub record IsTakenAs (met : Option (Text × List Row)) (name : Text) (AreValues : List Row → Type 0) : Type 0 where
  pub rows : List Row
  pub names : met ≡ Some (name, rows)
  pub values : AreValues rows

-- it is one of the five
abbrev pub IsTaken : Option (Text × List Row) → Type 0
IsTaken met =
    IsTakenAs met (codes "run") IsRun
    ⊎ IsTakenAs met (codes "save") IsSave
    ⊎ IsTakenAs met (codes "make") IsMake
    ⊎ IsTakenAs met (codes "trial") IsTrial
    ⊎ IsTakenAs met (codes "batch") IsBatch

abbrev met_by : (is_run is_save is_make is_trial is_batch : Bool) → Option Shape
met_by is_run is_save is_make is_trial is_batch =
    cond is_run (Some built_run) (cond is_save (Some built_save) (cond is_make (Some built_make) (cond is_trial (Some built_trial) (cond is_batch (Some built_batch) None))))

module _ (words below : List Text) where
  -- what the words may be refused for, where this subcommand is met at the words below
  abbrev Faults : Option Shape → Kinds
  Faults met = level_fault (built asc_command).top (names_of (built asc_command)) nothing_held words
      (is_some (option_map (λ s. rows_at s below) met)) (option_map_or (λ s. level_fault s [] nothing_held below false []) met [])

  -- nothing is wrong with the words of the subcommand
  met_passes : (s : Shape) → Faults (Some s) ≡ [] → Passes s [] below false []
  met_passes s none = passes s [] below false [] (passes _ _ words true (level_fault s [] nothing_held below false []) none).of_below

  taken_by : (is_run is_save is_make is_trial is_batch : Bool) → Faults (met_by is_run is_save is_make is_trial is_batch) ≡ []
      → IsTaken (option_map (λ s. rows_at s below) (met_by is_run is_save is_make is_trial is_batch))
  unfolding end_of rows_found
  taken_by true is_save is_make is_trial is_batch none =
      inl (record { rows = rows_found built_run below; names = refl; values = run_values below (met_passes built_run none) })
  taken_by false true is_make is_trial is_batch none =
      inr (inl (record { rows = rows_found built_save below; names = refl; values = save_values below (met_passes built_save none) }))
  taken_by false false true is_trial is_batch none =
      inr (inr (inl (record { rows = rows_found built_make below; names = refl; values = make_values below (met_passes built_make none) })))
  taken_by false false false true is_batch none =
      inr (inr (inr (inl (record { rows = rows_found built_trial below; names = refl; values = trial_values below (met_passes built_trial none) }))))
  taken_by false false false false true none =
      inr (inr (inr (inr (record { rows = rows_found built_batch below; names = refl; values = batch_values below (met_passes built_batch none) }))))
  taken_by false false false false false none = let level = passes _ _ words false [] none in let missing = level.of_check in cc

taken_at : (words : List Text) (stop : Option (Text × List Text))
    → level_fault (built asc_command).top (names_of (built asc_command)) nothing_held words (is_some (entered (built asc_command) stop)) (entered_fault (built asc_command) stop) ≡ []
    → IsTaken (entered (built asc_command) stop)
taken_at words None none = let level = passes _ _ words false [] none in let missing = level.of_check in cc
taken_at words (Some p) none =
    taken_by words p.1 (answers_to p.0 (label_of built_run)) (answers_to p.0 (label_of built_save)) (answers_to p.0 (label_of built_make)) (answers_to p.0 (label_of built_trial))
    (answers_to p.0 (label_of built_batch)) none

-- where clap refuses nothing, the words name a subcommand, and what it takes has its values
pub taken : (words : List Text) → fault_of asc_command words ≡ [] → IsTaken (subcommand_of asc_command words)
taken words none = taken_at (argument_words asc_command words)
    (stop_after (built asc_command).top.rules (names_of (built asc_command)) (argument_words asc_command words)) none
