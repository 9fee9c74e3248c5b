-- The line of words that clap takes, and of words that it refuses.
use Rattle.std.proofs.Common.{◌≡◌, ◌≢◌, ◌∙◌, ◌^◌, ◌-◌, ◌<◌, ◌≤◌, ◌⊎◌, ℕ, Bool, arith, codes, cond, is_some, length, nat_le, inl, inr, true, false, refl, sym, ap, subst, List, [], ◌∷◌, Option, Some, None, Result, Ok, Err, IsErrAnd, Bor}
use Rattle.std.specs.Prelude.{option_and_then, option_map, slice_get, unwrap_or, if◌then◌else◌, Box}
use Rattle.std.specs.Box.{box_value}
use Rattle.std.specs.Result.{result_map_both}
use Rattle.std.specs.Str.{bytes_eq}
use Rattle.std.specs.List.{find}
use Rattle.std.proofs.lemmas.Bool.Decides.{nat_tests}
use Rattle.std.proofs.lemmas.Slice.Eq.{bytes_eq-Decides}
use Rattle.clap.specs.Matches.{found_of, subcommand_name_of}
use Rattle.clap.specs.Simple.{App, HasMatchesOf, is_simple, subcommand_of, subcommand_rows, subcommand_rows_of}
use Rattle.clap.specs.Walk.{Row, Text, first_of, is_empty, rows_of}
use Rattle.clap.specs.Kinds.{HasKind, IsAmong, Kinds}
use Rattle.clap.specs.Faults.{fault_of, is_simple_and_free}
use Rattle.clap.specs.Values.{kind_of}
use Rattle.clap.specs.declared.error.Error.{Error}
use Rattle.clap.specs.declared.error.kind.ErrorKind.{ErrorKind}
use Rattle.clap.specs.declared.error.kind.ErrorKind.TheVariants as errors
use Rattle.clap.specs.declared.parser.matches.ArgMatches.{ArgMatches}
use Rattle.clap.specs.declared.parser.matches.ArgMatches.TheViews.{out-ArgMatches, out-SubCommand}
use Rattle.clap.specs.declared.parser.matches.SubCommand.{SubCommand}
use Rattle.asc_words.specs.Command.{asc_command}
use Rattle.asc_words.specs.Laws.{HaveLine, HaveLineOf, LinesAreWithin}
use Rattle.asc_words.specs.declared.answer.Bad.{Bad}
use Rattle.asc_words.specs.declared.answer.Bad.TheVariants.{Inputs, Words}
use Rattle.asc_words.specs.declared.line.Line.{Line}
use Rattle.asc_words.specs.declared.line.Line.TheVariants.{Run, Save, Make, Trial, Batch}
use Rattle.asc_words.specs.Line.{IsSaveWithin, IsWithin, address_of, batch_at, batch_of, batch_with, beside_in, flag_in, guesses_of, inputs_in, lanes_in, line_of, line_found, make_of, most_inputs, number_in, run_of, run_with, save_of, shared_at, shared_of, shared_with, text_in, trial_of}
use Rattle.asc_words.specs.Rows.{HasNumber, HasShared, HasText, IsBatch, IsMake, IsRun, IsSave, IsTrial, line_fault}
use Rattle.asc_words.specs.declared.line.Guesses.{Guesses}
use Rattle.asc_words.specs.declared.line.RunLine.{RunLine}
use Rattle.asc_words.specs.declared.line.LineFault.TheVariants as faults
use Rattle.asc_words.proofs.Fitting.{not_empty}
use Rattle.asc_words.proofs.Numbers.{number_within}
use Rattle.asc_words.proofs.Taken.{IsTaken, IsTakenAs, taken}

-- clap's model of the parse is exact for asc's command
pub asc_is_simple : is_simple_and_free asc_command ≡ true
asc_is_simple = refl

-- words that clap refuses have no line
pub refused_line : (words : List Text) (k : ErrorKind) → IsAmong k (fault_of asc_command words) → line_of words ≡ Err Words
unfolding line_of
refused_line words k among = go (fault_of asc_command words) among
  where
    go : (kinds : Kinds) → IsAmong k kinds
        → (if is_empty kinds then line_found (subcommand_of asc_command words) else Err Words) ≡ Err Words
    go [] h = absurd h
    go (first ∷ rest) h = rw (not_empty first rest) refl

-- an error of clap that is no want of memory is that of wrong words
wrong_words : (k : ErrorKind) (bad : Bad) → line_fault k ≡ faults.Usage bad → bad ≡ Words
wrong_words errors.InvalidValue bad is = cc
wrong_words errors.UnknownArgument bad is = cc
wrong_words errors.InvalidSubcommand bad is = cc
wrong_words errors.NoEquals bad is = cc
wrong_words errors.ValueValidation bad is = cc
wrong_words errors.TooManyValues bad is = cc
wrong_words errors.TooFewValues bad is = cc
wrong_words errors.WrongNumberOfValues bad is = cc
wrong_words errors.ArgumentConflict bad is = cc
wrong_words errors.MissingRequiredArgument bad is = cc
wrong_words errors.MissingSubcommand bad is = cc
wrong_words errors.DisplayHelp bad is = cc
wrong_words errors.DisplayHelpOnMissingArgumentOrSubcommand bad is = cc
wrong_words errors.DisplayVersion bad is = cc
wrong_words errors.Io bad is = cc
wrong_words errors.Format bad is = cc
wrong_words errors.OutOfMemory bad is = cc

-- an error that clap gives at some words, which is no want of memory
pub refused_by : (app : App) (words : List Text) (e : Error) (bad : Bad) → app ≡ asc_command
    → (is_simple_and_free app ≡ true → HasKind (fault_of app words) e) → line_fault (kind_of e) ≡ faults.Usage bad → line_of words ≡ Err bad
refused_by app words e bad is kinds fault = go (subst (λ (a : App). HasKind (fault_of a words) e) is (kinds (ap is_simple_and_free is ∙ asc_is_simple)))
  where
    go : HasKind (fault_of asc_command words) e → line_of words ≡ Err bad
    go (inl memory) = let wanting : line_fault (kind_of e) ≡ faults.Memory = ap line_fault memory in cc
    go (inr among) = refused_line words (kind_of e) among ∙ ap (λ (b : Bad). Err b) (sym (wrong_words (kind_of e) bad fault))

-- words that clap takes
line_of_taken : (words : List Text) (name : Text) (rows : List Row) → fault_of asc_command words ≡ [] → subcommand_of asc_command words ≡ Some (name, rows)
    → line_of words ≡ line_found (Some (name, rows))
unfolding line_of
line_of_taken words name rows none names = rw (none, names) refl

have_line_of : (words : List Text) (name : Text) (AreValues : List Row → Type 0) (made : List Row → Result Line Bad)
    → ((rows : List Row) → line_found (Some (name, rows)) ≡ made rows) → fault_of asc_command words ≡ []
    → IsTakenAs (subcommand_of asc_command words) name AreValues → HaveLineOf words name AreValues made
have_line_of words name AreValues made is none of = record {
  rows = of.rows;
  names = of.names;
  values = of.values;
  line = line_of_taken words name of.rows none of.names ∙ is of.rows;
}

pub have_line : (words : List Text) → fault_of asc_command words ≡ [] → HaveLine words
have_line words none = go (taken words none)
  where
    go : IsTaken (subcommand_of asc_command words) → HaveLine words
    go (inl run) = inl (have_line_of words (codes "run") IsRun run_of (λ rows. refl) none run)
    go (inr (inl save)) = inr (inl (have_line_of words (codes "save") IsSave save_of (λ rows. refl) none save))
    go (inr (inr (inl make))) = inr (inr (inl (have_line_of words (codes "make") IsMake make_of (λ rows. refl) none make)))
    go (inr (inr (inr (inl trial)))) = inr (inr (inr (inl (have_line_of words (codes "trial") IsTrial trial_of (λ rows. refl) none trial))))
    go (inr (inr (inr (inr batch)))) = inr (inr (inr (inr (have_line_of words (codes "batch") IsBatch batch_of (λ rows. refl) none batch))))

-- the lines are within their ranges
shared_within : (rows : List Row) → HasShared rows → (guesses : Guesses) (pc : Option ℕ) → IsSaveWithin (shared_with rows guesses pc)
shared_within rows is guesses pc = record {
  within = record {
    memory = number_within (codes "memory") 64 65536 rows is.memory;
    limit = (number_within (codes "steps") 0 (2 ^ 40) rows is.limit).1;
    profile = number_within (codes "profile") 2 65536 rows is.profile;
    least = number_within (codes "min") 2 65536 rows is.least;
    laps = number_within (codes "laps") 1 1000000 rows is.laps;
    span = number_within (codes "span") 1 1000000000 rows is.span;
    ahead = number_within (codes "ahead") 1 64 rows is.ahead;
    workers = omega arith;
    lanes = omega arith;
    rounds = λ some. refl;
    queue = number_within (codes "queue") 1 1024 rows is.queue;
  };
  alone = refl;
  no_lanes = refl;
  quiet = refl;
  loads_none = refl;
}

shared_at_within : (rows : List Row) → HasShared rows → (guesses : Result Guesses Bad) (pc : Result (Option ℕ) Bad) (line : RunLine)
    → shared_at rows guesses pc ≡ Ok line → IsSaveWithin line
shared_at_within rows is (Err bad) pc line e = absurd (cc)
shared_at_within rows is (Ok guesses) (Err bad) line e = absurd (cc)
shared_at_within rows is (Ok guesses) (Ok pc) line e =
    let same : shared_with rows guesses pc ≡ line = cc in subst IsSaveWithin same (shared_within rows is guesses pc)

shared_of_within : (rows : List Row) → HasShared rows → (line : RunLine) → shared_of rows ≡ Ok line → IsSaveWithin line
shared_of_within rows is = shared_at_within rows is (guesses_of (text_in (codes "guess") rows)) (address_of (first_of (codes "pc") rows))

-- there are few workers or few lanes, and not both
workers_within : (rows : List Row) → HasNumber (codes "workers") 0 64 rows
    → (beside_in rows ≤ 64) × (lanes_in rows ≤ 64) × (0 < lanes_in rows → beside_in rows ≡ 0)
workers_within rows is = by (flag_in (codes "rounds") rows)
  where
    w : ℕ
    w = number_in (codes "workers") rows

    by : (rounds : Bool) → ((if rounds then 0 else w) ≤ 64) × ((if rounds then w else 0) ≤ 64) × (0 < (if rounds then w else 0) → (if rounds then 0 else w) ≡ 0)
    by true = (omega arith, (number_within (codes "workers") 0 64 rows is).1, λ some. refl)
    by false = ((number_within (codes "workers") 0 64 rows is).1, omega arith, λ some. absurd (let x : ⊥ = omega (arith, some) in x))

pub run_within : (rows : List Row) → IsRun rows → (line : Line) → run_of rows ≡ Ok line → IsWithin line
run_within rows is line e = go (shared_of rows) refl e
  where
    go : (r : Result RunLine Bad) → shared_of rows ≡ r → result_map_both (λ (l : RunLine). Run (run_with rows l)) (λ bad. bad) r ≡ Ok line → IsWithin line
    go (Err bad) shared e = absurd (cc)
    go (Ok l) shared e =
        let same : Run (run_with rows l) ≡ line = cc in
        let within = (shared_of_within rows is.shared l shared).within in
        subst IsWithin same (record {
          memory = within.memory;
          limit = within.limit;
          profile = within.profile;
          least = within.least;
          laps = within.laps;
          span = within.span;
          ahead = within.ahead;
          workers = (workers_within rows is.workers).0;
          lanes = (workers_within rows is.workers).1;
          rounds = (workers_within rows is.workers).2;
          queue = within.queue;
        })

pub save_within : (rows : List Row) → IsSave rows → (line : Line) → save_of rows ≡ Ok line → IsWithin line
save_within rows is line e = go (shared_of rows) refl e
  where
    go : (r : Result RunLine Bad) → shared_of rows ≡ r → result_map_both (λ (l : RunLine). Save l) (λ bad. bad) r ≡ Ok line → IsWithin line
    go (Err bad) shared e = absurd (cc)
    go (Ok l) shared e = let same : Save l ≡ line = cc in subst IsWithin same (shared_of_within rows is l shared)

below_all : (n : ℕ) → n ≤ 2 ^ 64 - 1 → n < 2 ^ 64
below_all n is = omega arith

pub make_within : (rows : List Row) → IsMake rows → IsWithin (Make (number_in (codes "number") rows))
make_within rows is = below_all _ (number_within (codes "number") 0 (2 ^ 64 - 1) rows is.number).1

pub trial_within : (rows : List Row) → IsTrial rows → IsWithin (Trial (number_in (codes "number") rows) (beside_in rows) (lanes_in rows))
trial_within rows is = (
  below_all _ (number_within (codes "number") 0 (2 ^ 64 - 1) rows is.number).1,
  (workers_within rows is.workers).0,
  (workers_within rows is.workers).1,
  (workers_within rows is.workers).2,
)

-- an argument that has a text has at least one
some_texts : (row : Option Row) → is_some (option_and_then (λ r. slice_get r.values 0) row) ≡ true
    → 1 ≤ length (unwrap_or (option_map (λ (r : Row). r.values) row) [])
some_texts None some = cc
some_texts (Some row) some = go row.values some
  where
    go : (values : List Text) → is_some (slice_get values 0) ≡ true → 1 ≤ length values
    go [] some = cc
    go (v ∷ vs) some = omega arith

some_inputs : (rows : List Row) → HasText (codes "inputs") rows → 1 ≤ length (inputs_in rows)
some_inputs rows is = some_texts (find (λ r. bytes_eq r.id (codes "inputs")) rows) is

pub batch_within : (rows : List Row) → IsBatch rows → (line : Line) → batch_of rows ≡ Ok line → IsWithin line
batch_within rows is line e = go (shared_of rows) refl e
  where
    by : (l : RunLine) → IsSaveWithin l → (few : Bool) → nat_le (length (inputs_in rows)) most_inputs ≡ few
        → cond few (Ok (Batch (batch_with rows l))) (Err Inputs) ≡ Ok line → IsWithin line
    by l all true few e =
        let same : Batch (batch_with rows l) ≡ line = cc in
        let within = all.within in
        subst IsWithin same (record {
          within = record {
            memory = within.memory;
            limit = within.limit;
            profile = within.profile;
            least = within.least;
            laps = within.laps;
            span = within.span;
            ahead = within.ahead;
            workers = (number_within (codes "workers") 0 64 rows is.workers).1;
            lanes = within.lanes;
            rounds = λ some. absurd (let x : ⊥ = omega (arith, some, all.no_lanes) in x);
            queue = within.queue;
          };
          no_lanes = all.no_lanes;
          loads_none = all.loads_none;
          some = some_inputs rows is.inputs;
          few = grind (arith, nat_tests);
        })
    by l all false few e = absurd (cc)

    go : (r : Result RunLine Bad) → shared_of rows ≡ r → batch_at rows r ≡ Ok line → IsWithin line
    go (Err bad) shared e = absurd (cc)
    go (Ok l) shared e = by l (shared_of_within rows is.shared l shared) (nat_le (length (inputs_in rows)) most_inputs) refl e

ok_is : (r : Result Line Bad) (a b : Line) → r ≡ Ok a → r ≡ Ok b → a ≡ b
ok_is r a b is same = cc

pub lines_within : LinesAreWithin
lines_within words line is = go (fault_of asc_command words) refl
  where
    within : HaveLine words → IsWithin line
    within (inl run) = run_within run.rows run.values line (sym run.line ∙ is)
    within (inr (inl save)) = save_within save.rows save.values line (sym save.line ∙ is)
    within (inr (inr (inl make))) =
        let same : Make (number_in (codes "number") make.rows) ≡ line = ok_is _ _ line make.line is in
        subst (λ (l : Line). IsWithin l) same (make_within make.rows make.values)
    within (inr (inr (inr (inr batch)))) = batch_within batch.rows batch.values line (sym batch.line ∙ is)
    within (inr (inr (inr (inl trial)))) =
        let same : Trial (number_in (codes "number") trial.rows) (beside_in trial.rows) (lanes_in trial.rows) ≡ line = ok_is _ _ line trial.line is in
        subst (λ (l : Line). IsWithin l) same (trial_within trial.rows trial.values)

    go : (kinds : Kinds) → fault_of asc_command words ≡ kinds → IsWithin line
    go [] none = within (have_line words none)
    go (k ∷ kinds) some =
        let refused : line_of words ≡ Err Words = refused_line words k (subst (λ (all : Kinds). IsAmong k all) (sym some) (inl refl)) in
        cc

-- ---- what the code has in its hands

-- a parse found this subcommand, and what the line is made of
pub record IsFoundAs (words : List Text) (m : ArgMatches) (name : Text) (AreValues : List Row → Type 0) (made : List Row → Result Line Bad) : Type 0 where
  pub rows : List Row
  pub line : line_of words ≡ made rows
  pub values : AreValues rows
  pub names : subcommand_name_of m ≡ Some name
  pub found : option_map (λ p. p.1) (subcommand_rows_of m) ≡ Some rows

-- it is one of the five
abbrev pub IsFound : List Text → ArgMatches → Type 0
IsFound words m =
    IsFoundAs words m (codes "run") IsRun run_of
    ⊎ IsFoundAs words m (codes "save") IsSave save_of
    ⊎ IsFoundAs words m (codes "make") IsMake make_of
    ⊎ IsFoundAs words m (codes "trial") IsTrial trial_of
    ⊎ IsFoundAs words m (codes "batch") IsBatch batch_of

name_of_rows : {Z : Type 0} (met : Option (Box SubCommand Z)) (name : Text) (rows : List Row) → subcommand_rows met ≡ Some (name, rows)
    → option_map (λ b. (out-SubCommand (box_value b)).name.now) met ≡ Some name
name_of_rows None name rows is = cc
name_of_rows (Some b) name rows is = ap (option_map (λ (p : Text × List Row). p.0)) is

module _ (words : List Text) (m : ArgMatches) (same : subcommand_rows_of m ≡ subcommand_of asc_command words) where
  found_as : (name : Text) (AreValues : List Row → Type 0) (made : List Row → Result Line Bad) → HaveLineOf words name AreValues made
      → IsFoundAs words m name AreValues made
  found_as name AreValues made of = record {
    rows = of.rows;
    line = of.line;
    values = of.values;
    names = name_of_rows (out-ArgMatches m).subcommand name of.rows (same ∙ of.names);
    found = ap (option_map (λ (p : Text × List Row). p.1)) (same ∙ of.names);
  }

  found_of_lines : HaveLine words → IsFound words m
  found_of_lines (inl run) = inl (found_as (codes "run") IsRun run_of run)
  found_of_lines (inr (inl save)) = inr (inl (found_as (codes "save") IsSave save_of save))
  found_of_lines (inr (inr (inl make))) = inr (inr (inl (found_as (codes "make") IsMake make_of make)))
  found_of_lines (inr (inr (inr (inl trial)))) = inr (inr (inr (inl (found_as (codes "trial") IsTrial trial_of trial))))
  found_of_lines (inr (inr (inr (inr batch)))) = inr (inr (inr (inr (found_as (codes "batch") IsBatch batch_of batch))))

pub found : (app : App) (words : List Text) (m : ArgMatches) → app ≡ asc_command → (is_simple_and_free app ≡ true → fault_of app words ≡ [])
    → HasMatchesOf app words m → IsFound words m
found app words m is kinds matches =
    let none : fault_of asc_command words ≡ [] = ap (λ (a : App). fault_of a words) (sym is) ∙ kinds (ap is_simple_and_free is ∙ asc_is_simple) in
    found_of_lines words m ((matches (ap is_simple is)).1 ∙ ap (λ (a : App). subcommand_of a words) is) (have_line words none)

-- an error that `?` passed up
pub passed_up : {T E : Type 0} (r : Result T E) (x y : E) → IsErrAnd r (λ e. e ≡ x) → r ≡ Err y → x ≡ y
passed_up (Ok t) x y is same = absurd is
passed_up (Err e) x y is same = cc

differ : (a b : Text) → bytes_eq a b ≡ false → a ≢ b
differ a b other is = let same : bytes_eq a b ≡ true = (bytes_eq-Decides a b).1 is in cc

-- the name is that of one of the five
abbrev pub IsName : Text → Type 0
IsName name = (name ≡ codes "run") ⊎ (name ≡ codes "save") ⊎ (name ≡ codes "make") ⊎ (name ≡ codes "trial") ⊎ (name ≡ codes "batch")

-- the subcommand that the code holds, and what the line is made of
pub record IsMetAs (words : List Text) (p : Bor Text × Bor ArgMatches) (name : Text) (AreValues : List Row → Type 0) (made : List Row → Result Line Bad) : Type 0 where
  pub is : p.0.now ≡ name
  pub line : line_of words ≡ made (rows_of (found_of p.1.now))
  pub values : AreValues (rows_of (found_of p.1.now))

module _ (words : List Text) (m : ArgMatches) (met : Option (Bor Text × Bor ArgMatches)) where
  module _ (p : Bor Text × Bor ArgMatches) (is : met ≡ Some p) (names : option_map (λ q. q.0.now) met ≡ subcommand_name_of m)
      (rows : option_map (λ q. rows_of (found_of q.1.now)) met ≡ option_map (λ q. q.1) (subcommand_rows_of m)) where
    met_as : (name : Text) (AreValues : List Row → Type 0) (made : List Row → Result Line Bad) → IsFoundAs words m name AreValues made
        → IsMetAs words p name AreValues made
    met_as name AreValues made of =
        let same_name = sym (ap (option_map (λ (q : Bor Text × Bor ArgMatches). q.0.now)) is) ∙ names ∙ of.names in
        let same = sym (ap (option_map (λ (q : Bor Text × Bor ArgMatches). rows_of (found_of q.1.now))) is) ∙ rows ∙ of.found in
        let same_rows : rows_of (found_of p.1.now) ≡ of.rows = cc (same) in
        record {
          is = cc (same_name);
          line = of.line ∙ ap made (sym same_rows);
          values = subst AreValues (sym same_rows) of.values;
        }

    -- what holds of the name and of what was found, whichever of the five it is
    met_any : (P : Text → Type 0) → IsFound words m
        → (IsMetAs words p (codes "run") IsRun run_of → P (codes "run"))
        → (IsMetAs words p (codes "save") IsSave save_of → P (codes "save"))
        → (IsMetAs words p (codes "make") IsMake make_of → P (codes "make"))
        → (IsMetAs words p (codes "trial") IsTrial trial_of → P (codes "trial"))
        → (IsMetAs words p (codes "batch") IsBatch batch_of → P (codes "batch")) → P p.0.now
    met_any P (inl run) of_run of_save of_make of_trial of_batch = let met = met_as (codes "run") IsRun run_of run in subst P (sym met.is) (of_run met)
    met_any P (inr (inl save)) of_run of_save of_make of_trial of_batch = let met = met_as (codes "save") IsSave save_of save in subst P (sym met.is) (of_save met)
    met_any P (inr (inr (inl make))) of_run of_save of_make of_trial of_batch = let met = met_as (codes "make") IsMake make_of make in subst P (sym met.is) (of_make met)
    met_any P (inr (inr (inr (inl trial)))) of_run of_save of_make of_trial of_batch = let met = met_as (codes "trial") IsTrial trial_of trial in subst P (sym met.is) (of_trial met)
    met_any P (inr (inr (inr (inr batch)))) of_run of_save of_make of_trial of_batch = let met = met_as (codes "batch") IsBatch batch_of batch in subst P (sym met.is) (of_batch met)

    -- which of the five it is
    pub met_run : IsFound words m → p.0.now ≡ codes "run" → IsMetAs words p (codes "run") IsRun run_of
    met_run of = met_any (λ name. name ≡ codes "run" → IsMetAs words p (codes "run") IsRun run_of) of
        (λ met is. met)
        (λ met is. absurd (differ (codes "save") (codes "run") refl is))
        (λ met is. absurd (differ (codes "make") (codes "run") refl is))
        (λ met is. absurd (differ (codes "trial") (codes "run") refl is))
        (λ met is. absurd (differ (codes "batch") (codes "run") refl is))

    pub met_save : IsFound words m → p.0.now ≡ codes "save" → IsMetAs words p (codes "save") IsSave save_of
    met_save of = met_any (λ name. name ≡ codes "save" → IsMetAs words p (codes "save") IsSave save_of) of
        (λ met is. absurd (differ (codes "run") (codes "save") refl is))
        (λ met is. met)
        (λ met is. absurd (differ (codes "make") (codes "save") refl is))
        (λ met is. absurd (differ (codes "trial") (codes "save") refl is))
        (λ met is. absurd (differ (codes "batch") (codes "save") refl is))

    pub met_make : IsFound words m → p.0.now ≡ codes "make" → IsMetAs words p (codes "make") IsMake make_of
    met_make of = met_any (λ name. name ≡ codes "make" → IsMetAs words p (codes "make") IsMake make_of) of
        (λ met is. absurd (differ (codes "run") (codes "make") refl is))
        (λ met is. absurd (differ (codes "save") (codes "make") refl is))
        (λ met is. met)
        (λ met is. absurd (differ (codes "trial") (codes "make") refl is))
        (λ met is. absurd (differ (codes "batch") (codes "make") refl is))

    pub met_trial : IsFound words m → p.0.now ≡ codes "trial" → IsMetAs words p (codes "trial") IsTrial trial_of
    met_trial of = met_any (λ name. name ≡ codes "trial" → IsMetAs words p (codes "trial") IsTrial trial_of) of
        (λ met is. absurd (differ (codes "run") (codes "trial") refl is))
        (λ met is. absurd (differ (codes "save") (codes "trial") refl is))
        (λ met is. absurd (differ (codes "make") (codes "trial") refl is))
        (λ met is. met)
        (λ met is. absurd (differ (codes "batch") (codes "trial") refl is))

    pub met_batch : IsFound words m → p.0.now ≡ codes "batch" → IsMetAs words p (codes "batch") IsBatch batch_of
    met_batch of = met_any (λ name. name ≡ codes "batch" → IsMetAs words p (codes "batch") IsBatch batch_of) of
        (λ met is. absurd (differ (codes "run") (codes "batch") refl is))
        (λ met is. absurd (differ (codes "save") (codes "batch") refl is))
        (λ met is. absurd (differ (codes "make") (codes "batch") refl is))
        (λ met is. absurd (differ (codes "trial") (codes "batch") refl is))
        (λ met is. met)

    pub met_one : IsFound words m → IsName p.0.now
    met_one of = met_any IsName of
        (λ met. inl refl) (λ met. inr (inl refl)) (λ met. inr (inr (inl refl))) (λ met. inr (inr (inr (inl refl)))) (λ met. inr (inr (inr (inr refl))))
