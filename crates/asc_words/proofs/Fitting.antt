-- What clap finds where it refuses nothing: each value passed the parser of its argument.
use Rattle.std.proofs.Common.{◌≡◌, ◌∙◌, ◌<◌, ◌==◌, ◌&&◌, ◌||◌, ◌⊎◌, ℕ, Bool, cond, true, false, not, zero, suc, refl, sym, ap, subst, arith, List, [], ◌∷◌, ◌++◌, length, drop, Option, Some, None, is_some, inl, inr, append-nil, lt-ltb, ne_eqb, nat_lt}
use Rattle.std.specs.Prelude.{encode_utf8, slice_get}
use Rattle.std.specs.List.{find, fold, list_all, list_any}
use Rattle.std.specs.Option.{option_map_or}
use Rattle.std.specs.Str.{bytes_eq, chars}
use Rattle.std.proofs.lemmas.Slice.Eq.{bytes_eq-Decides}
use Rattle.clap.specs.Lexer.{long_of, short_of}
use Rattle.clap.specs.Values.{refused_kind}
use Rattle.clap.specs.ValueTests.{accepts}
use Rattle.clap.specs.Facts.{explicit_source, parser_of_value, unwrap_or_range}
use Rattle.clap.specs.Walk.{Held, Names, Outcome, Row, Rule, Step, Text, Waiting, Walk, action_of, after_flag, after_step, flag_met, option_word, plain_word, arg_by_id, arg_by_index, arg_by_long, arg_by_short, at_row, attached_value, bundle_met, bundle_step, default_rows, done, has_row, idle, is_empty, is_pending, long_met, long_or_other, most_values, more_values, next, option, option_met, plain, positional, positional_held, reacted, reading_by, refused, settled, settled_rows, short_met, short_or_plain, stronger, subcommand, subcommand_met, subcommand_or_other, takes_several, takes_values, to_positional, trailing, used, used_as, used_by_id, value, values_or_missing, waits, walked, walked_from, with_default, with_values, without, word_met}
use Rattle.clap.specs.Simple.{Shape}
use Rattle.clap.specs.Takes.{is_given}
use Rattle.clap.specs.Kinds.{Kinds, or_else, range_kinds, request_kinds, value_kinds}
use Rattle.clap.specs.Faults.{action_fault, bundle_fault, bundle_step_fault, default_fault, defaults_fault, given_default_fault, stray_fault, flag_word_fault, flags_fault, long_fault, option_fault, other_fault, positional_fault, react_fault, repeat_fault, settle_fault, short_fault, step_fault, turn_fault, use_fault, values_fault, walk_fault, word_fault}
use Rattle.clap.specs.declared.builder.action.ArgAction.{ArgAction}
use Rattle.clap.specs.declared.builder.action.ArgAction.TheVariants.{Set, SetTrue, SetFalse, Append, Count, Help, HelpShort, HelpLong, Version}
use Rattle.clap.specs.declared.error.kind.ErrorKind.{ErrorKind}
use Rattle.clap.specs.declared.error.kind.ErrorKind.TheVariants as kind
use Rattle.clap.specs.declared.parser.matches.ValueSource.{ValueSource}
use Rattle.clap.specs.declared.parser.matches.ValueSource.TheVariants.{DefaultValue, CommandLine}

-- ---- no kind of error

pub neither : (first second : Kinds) → or_else first second ≡ [] → (first ≡ []) × (second ≡ [])
neither [] second none = (refl, none)
neither (k ∷ ks) second none = cc

-- the test that chooses a kind did not hold
pub not_chosen : (test : Bool) (k : ErrorKind) → cond test (k ∷ []) [] ≡ [] → test ≡ false
not_chosen true k none = cc
not_chosen false k none = refl

-- the test that chooses none held
passed : (test : Bool) (k : ErrorKind) → cond test [] (k ∷ []) ≡ [] → test ≡ true
passed true k none = refl
passed false k none = cc

-- ---- rows

-- some values where at least one is wanted
abbrev pub IsGiven : List Text → Type 0
IsGiven [] = ⊥
IsGiven (first ∷ rest) = Unit {0}

-- An argument of which a later use does not replace an earlier one. Each use has a value: it takes some, or it is a flag,
-- for which one stands.
pub record IsOption (a : Rule) : Type 0 where
  pub sets : (action_of a ≡ Set) ⊎ (action_of a ≡ SetTrue) ⊎ (action_of a ≡ Append)
  pub some : (0 < (unwrap_or_range a.range).start_inclusive) ⊎ IsGiven a.missing

-- the row is this argument's, and its first value passed the argument's parser
pub record Fits (a : Rule) (row : Row) : Type 0 where
  pub same : row.id ≡ a.id
  pub first : Text
  pub rest : List Text
  pub values : row.values ≡ first ∷ rest
  pub passes : accepts a.ignore_case (parser_of_value a.parser) first ≡ true
  pub read : row.reading ≡ reading_by a

-- the row is that of one of these arguments
abbrev pub FitsOne : List Rule → Row → Type 0
FitsOne [] row = ⊥
FitsOne (a ∷ rules) row = Fits a row ⊎ FitsOne rules row

abbrev pub AllFit : List Rule → List Row → Type 0
AllFit rules [] = Unit {0}
AllFit rules (row ∷ rows) = FitsOne rules row × AllFit rules rows

abbrev pub AreOptions : List Rule → Type 0
AreOptions [] = Unit {0}
AreOptions (a ∷ rules) = IsOption a × AreOptions rules

-- the same as a test
abbrev sets_values : ArgAction → Bool
sets_values Set = true
sets_values SetTrue = true
sets_values Append = true
sets_values action = false

abbrev pub is_option : Rule → Bool
is_option a = sets_values (action_of a) && (nat_lt 0 (unwrap_or_range a.range).start_inclusive || not (is_empty a.missing))

both_hold : (a b : Bool) → (a && b) ≡ true → (a ≡ true) × (b ≡ true)
both_hold true b is = (refl, is)
both_hold false b is = cc

sets_as : (action : ArgAction) → sets_values action ≡ true → (action ≡ Set) ⊎ (action ≡ SetTrue) ⊎ (action ≡ Append)
sets_as Set is = inl refl
sets_as SetTrue is = inr (inl refl)
sets_as SetFalse is = cc
sets_as Append is = inr (inr refl)
sets_as Count is = cc
sets_as Help is = cc
sets_as HelpShort is = cc
sets_as HelpLong is = cc
sets_as Version is = cc

has_some : (least : ℕ) (missing : List Text) → (nat_lt 0 least || not (is_empty missing)) ≡ true → (0 < least) ⊎ IsGiven missing
has_some least (first ∷ rest) is = inr tt
has_some zero [] is = cc
has_some (suc least) [] is = inl (omega arith)

pub options_of : (rules : List Rule) → list_all is_option rules ≡ true → AreOptions rules
options_of [] is = tt
options_of (a ∷ rules) is =
    let parts = both_hold (is_option a) (list_all is_option rules) is in
    let own = both_hold (sets_values (action_of a)) (nat_lt 0 (unwrap_or_range a.range).start_inclusive || not (is_empty a.missing)) parts.0 in
    (record { sets = sets_as (action_of a) own.0; some = has_some _ a.missing own.1 }, options_of rules parts.1)

-- an option of the command
record IsOf (rules : List Rule) (a : Rule) : Type 0 where
  fits : (row : Row) → Fits a row → FitsOne rules row
  is_option : IsOption a

with_one_more : (rules : List Rule) (rows : List Row) (row : Row) → AllFit rules rows → FitsOne rules row → AllFit rules (rows ++ row ∷ [])
with_one_more rules [] row all one = (one, tt)
with_one_more rules (first ∷ rows) row all one = (all.0, with_one_more rules rows row all.1 one)

some_is : {X : Type 0} (x y : X) → Some x ≡ Some y → x ≡ y
some_is x y e = cc

-- what a search among the arguments finds is one of them
found_of_rules : (test : Rule → Bool) (rules : List Rule) (a : Rule) → AreOptions rules → find test rules ≡ Some a → IsOf rules a
found_of_rules test [] a all found = cc
found_of_rules test (first ∷ rules) a all found = go (test first) (found_of_rules test rules a all.1) found
  where
    go : (b : Bool) → (find test rules ≡ Some a → IsOf rules a) → cond b (Some first) (find test rules) ≡ Some a → IsOf (first ∷ rules) a
    go true more e = subst (IsOf (first ∷ rules)) (some_is first a e) (record { fits = λ row fit. inl fit; is_option = all.0 })
    go false more e = record { fits = λ row fit. inr ((more e).fits row fit); is_option = (more e).is_option }

at_absent : (id : Text) (change : Row → List Row) (missing rows : List Row) → has_row id rows ≡ false → at_row id change missing rows ≡ rows ++ missing
at_absent id change missing [] absent = refl
at_absent id change missing (row ∷ rows) absent = go (bytes_eq row.id id) (at_absent id change missing rows) absent
  where
    go : (b : Bool) → (has_row id rows ≡ false → at_row id change missing rows ≡ rows ++ missing) → (b || has_row id rows) ≡ false
        → cond b (change row ++ rows) (row ∷ at_row id change missing rows) ≡ row ∷ (rows ++ missing)
    go true more e = cc
    go false more e = ap (λ rest. row ∷ rest) (more e)

-- values for an argument that has no row yet
with_new_row : (rules : List Rule) (a : Rule) (source : ValueSource) (first : Text) (rest : List Text) (rows : List Row) → IsOf rules a
    → has_row a.id rows ≡ false → accepts a.ignore_case (parser_of_value a.parser) first ≡ true → AllFit rules rows
    → AllFit rules (with_values a.id (reading_by a) source (first ∷ rest) rows)
with_new_row rules a source first rest rows one absent accepted all =
    subst (AllFit rules) (sym (at_absent a.id (more_values source (first ∷ rest)) _ rows absent))
    (with_one_more rules rows _ all (one.fits _ (record {
      same = refl;
      first = first;
      rest = rest;
      values = refl;
      passes = accepted;
      read = refl;
    })))

-- more values behind those of a row
more_fits : (rules : List Rule) (row : Row) (source : ValueSource) (values : List Text) → FitsOne rules row
    → FitsOne rules (record row { values = row.values ++ values; source = Some (stronger row.source source) })
more_fits [] row source values one = absurd one
more_fits (a ∷ rules) row source values (inl fit) = inl (record {
  same = fit.same;
  first = fit.first;
  rest = fit.rest ++ values;
  values = ap (λ (kept : List Text). kept ++ values) fit.values;
  passes = fit.passes;
  read = fit.read;
})
more_fits (a ∷ rules) row source values (inr behind) = inr (more_fits rules row source values behind)

-- values for an argument, behind those that it has
with_more : (rules : List Rule) (a : Rule) (source : ValueSource) (first : Text) (rest : List Text) (rows : List Row) → IsOf rules a
    → accepts a.ignore_case (parser_of_value a.parser) first ≡ true → AllFit rules rows
    → AllFit rules (with_values a.id (reading_by a) source (first ∷ rest) rows)
with_more rules a source first rest [] one accepted all = with_new_row rules a source first rest [] one refl accepted all
with_more rules a source first rest (row ∷ rows) one accepted all =
    go (bytes_eq row.id a.id) (with_more rules a source first rest rows one accepted all.1)
  where
    go : (b : Bool) → AllFit rules (with_values a.id (reading_by a) source (first ∷ rest) rows)
        → AllFit rules (cond b (more_values source (first ∷ rest) row ++ rows) (row ∷ with_values a.id (reading_by a) source (first ∷ rest) rows))
    go true more = (more_fits rules row source (first ∷ rest) all.0, all.1)
    go false more = (all.0, more)

first_accepted : (a : Rule) (first : Text) (rest : List Text) → values_fault a (first ∷ rest) ≡ [] → accepts a.ignore_case (parser_of_value a.parser) first ≡ true
first_accepted a first rest none =
    passed (accepts a.ignore_case (parser_of_value a.parser) first) (refused_kind (parser_of_value a.parser))
    (neither (value_kinds a.ignore_case (parser_of_value a.parser) first) (values_fault a rest) none).0

pub not_empty : {X : Type 0} (first : X) (rest : List X) → is_empty (first ∷ rest) ≡ false
not_empty first rest = ne_eqb (length (first ∷ rest)) 0 (λ e. absurd (omega arith))

-- ---- one use of an argument

some_given : (least most : ℕ) (values : List Text) → 0 < least → range_kinds least most (length values) ≡ [] → IsGiven values
some_given least most [] some none = go (nat_lt 0 least) (lt-ltb 0 least some) none
  where
    go : (b : Bool) → b ≡ true → cond (b && true) (kind.InvalidValue ∷ []) (cond (least == most) (cond (least == 0) [] (kind.WrongNumberOfValues ∷ []))
        (cond (nat_lt 0 least) (kind.TooFewValues ∷ []) (cond (nat_lt most 0) (kind.TooManyValues ∷ []) []))) ≡ [] → ⊥
    go true e n = cc
    go false e n = cc
some_given least most (first ∷ rest) some none = tt

-- a use that is not refused has values
used_with : (a : Rule) (values : List Text) → (0 < (unwrap_or_range a.range).start_inclusive) ⊎ IsGiven a.missing
    → range_kinds (unwrap_or_range a.range).start_inclusive (most_values a) (length values) ≡ [] → IsGiven (values_or_missing a values)
used_with a [] (inl some) none = absurd (some_given _ _ [] some none)
used_with a [] (inr missing) none = missing
used_with a (first ∷ rest) some none = tt

no_repeat : (again held : Bool) → again ≡ false → cond (held && not again) (kind.ArgumentConflict ∷ []) [] ≡ [] → held ≡ false
no_repeat again false once none = refl
no_repeat again true once none = let repeated = rw once at none in cc

module _ (rules : List Rule) (again : Bool) (once : again ≡ false) (options : AreOptions rules) where
  set_fits : (a : Rule) (values : List Text) (rows : List Row) → IsOf rules a → IsGiven values
      → or_else (repeat_fault again a.id rows) (values_fault a values) ≡ []
      → AllFit rules rows → AllFit rules (with_values a.id (reading_by a) CommandLine values (without a.id rows))
  set_fits a [] rows one given none all = absurd given
  set_fits a (first ∷ rest) rows one given none all =
      let parts = neither (repeat_fault again a.id rows) (values_fault a (first ∷ rest)) none in
      let absent : has_row a.id rows ≡ false = no_repeat again (has_row a.id rows) once parts.0 in
      subst (λ (kept : List Row). AllFit rules (with_values a.id (reading_by a) CommandLine (first ∷ rest) kept))
      (sym (at_absent a.id (λ _. []) [] rows absent ∙ append-nil rows))
      (with_new_row rules a CommandLine first rest rows one absent (first_accepted a first rest parts.1) all)

  append_fits : (a : Rule) (values : List Text) (rows : List Row) → IsOf rules a → IsGiven values → values_fault a values ≡ []
      → AllFit rules rows → AllFit rules (with_values a.id (reading_by a) CommandLine values rows)
  append_fits a [] rows one given none all = absurd given
  append_fits a (first ∷ rest) rows one given none all = with_more rules a CommandLine first rest rows one (first_accepted a first rest none) all

  -- an option and a flag set their values alike
  use_fits_as : (a : Rule) (values : List Text) (rows : List Row) → IsOf rules a → (action_of a ≡ Set) ⊎ (action_of a ≡ SetTrue) ⊎ (action_of a ≡ Append) → IsGiven values
      → action_fault (action_of a) again a values rows ≡ [] → AllFit rules rows → AllFit rules (used_as (action_of a) a.id (reading_by a) values rows)
  use_fits_as a values rows one (inl is) given none all =
      subst (λ (action : ArgAction). AllFit rules (used_as action a.id (reading_by a) values rows)) (sym is)
      (set_fits a values rows one given (rw is at none) all)
  use_fits_as a values rows one (inr (inl is)) given none all =
      subst (λ (action : ArgAction). AllFit rules (used_as action a.id (reading_by a) values rows)) (sym is)
      (set_fits a values rows one given (rw is at none) all)
  use_fits_as a values rows one (inr (inr is)) given none all =
      subst (λ (action : ArgAction). AllFit rules (used_as action a.id (reading_by a) values rows)) (sym is)
      (append_fits a values rows one given (rw is at none) all)

  use_fits : (a : Rule) (values : List Text) (rows : List Row) → IsOf rules a → use_fault again a values rows ≡ []
      → AllFit rules rows → AllFit rules (used a values rows)
  use_fits a values rows one none all =
      let parts = neither (range_kinds (unwrap_or_range a.range).start_inclusive (most_values a) (length values))
      (action_fault (action_of a) again a (values_or_missing a values) rows) none in
      use_fits_as a (values_or_missing a values) rows one one.is_option.sets (used_with a values one.is_option.some parts.0) parts.1 all

  settle_fits_at : (pending : Option (Text × List Text)) (rows : List Row)
      → option_map_or (λ p. option_map_or (λ a. use_fault again a p.1 rows) (arg_by_id rules p.0) []) pending [] ≡ []
      → AllFit rules rows → AllFit rules (settled_rows rules pending rows)
  settle_fits_at None rows none all = all
  settle_fits_at (Some p) rows none all = go (arg_by_id rules p.0) refl none
    where
      go : (o : Option Rule) → arg_by_id rules p.0 ≡ o → option_map_or (λ a. use_fault again a p.1 rows) o [] ≡ [] → AllFit rules (used_by_id o p.1 rows)
      go None found n = all
      go (Some a) found n = use_fits a p.1 rows (found_of_rules _ rules a options found) n all

  pub settle_fits : (h : Held) → settle_fault rules again h ≡ [] → AllFit rules h.rows → AllFit rules (settled rules h).rows
  settle_fits h none all = settle_fits_at h.pending h.rows none all

  react_fits : (a : Rule) (values : List Text) (h : Held) → IsOf rules a → react_fault rules again a values h ≡ []
      → AllFit rules h.rows → AllFit rules (reacted rules a values h).rows
  react_fits a values h one none all =
      let parts = neither (settle_fault rules again h) (use_fault again a values (settled rules h).rows) none in
      use_fits a values (settled rules h).rows one parts.1 (settle_fits h parts.0 all)

  -- ---- one word

  option_fits : (a : Rule) (v : Option Text) (h : Held) → IsOf rules a → option_fault rules again a v h ≡ []
      → AllFit rules h.rows → AllFit rules (option_met rules a v h).0.rows
  option_fits a None h one none all = settle_fits h none all
  option_fits a (Some v) h one none all = react_fits a (v ∷ []) h one none all

  flag_fits : (a : Rule) (v : Option Text) (h : Held) → IsOf rules a
      → cond (is_some v) (kind.TooManyValues ∷ []) (react_fault rules again a [] h) ≡ []
      → AllFit rules h.rows → AllFit rules (flag_met rules a v h).0.rows
  flag_fits a None h one none all = react_fits a [] h one none all
  flag_fits a (Some v) h one none all = all

  long_fits : (found : Option Rule) (v : Option Text) (h : Held) → ((a : Rule) → found ≡ Some a → IsOf rules a)
      → long_fault rules again found v h ≡ [] → AllFit rules h.rows → AllFit rules (long_met rules found v h).0.rows
  long_fits None v h ones none all = all
  long_fits (Some a) v h ones none all = go (takes_values a) none
    where
      go : (b : Bool) → cond b (option_fault rules again a v h) (cond (is_some v) (kind.TooManyValues ∷ []) (react_fault rules again a [] h)) ≡ []
          → AllFit rules (cond b (option_met rules a v h) (flag_met rules a v h)).0.rows
      go true n = option_fits a v h (ones a refl) n all
      go false n = flag_fits a v h (ones a refl) n all

  short_fits : (found : Option Rule) (rest : Text) (h : Held) (goes : Held → Held × Outcome) (fails : Held → Kinds)
      → ((a : Rule) → found ≡ Some a → IsOf rules a)
      → ((g : Held) → fails g ≡ [] → AllFit rules g.rows → AllFit rules (goes g).0.rows)
      → short_fault rules again found rest h fails ≡ [] → AllFit rules h.rows → AllFit rules (short_met rules found rest h goes).0.rows
  short_fits None rest h goes fails ones more none all = all
  short_fits (Some a) rest h goes fails ones more none all = go (takes_values a) none
    where
      go : (b : Bool) → cond b (option_fault rules again a (attached_value rest) h) (or_else (react_fault rules again a [] h) (fails (reacted rules a [] h))) ≡ []
          → AllFit rules (cond b (option_met rules a (attached_value rest) h) (goes (reacted rules a [] h))).0.rows
      go true n = option_fits a (attached_value rest) h (ones a refl) n all
      go false n =
          let parts = neither (react_fault rules again a [] h) (fails (reacted rules a [] h)) n in
          more (reacted rules a [] h) parts.1 (react_fits a [] h (ones a refl) parts.0 all)

  bundle_fits : (k : ℕ) (flags : Text) (skip : ℕ) (so_far : Outcome) (h : Held) → flags_fault rules again k flags skip h ≡ []
      → AllFit rules h.rows → AllFit rules (bundle_met rules k flags skip so_far h).0.rows
  unfolding bundle_met flags_fault
  bundle_fits zero flags skip so_far h none all = all
  bundle_fits (suc k) flags skip so_far h none all = go (slice_get (chars flags) 0) skip (bundle_fits k) none
    where
      go : (o : Option ℕ) (skip : ℕ)
          → ((flags : Text) (skip : ℕ) (so_far : Outcome) (h : Held) → flags_fault rules again k flags skip h ≡ []
          → AllFit rules h.rows → AllFit rules (bundle_met rules k flags skip so_far h).0.rows)
          → bundle_step_fault rules again o flags skip h (flags_fault rules again k) ≡ []
          → AllFit rules (bundle_step rules o flags skip so_far h (bundle_met rules k)).0.rows
      go None skip more n = all
      go (Some x) zero more n =
          let rest = drop (length (encode_utf8 x)) flags in
          short_fits (arg_by_short rules x) rest h (bundle_met rules k rest 0 done) (flags_fault rules again k rest 0)
          (λ a found. found_of_rules _ rules a options found) (λ g. more rest 0 done g) n all
      go (Some x) (suc skip) more n = more (drop (length (encode_utf8 x)) flags) skip so_far h n all

  plain_rows : (waiting : Waiting) (word : Text) (h : Held) → AllFit rules h.rows → AllFit rules (plain_word rules waiting word h).0.rows
  plain_rows idle word h all = all
  plain_rows positional word h all = all
  plain_rows (option id) word h all = go (arg_by_id rules id)
    where
      go : (o : Option Rule) → AllFit rules (option_word o id word h).0.rows
      go None = all
      go (Some a) = all

  after_fits : (waiting : Waiting) (word : Text) (h : Held) (o : Outcome) → AllFit rules h.rows → AllFit rules (after_flag rules waiting word h o).0.rows
  after_fits waiting word h done all = all
  after_fits waiting word h (waits id) all = all
  after_fits waiting word h plain all = plain_rows waiting word h all
  after_fits waiting word h refused all = plain_rows waiting word h all

  flag_word_fits : (waiting : Waiting) (word : Text) (p : Option (Text × Option Text)) (h : Held) → flag_word_fault rules again p word h ≡ []
      → AllFit rules h.rows → AllFit rules (long_or_other rules waiting word p h).0.rows
  flag_word_fits waiting word (Some p) h none all =
      after_fits waiting word _ _ (long_fits (arg_by_long rules p.0) p.1 h (λ a found. found_of_rules _ rules a options found) none all)
  flag_word_fits waiting word None h none all = go (short_of word) none
    where
      go : (o : Option Text) → option_map_or (λ flags. bundle_fault rules again flags h) o [] ≡ [] → AllFit rules (short_or_plain rules waiting word o h).0.rows
      go None n = plain_rows waiting word h all
      go (Some flags) n = after_fits waiting word _ _ (bundle_fits (length flags) flags h.skip plain (record h { skip = 0 }) n all)

  other_fits : (s : Shape) → s.rules ≡ rules → s.args_override_self ≡ again → (waiting : Waiting) (position : ℕ) (met : Option Text) (word : Text) (h : Held)
      → other_fault s met word h ≡ [] → AllFit rules h.rows → AllFit rules (subcommand_or_other rules met waiting position word h).0.rows
  other_fits s has keeps waiting position (Some name) word h none all = all
  other_fits s has keeps waiting position None word h none all = go (bytes_eq word (45 ∷ 45 ∷ [])) none
    where
      go : (b : Bool) → cond b [] (flag_word_fault s.rules s.args_override_self (long_of word) word h) ≡ []
          → AllFit rules (cond b (h, trailing position) (long_or_other rules waiting word (long_of word) h)).0.rows
      go true n = all
      go false n =
          let same : flag_word_fault s.rules s.args_override_self (long_of word) word h ≡ flag_word_fault rules again (long_of word) word h
          = λ i. flag_word_fault (has i) (keeps i) (long_of word) word h in
          flag_word_fits waiting word (long_of word) h (sym same ∙ n) all

-- ---- the walk over the words

module _ (s : Shape) (names : Names) (once : s.args_override_self ≡ false) (options : AreOptions s.rules) where
  word_fits : (is_trailing : Bool) (waiting : Waiting) (position : ℕ) (word : Text) (h : Held) → word_fault s names is_trailing waiting word h ≡ []
      → AllFit s.rules h.rows → AllFit s.rules (word_met s.rules names is_trailing waiting position word h).0.rows
  word_fits true waiting position word h none all = all
  word_fits false waiting position word h none all =
      other_fits s.rules s.args_override_self once options s refl refl waiting position (subcommand_met names waiting word) word h none all

  positional_fits : (a : Rule) (word : Text) (h : Held) → positional_fault s.rules s.args_override_self a h ≡ []
      → AllFit s.rules h.rows → AllFit s.rules (positional_held s.rules a word h).rows
  positional_fits a word h none all = go (is_pending a h.pending && takes_several a) none
    where
      go : (b : Bool) → cond b [] (settle_fault s.rules s.args_override_self h) ≡ [] → AllFit s.rules (cond b h (settled s.rules h)).rows
      go true n = all
      go false n = settle_fits s.rules s.args_override_self once options h n all

  step_fits : (w : Walk) (word : Text) (h : Held) (step : Step) → step_fault s w.position h step ≡ []
      → AllFit s.rules h.rows → AllFit s.rules (after_step s.rules word w h step).held.rows
  step_fits w word h (next waiting) none all = all
  step_fits w word h (trailing position) none all = all
  step_fits w word h (subcommand name) none all = all
  step_fits w word h value none all = go (arg_by_index s.rules w.position) none
    where
      go : (o : Option Rule) → option_map_or (λ a. positional_fault s.rules s.args_override_self a h) o (stray_fault s) ≡ []
          → AllFit s.rules (to_positional s.rules o word w h).held.rows
      go None n = all
      go (Some a) n = positional_fits a word h n all

  turn_fits : (w : Walk) (word : Text) → turn_fault s names w word ≡ [] → AllFit s.rules w.held.rows → AllFit s.rules (walked s.rules names w word).held.rows
  unfolding walked
  turn_fits w word none all = go w.stopped none
    where
      go : (o : Option (Text × List Text))
          → (let met = word_met s.rules names w.is_trailing w.waiting w.position word w.held in
          cond (is_some o) [] (or_else (word_fault s names w.is_trailing w.waiting word w.held) (step_fault s w.position met.0 met.1))) ≡ []
          → AllFit s.rules (walked_from s.rules names o w word).held.rows
      go (Some p) n = all
      go None n =
          let met = word_met s.rules names w.is_trailing w.waiting w.position word w.held in
          let parts = neither (word_fault s names w.is_trailing w.waiting word w.held) (step_fault s w.position met.0 met.1) n in
          step_fits w word met.0 met.1 parts.1 (word_fits w.is_trailing w.waiting w.position word w.held parts.0 all)

  pub walk_fits : (w : Walk) (words : List Text) → walk_fault s names w words ≡ [] → AllFit s.rules w.held.rows
      → AllFit s.rules (fold (walked s.rules names) w words).held.rows
  unfolding walk_fault
  walk_fits w [] none all = all
  walk_fits w (word ∷ words) none all =
      let parts = neither (turn_fault s names w word) (walk_fault s names (walked s.rules names w word) words) none in
      walk_fits (walked s.rules names w word) words parts.1 (turn_fits w word parts.0 all)

-- ---- defaults

default_fits : (rules : List Rule) (a : Rule) (rows : List Row) → IsOf rules a → default_fault rows a ≡ [] → AllFit rules rows → AllFit rules (with_default rows a)
default_fits rules a rows one none all = go (has_row a.id rows) a.defaults refl none
  where
    given : (defaults : List Text) → has_row a.id rows ≡ false → given_default_fault a defaults ≡ [] → AllFit rules (default_rows a.id (reading_by a) defaults rows)
    given [] absent n = all
    given (first ∷ rest) absent n =
        let parts = neither (request_kinds (action_of a)) (values_fault a (first ∷ rest)) n in
        with_new_row rules a DefaultValue first rest rows one absent (first_accepted a first rest parts.1) all

    go : (b : Bool) (defaults : List Text) → has_row a.id rows ≡ b → cond (b || is_empty defaults) [] (given_default_fault a defaults) ≡ []
        → AllFit rules (cond b rows (default_rows a.id (reading_by a) defaults rows))
    go true defaults is n = all
    go false [] is n = all
    go false (first ∷ rest) is n = given (first ∷ rest) is (rw (not_empty first rest) at n)

pub defaults_fit : (rules rest : List Rule) (rows : List Row) → ((row : Row) → FitsOne rest row → FitsOne rules row) → AreOptions rest
    → defaults_fault rows rest ≡ [] → AllFit rules rows → AllFit rules (fold with_default rows rest)
unfolding defaults_fault
defaults_fit rules [] rows among options none all = all
defaults_fit rules (a ∷ rest) rows among options none all =
    let parts = neither (default_fault rows a) (defaults_fault (with_default rows a) rest) none in
    let one : IsOf rules a = record { fits = λ row fit. among row (inl fit); is_option = options.0 } in
    defaults_fit rules rest (with_default rows a) (λ row fit. among row (inr fit)) options.1 parts.1 (default_fits rules a rows one parts.0 all)

-- ---- rows that are there

any_more : (test : Row → Bool) (rows more : List Row) → list_any test rows ≡ true → list_any test (rows ++ more) ≡ true
any_more test [] more some = cc
any_more test (row ∷ rows) more some = go (test row) (any_more test rows more) some
  where
    go : (b : Bool) → (list_any test rows ≡ true → list_any test (rows ++ more) ≡ true) → (b || list_any test rows) ≡ true → (b || list_any test (rows ++ more)) ≡ true
    go true rest e = refl
    go false rest e = rest e

any_last : (test : Row → Bool) (rows : List Row) (row : Row) → test row ≡ true → list_any test (rows ++ row ∷ []) ≡ true
any_last test [] row is = rw is refl
any_last test (first ∷ rows) row is = go (test first) (any_last test rows row is)
  where
    go : (b : Bool) → list_any test (rows ++ row ∷ []) ≡ true → (b || list_any test (rows ++ row ∷ [])) ≡ true
    go true rest = refl
    go false rest = rest

-- a default keeps the rows that are there
kept_by_default : (id : Text) (rows : List Row) (a : Rule) → has_row id rows ≡ true → has_row id (with_default rows a) ≡ true
kept_by_default id rows a there = go (has_row a.id rows) a.defaults refl
  where
    go : (b : Bool) (defaults : List Text) → has_row a.id rows ≡ b → has_row id (cond b rows (default_rows a.id (reading_by a) defaults rows)) ≡ true
    go true defaults is = there
    go false [] is = there
    go false (first ∷ rest) is =
        ap (λ kept. has_row id kept) (at_absent a.id (more_values DefaultValue (first ∷ rest)) _ rows is) ∙ any_more (λ r. bytes_eq r.id id) rows _ there

-- an argument with a default has a row
made_by_default : (rows : List Row) (a : Rule) → is_empty a.defaults ≡ false → has_row a.id (with_default rows a) ≡ true
made_by_default rows a some = go (has_row a.id rows) a.defaults refl some
  where
    go : (b : Bool) (defaults : List Text) → has_row a.id rows ≡ b → is_empty defaults ≡ false
        → has_row a.id (cond b rows (default_rows a.id (reading_by a) defaults rows)) ≡ true
    go true defaults is e = is
    go false [] is e = cc
    go false (first ∷ rest) is e =
        ap (λ kept. has_row a.id kept) (at_absent a.id (more_values DefaultValue (first ∷ rest)) _ rows is)
        ∙ any_last (λ r. bytes_eq r.id a.id) rows _ ((bytes_eq-Decides a.id a.id).1 refl)

kept_by_defaults : (id : Text) (rules : List Rule) (rows : List Row) → has_row id rows ≡ true → has_row id (fold with_default rows rules) ≡ true
kept_by_defaults id [] rows there = there
kept_by_defaults id (a ∷ rules) rows there = kept_by_defaults id rules (with_default rows a) (kept_by_default id rows a there)

-- one of a command's arguments that has a default has a row
pub made_by_defaults : (rules : List Rule) (a : Rule) (rows : List Row) → find (λ b. bytes_eq b.id a.id) rules ≡ Some a → is_empty a.defaults ≡ false
    → has_row a.id (fold with_default rows rules) ≡ true
made_by_defaults [] a rows found some = cc
made_by_defaults (b ∷ rules) a rows found some = go (bytes_eq b.id a.id) (λ e. made_by_defaults rules a (with_default rows b) e some) found
  where
    go : (test : Bool) → (find (λ b. bytes_eq b.id a.id) rules ≡ Some a → has_row a.id (fold with_default (with_default rows b) rules) ≡ true)
        → cond test (Some b) (find (λ b. bytes_eq b.id a.id) rules) ≡ Some a → has_row a.id (fold with_default (with_default rows b) rules) ≡ true
    go true more e =
        let same : b ≡ a = some_is b a e in
        kept_by_defaults a.id rules (with_default rows b)
        (subst (λ (r : Rule). has_row a.id (with_default rows r) ≡ true) (sym same) (made_by_default rows a some))
    go false more e = more e

-- an argument that the words gave has a row
pub given_row : (id : Text) (rows : List Row) → is_given id rows ≡ true → has_row id rows ≡ true
given_row id [] given = given
given_row id (row ∷ rows) given = go (bytes_eq row.id id) (given_row id rows) given
  where
    go : (b : Bool) → (is_given id rows ≡ true → has_row id rows ≡ true)
        → option_map_or (λ r. explicit_source r.source) (cond b (Some row) (find (λ r. bytes_eq r.id id) rows)) false ≡ true → (b || has_row id rows) ≡ true
    go true more e = refl
    go false more e = more e

-- no two arguments have one id
pub record IsNew (a : Rule) (rules : List Rule) : Type 0 where
  pub is_new : list_any (λ b. bytes_eq b.id a.id) rules ≡ false

abbrev pub AreDistinct : List Rule → Type 0
AreDistinct [] = Unit {0}
AreDistinct (a ∷ rules) = IsNew a rules × AreDistinct rules

-- the same as a test
abbrev pub are_distinct : List Rule → Bool
are_distinct [] = true
are_distinct (a ∷ rules) = not (list_any (λ b. bytes_eq b.id a.id) rules) && are_distinct rules

not_true : (b : Bool) → not b ≡ true → b ≡ false
not_true true is = cc
not_true false is = refl

pub distinct_of : (rules : List Rule) → are_distinct rules ≡ true → AreDistinct rules
distinct_of [] is = tt
distinct_of (a ∷ rules) is =
    let parts = both_hold (not (list_any (λ b. bytes_eq b.id a.id) rules)) (are_distinct rules) is in
    (record { is_new = not_true _ parts.0 }, distinct_of rules parts.1)

found_any : (id : Text) (rules : List Rule) (b : Rule) → find (λ a. bytes_eq a.id id) rules ≡ Some b → list_any (λ a. bytes_eq a.id id) rules ≡ true
found_any id [] b found = cc
found_any id (a ∷ rules) b found = go (bytes_eq a.id id) (found_any id rules b) found
  where
    go : (test : Bool) → (find (λ a. bytes_eq a.id id) rules ≡ Some b → list_any (λ a. bytes_eq a.id id) rules ≡ true)
        → cond test (Some a) (find (λ a. bytes_eq a.id id) rules) ≡ Some b → (test || list_any (λ a. bytes_eq a.id id) rules) ≡ true
    go true more e = refl
    go false more e = more e

-- the argument of an id, which the row fits
record RuleOf (id : Text) (rules : List Rule) (row : Row) : Type 0 where
  rule : Rule
  found : find (λ a. bytes_eq a.id id) rules ≡ Some rule
  fits : Fits rule row

rule_of_row : (id : Text) (rules : List Rule) (row : Row) → AreDistinct rules → row.id ≡ id → FitsOne rules row → RuleOf id rules row
rule_of_row id [] row distinct same one = absurd one
rule_of_row id (a ∷ rules) row distinct same (inl fit) =
    let is : bytes_eq a.id id ≡ true = (bytes_eq-Decides a.id id).1 (sym fit.same ∙ same) in
    record { rule = a; found = rw is refl; fits = fit }
rule_of_row id (a ∷ rules) row distinct same (inr behind) = go (bytes_eq a.id id) refl (rule_of_row id rules row distinct.1 same behind)
  where
    go : (test : Bool) → bytes_eq a.id id ≡ test → RuleOf id rules row → RuleOf id (a ∷ rules) row
    go true is rest =
        let twice = found_any id rules rest.rule rest.found in
        let once : list_any (λ b. bytes_eq b.id id) rules ≡ false =
        subst (λ (t : Text). list_any (λ b. bytes_eq b.id t) rules ≡ false) ((bytes_eq-Decides a.id id).0 is) distinct.0.is_new in
        cc
    go false is rest = record { rule = rest.rule; found = rw is rest.found; fits = rest.fits }

-- the row of an id
record RowOf (rules : List Rule) (id : Text) (rows : List Row) : Type 0 where
  row : Row
  found : find (λ r. bytes_eq r.id id) rows ≡ Some row
  same : row.id ≡ id
  fits : FitsOne rules row

row_of_id : (rules : List Rule) (id : Text) (rows : List Row) → AllFit rules rows → has_row id rows ≡ true → RowOf rules id rows
row_of_id rules id [] all there = cc
row_of_id rules id (row ∷ rows) all there = go (bytes_eq row.id id) refl (row_of_id rules id rows all.1) there
  where
    behind : bytes_eq row.id id ≡ false → RowOf rules id rows → RowOf rules id (row ∷ rows)
    behind is rest = record { row = rest.row; found = rw is rest.found; same = rest.same; fits = rest.fits }

    go : (b : Bool) → bytes_eq row.id id ≡ b → (has_row id rows ≡ true → RowOf rules id rows) → (b || has_row id rows) ≡ true → RowOf rules id (row ∷ rows)
    go true is more e = record { row = row; found = rw is refl; same = (bytes_eq-Decides row.id id).0 is; fits = all.0 }
    go false is more e = behind is (more e)

-- what was found for an argument, which fits it
pub record Found (a : Rule) (rows : List Row) : Type 0 where
  pub row : Row
  pub found : find (λ r. bytes_eq r.id a.id) rows ≡ Some row
  pub fits : Fits a row

pub found_for : (rules : List Rule) (a : Rule) (rows : List Row) → AreDistinct rules → find (λ b. bytes_eq b.id a.id) rules ≡ Some a → AllFit rules rows
    → has_row a.id rows ≡ true → Found a rows
found_for rules a rows distinct is all there =
    let of = row_of_id rules a.id rows all there in
    let rule = rule_of_row a.id rules of.row distinct of.same of.fits in
    let same : rule.rule ≡ a = some_is rule.rule a (sym rule.found ∙ is) in
    record { row = of.row; found = of.found; fits = subst (λ (b : Rule). Fits b of.row) same rule.fits }
