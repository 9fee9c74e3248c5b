use Rattle.std.proofs.Common.{◌≡◌, ◌∙◌, ◌<◌, ◌≤◌, ap, arith, sym, rules, codes, true, false, refl, Bor, List, [], length, map, nat_le, Option, Some, None, Ok, Err, IsSome, is_some}
use Rattle.std.specs.Prelude.{option_and_then, option_map, slice_get, unwrap_or}
use Rattle.std.specs.List.{find}
use Rattle.std.specs.Str.{bytes_eq}
use Rattle.std.proofs.lemmas.Bool.Decides.{nat_tests}
use Rattle.std.proofs.lemmas.List.{length-map}
use Rattle.clap.specs.Words.{found_of, rows_of}
use Rattle.clap.specs.Walk.{Row, Text}
use Rattle.clap.proofs.WalkLemmas.{raw_values-rows}
use Rattle.asc_words.specs.declared.answer.Bad.{Bad}
use Rattle.asc_words.specs.declared.answer.Bad.TheVariants.{Inputs}
use Rattle.asc_words.specs.declared.line.Line.TheVariants.{Batch}
use Rattle.asc_words.specs.declared.line.LineFault.TheVariants as faults
use Rattle.asc_words.specs.declared.line.RunLine.{RunLine}
use Rattle.asc_words.specs.Line.{batch_at, batch_with, inputs_in, most_inputs}
use Rattle.asc_words.proofs.Lines.{passed_up}
use Rattle.asc_words.proofs.line.batch_line.Goals as goal

-- the texts behind references
abbrev texts : List (Bor Text) → List Text
texts = map (λ s. s.now)

-- an argument that has a text has a list of them
has_all : (row : Option Row) → is_some (option_and_then (λ r. slice_get r.values 0) row) ≡ true → is_some (option_map (λ (r : Row). r.values) row) ≡ true
has_all None some = cc
has_all (Some row) some = refl

some_texts : (o : Option (Bor (List (Bor Text)))) (all : Option (List Text)) → option_map (λ s. texts s.now) o ≡ all → is_some all ≡ true → IsSome o
some_texts (Some s) all is some = search rules
some_texts None all is some = let none = ap is_some is in cc

-- the texts that a getter gives
texts_met : (o : Option (Bor (List (Bor Text)))) (s : Bor (List (Bor Text))) (all : Option (List Text)) → o ≡ Some s
    → option_map (λ t. texts t.now) o ≡ all → texts s.now ≡ unwrap_or all []
texts_met o s all is reads =
    ap (λ (t : Option (List Text)). unwrap_or t []) (sym (ap (option_map (λ (t : Bor (List (Bor Text))). texts t.now)) is) ∙ reads)

few_taken : (rows : List Row) (line : RunLine) (names : List (Bor Text)) → texts names ≡ inputs_in rows → length names ≤ most_inputs
    → batch_at rows (Ok line) ≡ Ok (Batch (batch_with rows line))
few_taken rows line names same few =
    let count : length (inputs_in rows) ≡ length names = ap length (sym same) ∙ length-map names (λ s. s.now) in
    let is : nat_le (length (inputs_in rows)) most_inputs ≡ true = grind (arith, nat_tests) in
    rw is refl

many_refused : (rows : List Row) (line : RunLine) (names : List (Bor Text)) → texts names ≡ inputs_in rows → most_inputs < length names
    → batch_at rows (Ok line) ≡ Err Inputs
many_refused rows line names same many =
    let count : length (inputs_in rows) ≡ length names = ap length (sym same) ∙ length-map names (λ s. s.now) in
    let is : nat_le (length (inputs_in rows)) most_inputs ≡ false = grind (arith, nat_tests) in
    rw is refl

pub unwrap-requires : goal.unwrap-requires
unwrap-requires c =
    let found = found_of c.args.found.now in
    some_texts _ _ (c.get_strs.ensures ∙ raw_values-rows found (codes "inputs")) (has_all (find (λ r. bytes_eq r.id (codes "inputs")) (rows_of found)) c.requires.inputs)

pub returns-in_err-inputs-clause-usage : goal.returns-in_err-inputs-clause-usage
returns-in_err-inputs-clause-usage c = λ bad usage.
    let found = found_of c.args.found.now in
    let rows = rows_of found in
    let own = c.in_err-inputs.field-0.0 in
    let passed : faults.Usage own ≡ faults.Usage bad = passed_up _ _ _ c.from_residual-in_err-inputs.ensures.1 usage in
    let same : own ≡ bad = cc (passed) in
    let names = texts_met _ c.unwrap.result _ c.unwrap.ensures (c.get_strs.ensures ∙ raw_values-rows found (codes "inputs")) in
    ap (batch_at rows) c.in_ok-line.ensures.line
    ∙ many_refused rows c.in_ok-line.line c.unwrap.result.now names c.in_err-inputs.ensures.many.1
    ∙ ap (λ (b : Bad). Err b) (sym c.in_err-inputs.ensures.many.0 ∙ same)

pub returns-clause-line : goal.returns-clause-line
returns-clause-line c =
    let found = found_of c.args.found.now in
    let rows = rows_of found in
    let names = texts_met _ c.unwrap.result _ c.unwrap.ensures (c.get_strs.ensures ∙ raw_values-rows found (codes "inputs")) in
    let inputs = c.in_ok-file_names.ensures ∙ ap texts c.in_ok-inputs.ensures.few.0 ∙ names in
    ap (batch_at rows) c.in_ok-line.ensures.line
    ∙ few_taken rows c.in_ok-line.line c.unwrap.result.now names c.in_ok-inputs.ensures.few.1
    ∙ (λ i. Ok (Batch (record {
      run = record c.in_ok-line.line { workers = sym c.number.ensures i; report = sym c.flag.ensures i };
      inputs = sym inputs i;
    })))
