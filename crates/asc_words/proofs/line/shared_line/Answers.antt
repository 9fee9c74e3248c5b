use Rattle.std.proofs.Common.{◌≡◌, ◌∙◌, ap, sym, rules, codes, true, false, Bor, Option, Some, None, Result, Ok, Err, IsSome, is_some, option_map, unwrap_or, []}
use Rattle.clap.specs.Words.{found_of, rows_of}
use Rattle.clap.specs.Walk.{Text, first_of}
use Rattle.clap.proofs.WalkLemmas.{first_value-rows}
use Rattle.asc_words.specs.declared.line.Guesses.{Guesses}
use Rattle.asc_words.specs.declared.line.RunLine.{RunLine}
use Rattle.asc_words.specs.declared.line.LineFault.TheVariants as faults
use Rattle.asc_words.specs.declared.answer.Bad.{Bad}
use Rattle.asc_words.specs.Line.{address_of, guesses_of, number_in, shared_at, shared_with, text_in, version_numbered}
use Rattle.asc_words.proofs.Lines.{passed_up}
use Rattle.asc_words.proofs.line.shared_line.Goals as goal

some_text : (o : Option (Bor Text)) (text : Option Text) → option_map (λ s. s.now) o ≡ text → is_some text ≡ true → IsSome o
some_text (Some s) text is some = search rules
some_text None text is some = let none = ap is_some is in cc

-- the text that a getter gives
text_met : (o : Option (Bor Text)) (s : Bor Text) (text : Option Text) → o ≡ Some s → option_map (λ t. t.now) o ≡ text → s.now ≡ unwrap_or text []
text_met o s text is reads = ap (λ (t : Option Text). unwrap_or t []) (sym (ap (option_map (λ (t : Bor Text). t.now)) is) ∙ reads)

pub unwrap-requires : goal.unwrap-requires
unwrap-requires c =
    let found = found_of c.args.found.now in
    some_text _ _ c.get_str.ensures (ap is_some (first_value-rows found (codes "guess")) ∙ c.requires.guess)

pub unwrap-requires-2 : goal.unwrap-requires-2
unwrap-requires-2 c =
    let found = found_of c.args.found.now in
    some_text _ _ c.get_str-3.ensures (ap is_some (first_value-rows found (codes "image")) ∙ c.requires.image)

pub flag-requires : goal.flag-requires
flag-requires c = c.requires.join

pub flag-requires-2 : goal.flag-requires-2
flag-requires-2 c = c.requires.seek

pub returns-clause-line : goal.returns-clause-line
returns-clause-line c =
    let found = found_of c.args.found.now in
    let rows = rows_of found in
    let word : c.unwrap.result.now ≡ text_in (codes "guess") rows =
    text_met _ c.unwrap.result _ c.unwrap.ensures (c.get_str.ensures ∙ first_value-rows found (codes "guess")) in
    let guesses : guesses_of (text_in (codes "guess") rows) ≡ Ok c.in_ok-guesses.guesses =
    sym (ap guesses_of word) ∙ sym c.guesses_of.ensures ∙ c.in_ok-guesses.was in
    let address : address_of (first_of (codes "pc") rows) ≡ Ok c.in_ok-pc.pc =
    sym (ap address_of (c.get_str-2.ensures ∙ first_value-rows found (codes "pc"))) ∙ sym c.address.ensures ∙ c.in_ok-pc.was in
    let name = text_met _ c.unwrap-2.result _ c.unwrap-2.ensures (c.get_str-3.ensures ∙ first_value-rows found (codes "image")) in
    let text = c.in_ok-from_str.ensures.ok in
    let image : c.new.result ≡ text_in (codes "image") rows = cc (text, name, c.new.ensures) in
    let version : c.version_numbered.result ≡ version_numbered (number_in (codes "machine") rows) = c.version_numbered.ensures ∙ ap version_numbered c.number-3.ensures in
    let made : record { image = c.new.result; memory = c.number.result; limit = c.number-2.result; version = c.version_numbered.result; last = c.in_ok-guesses.guesses.last; stride = c.in_ok-guesses.guesses.stride; pc = c.in_ok-pc.pc; profile = c.number-4.result; least = c.number-5.result; laps = c.number-6.result; span = c.number-7.result; ahead = c.number-8.result; workers = 0; lanes = 0; queue = c.number-9.result; join = c.flag.result; seek = c.flag-2.result; report = false; load = None }
    ≡ shared_with rows c.in_ok-guesses.guesses c.in_ok-pc.pc =
    λ i. record { image = image i; memory = c.number.ensures i; limit = c.number-2.ensures i; version = version i; last = c.in_ok-guesses.guesses.last; stride = c.in_ok-guesses.guesses.stride; pc = c.in_ok-pc.pc; profile = c.number-4.ensures i; least = c.number-5.ensures i; laps = c.number-6.ensures i; span = c.number-7.ensures i; ahead = c.number-8.ensures i; workers = 0; lanes = 0; queue = c.number-9.ensures i; join = c.flag.ensures i; seek = c.flag-2.ensures i; report = false; load = None } in
    ap (λ (g : Result Guesses Bad). shared_at rows g (address_of (first_of (codes "pc") rows))) guesses
    ∙ ap (shared_at rows (Ok c.in_ok-guesses.guesses)) address ∙ ap (λ (line : RunLine). Ok line) (sym made)

pub returns-in_err-guesses-clause-usage : goal.returns-in_err-guesses-clause-usage
returns-in_err-guesses-clause-usage c = λ bad usage.
    let found = found_of c.args.found.now in
    let rows = rows_of found in
    let own = c.in_err-guesses.field-0.0 in
    let passed : faults.Usage own ≡ faults.Usage bad = passed_up _ _ _ c.from_residual.ensures.1 usage in
    let same : own ≡ bad = cc (passed) in
    let word : c.unwrap.result.now ≡ text_in (codes "guess") rows =
    text_met _ c.unwrap.result _ c.unwrap.ensures (c.get_str.ensures ∙ first_value-rows found (codes "guess")) in
    let guesses : guesses_of (text_in (codes "guess") rows) ≡ Err own =
    sym (ap guesses_of word) ∙ sym c.guesses_of.ensures ∙ c.in_err-guesses.was in
    ap (λ (g : Result Guesses Bad). shared_at rows g (address_of (first_of (codes "pc") rows))) guesses ∙ ap (λ (b : Bad). Err b) same

pub returns-in_err-pc-clause-usage : goal.returns-in_err-pc-clause-usage
returns-in_err-pc-clause-usage c = λ bad usage.
    let found = found_of c.args.found.now in
    let rows = rows_of found in
    let own = c.in_err-pc.field-0.0 in
    let passed : faults.Usage own ≡ faults.Usage bad = passed_up _ _ _ c.from_residual-in_err-pc.ensures.1 usage in
    let same : own ≡ bad = cc (passed) in
    let word : c.unwrap.result.now ≡ text_in (codes "guess") rows =
    text_met _ c.unwrap.result _ c.unwrap.ensures (c.get_str.ensures ∙ first_value-rows found (codes "guess")) in
    let guesses : guesses_of (text_in (codes "guess") rows) ≡ Ok c.in_ok-guesses.guesses =
    sym (ap guesses_of word) ∙ sym c.guesses_of.ensures ∙ c.in_ok-guesses.was in
    let address : address_of (first_of (codes "pc") rows) ≡ Err own =
    sym (ap address_of (c.get_str-2.ensures ∙ first_value-rows found (codes "pc"))) ∙ sym c.address.ensures ∙ c.in_err-pc.was in
    ap (λ (g : Result Guesses Bad). shared_at rows g (address_of (first_of (codes "pc") rows))) guesses
    ∙ ap (shared_at rows (Ok c.in_ok-guesses.guesses)) address ∙ ap (λ (b : Bad). Err b) same
