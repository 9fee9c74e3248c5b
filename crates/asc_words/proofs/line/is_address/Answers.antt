use Rattle.std.proofs.Common.{◌≡◌, ◌∙◌, sym, rules, tests}
use Rattle.std.specs.Char.{is_ascii_hexdigit}
use Rattle.std.specs.List.{list_all}
use Rattle.std.proofs.lemmas.Iterator.Adapters.{YieldsList-from_bytes}
use Rattle.std.proofs.lemmas.Iterator.Search.{all_from_yields_List}
use Rattle.asc_words.proofs.Addresses.{is_address-digits, not_empty}
use Rattle.asc_words.proofs.line.is_address.Goals as goal

pub returns-then-text-le8 : goal.returns-then-text-le8
returns-then-text-le8 c =
    let text = c.args.text.now in
    let all : c.all.result ≡ list_all is_ascii_hexdigit text = all_from_yields_List is_ascii_hexdigit _ _ _ c.all.ensures.ran (YieldsList-from_bytes text (cc)) (λ x b q k. search (rules, tests)) in
    all ∙ sym (is_address-digits text (not_empty text (sym c.is_empty.ensures ∙ c.if-text-le8.true.0)) c.if-text-le8.true.1)
