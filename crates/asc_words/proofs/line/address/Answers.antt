use Rattle.std.proofs.Common.{◌∙◌, ap, sym, Ok, Bor, Option, option_map, List, ℕ}
use Rattle.asc_words.specs.Line.{address_of}
use Rattle.asc_words.proofs.Addresses.{address_read}
use Rattle.asc_words.proofs.line.address.Goals as goal

pub returns-in-Some : goal.returns-in-Some
returns-in-Some c =
    let text = c.in-Some.text.now in
    let is = sym c.is_address.ensures ∙ c.if-is_address.true in
    ap (λ (o : Option ℕ). Ok o) c.ok.ensures.value ∙ address_read text c.from_str_radix.result is c.from_str_radix.ensures.value
    ∙ ap (λ (o : Option (Bor (List ℕ))). address_of (option_map (λ s. s.now) o)) (sym c.in-Some.is)
