use Rattle.std.proofs.Common.{rules, tests, sym, ap, ◌∙◌, arith}
use Rattle.std.specs.Option.{unwrap_or}
use Rattle.std.proofs.lemmas.Iterator.Adapters.{option_map_id}
use Rattle.std.proofs.lemmas.Iterator.{YieldsList-from_map}
use Rattle.std.proofs.lemmas.Iterator.Consumers.{YieldsList-at, min_from_yields_List}
use Rattle.asc_elf.proofs.Headers.{YieldsList-segments}
use Rattle.asc_elf.proofs.Segments.{least-segments}
use Rattle.asc_elf.proofs.segment.lowest.Goals as goal

pub returns : goal.returns
returns c =
    let picked = sym (option_map_id c.min.result) ∙ min_from_yields_List _ _ c.min.ensures.ran
    (YieldsList-from_map _ (λ h. h.p_vaddr) (YieldsList-at c.map.ensures.source
    (YieldsList-segments _ c.args.file.now (c.filter.ensures.source ∙ c.headers.ensures) c.filter.ensures.closure (λ x r q k. search (rules, tests))))
    c.map.ensures.closure (λ x r q k. search (rules, tests))) in
    c.unwrap_or.ensures ∙ ap (λ o. unwrap_or o 4294967295) picked ∙ least-segments c.args.file.now (λ i. omega (arith, c.type_inv.file i)) c.requires.some
