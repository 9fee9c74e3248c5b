use Rattle.std.proofs.Common.{◌+◌, rules, tests, sym, ap, ◌∙◌}
use Rattle.std.specs.Option.{unwrap_or}
use Rattle.std.proofs.lemmas.Iterator.Adapters.{option_map_id}
use Rattle.std.proofs.lemmas.Iterator.{YieldsList-from_map}
use Rattle.std.proofs.lemmas.Iterator.Consumers.{YieldsList-at, max_from_yields_List}
use Rattle.asc_elf.specs.File.{segments}
use Rattle.asc_elf.proofs.Headers.{YieldsList-segments}
use Rattle.asc_elf.proofs.Segments.{greatest-end}
use Rattle.asc_elf.proofs.segment.highest.Goals as goal

pub returns : goal.returns
returns c =
    let picked = sym (option_map_id c.max.result) ∙ max_from_yields_List _ _ c.max.ensures.ran
    (YieldsList-from_map _ (λ h. h.p_vaddr + h.p_memsz) (YieldsList-at c.map.ensures.source
    (YieldsList-segments _ c.args.file.now (c.filter.ensures.source ∙ c.headers.ensures) c.filter.ensures.closure (λ x r q k. search (rules, tests))))
    c.map.ensures.closure (λ x r q k. search (rules, tests))) in
    c.unwrap_or.ensures ∙ ap (λ o. unwrap_or o 0) picked ∙ greatest-end (segments c.args.file.now)
