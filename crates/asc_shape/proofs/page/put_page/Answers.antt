use Rattle.std.proofs.Common.{◌∙◌, sym}
use Rattle.std.proofs.lemmas.Bool.{eqb-true}
use Rattle.asc_shape.proofs.Pages.{put_there, put_elsewhere, length-page, zero_at, no_bytes}
use Rattle.asc_shape.proofs.page.put_page.Goals as goal

pub returns-then-is_empty-clause-page : goal.returns-then-is_empty-clause-page
returns-then-is_empty-clause-page c =
    let bytes = c.args.bytes.now in
    let from = c.ends-from.result.0 in
    let to = c.ends-from.result.1 in
    let size = length-page c.args.p from to bytes c.ends-from.ensures.from c.ends-from.ensures.to c.requires.page in
    put_there bytes c.args.page.now c.fill.new.self c.args.p from to c.ends-from.ensures.from c.ends-from.ensures.to c.requires.page (c.fill.ensures.len ∙ size)
    (λ j within. zero_at _ j c.fill.new.self c.args.page.now (c.fill.ensures.after (λ y e. e)) (no_bytes c.args.page.now (eqb-true _ _ (sym c.is_empty.ensures ∙ c.if-is_empty.true))))

pub returns-else-is_empty-clause-others : goal.returns-else-is_empty-clause-others
returns-else-is_empty-clause-others c =
    let from = c.ends-from.result.0 in
    let to = c.ends-from.result.1 in
    let size = length-page c.args.p from to c.args.bytes.now c.ends-from.ensures.from c.ends-from.ensures.to c.requires.page in
    put_elsewhere c.args.bytes.now c.copy_from_slice.new.self c.args.p from to c.ends-from.ensures.from c.ends-from.ensures.to c.requires.page (c.copy_from_slice.auto.self ∙ size)
