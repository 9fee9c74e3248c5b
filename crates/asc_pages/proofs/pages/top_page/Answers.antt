use Rattle.std.proofs.Common.{◌∙◌, ◌%◌, List, Option, ap, sym, arith}
use Rattle.asc_pages.specs.Pages.{Page, page_in}
use Rattle.asc_pages.proofs.Copies.{page_patched, page_plain}
use Rattle.asc_pages.proofs.pages.top_page.Goals as goal

pub returns-then-k-len-clause-page : goal.returns-then-k-len-clause-page
returns-then-k-len-clause-page c =
    let at = c.place-k.ensures in
    c.page_at.ensures.page ∙ ap (λ k. page_in c.args.top.now.patches k) at
    ∙ sym (page_patched c.args.top.now c.args.p (omega (arith, at)))

pub returns-else-k-len-clause-page : goal.returns-else-k-len-clause-page
returns-else-k-len-clause-page c =
    let at = c.place-k.ensures in
    c.page_at-else-k-len.ensures.page ∙ ap (λ (pages : List (Option Page)). page_in pages (c.args.p % 32)) c.pages_in.ensures
    ∙ sym (page_plain c.args.top.now c.args.p (omega (arith, at)))
