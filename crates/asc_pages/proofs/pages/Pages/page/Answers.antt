use Rattle.std.proofs.Common.{◌∙◌, ap}
use Rattle.asc_pages.specs.Tops.{page_of}
use Rattle.asc_pages.specs.declared.pages.Top.{Top}
use Rattle.asc_pages.proofs.Copies.{page_read}
use Rattle.asc_pages.proofs.pages.Pages.page.Goals as goal

pub returns-clause-page : goal.returns-clause-page
returns-clause-page c =
    page_read c.args.self.now c.self.inside.top.value c.top_page.result.now c.args.p c.self.view_is
    (c.top_page.ensures.page ∙ ap (λ (top : Top). page_of top c.args.p) c.deref.ensures)
