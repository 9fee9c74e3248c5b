use Rattle.std.proofs.Common.{◌∙◌, sym}
use Rattle.std.proofs.lemmas.Bool.{eqb-true}
use Rattle.asc_pages.proofs.Copies.{word_read, word_blank}
use Rattle.asc_pages.proofs.pages.Pages.word.Goals as goal

pub returns-then-is_empty : goal.returns-then-is_empty
returns-then-is_empty c = word_blank c.args.self.now c.page-page.result.now c.args.place c.page-page.ensures.page c.requires (eqb-true _ _ (sym c.is_empty.ensures ∙ c.if-is_empty.true))

pub returns : goal.returns
returns c = c.word_in.ensures ∙ word_read c.args.self.now c.page-page.result.now c.args.place c.page-page.ensures.page c.requires
