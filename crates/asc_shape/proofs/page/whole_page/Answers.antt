use Rattle.std.proofs.Common.{◌∙◌, replicate, refl, sym}
use Rattle.std.proofs.lemmas.Bool.{eqb-true}
use Rattle.asc_shape.proofs.Pages.{zero_at, no_bytes}
use Rattle.asc_shape.proofs.page.whole_page.Goals as goal

pub returns-then-is_empty-clause-same : goal.returns-then-is_empty-clause-same
returns-then-is_empty-clause-same c j = zero_at 1024 j (replicate 1024 0) c.args.page.now refl (no_bytes c.args.page.now (eqb-true _ _ (sym c.is_empty.ensures ∙ c.if-is_empty.true)))
