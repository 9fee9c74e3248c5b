use Rattle.std.proofs.Common.{◌∙◌, ℕ, List, ap, slice_index}
use Rattle.std.proofs.lemmas.List.{get_or-take}
use Rattle.asc_pages.proofs.pages.write_over.Goals as goal

pub returns-in-Some : goal.returns-in-Some
returns-in-Some c i within =
    ap (λ (l : List ℕ). slice_index l i) c.in-Some.ensures.cases.same ∙ get_or-take 1024 c.args.bytes.now i 0 within
