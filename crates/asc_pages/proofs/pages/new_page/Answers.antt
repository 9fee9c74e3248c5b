use Rattle.std.proofs.Common.{◌∙◌, ℕ, List, ap, slice_index}
use Rattle.std.proofs.lemmas.List.{get_or-take}
use Rattle.asc_pages.proofs.pages.new_page.Goals as goal

pub returns-in_ok-new-in-Some : goal.returns-in_ok-new-in-Some
returns-in_ok-new-in-Some c i within =
    ap (λ (l : List ℕ). slice_index l i) (c.in_ok-new-in-Some.ensures.ok ∙ c.in-Some.ensures.cases.same)
    ∙ get_or-take 1024 c.args.bytes.now i 0 within
