use Rattle.std.proofs.Common.{◌∙◌, ◌%◌, List, ℕ, ap, sym, slice_index}
use Rattle.asc_pages.proofs.Copies.{kept_page}
use Rattle.asc_pages.proofs.pages.put_page.Goals as goal

pub returns-in_ok-page : goal.returns-in_ok-page
returns-in_ok-page c i far inside here =
    kept_page c.args.changed.now c.args.bytes.now c.args.base.now c.args.p c.requires.kept (sym c.is_dirty.ensures ∙ c.if-is_dirty.false) i far inside here
    ∙ ap (λ (l : List ℕ). slice_index l (i % 1024)) (sym c.in_ok-page.ensures)
