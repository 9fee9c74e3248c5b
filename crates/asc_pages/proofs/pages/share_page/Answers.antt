use Rattle.std.proofs.Common.{◌≡◌, ◌∙◌, ◌%◌, List, Option, ap, sym, arith, None, slice_index_or}
use Rattle.std.proofs.lemmas.Result.{IfOk-weaker}
use Rattle.asc_pages.specs.Pages.{Page, IsShared, page_bytes, page_in}
use Rattle.asc_pages.specs.Tops.{page_of}
use Rattle.asc_pages.proofs.Copies.{page_patched, page_plain, page_shared}
use Rattle.asc_pages.proofs.pages.share_page.Goals as goal

pub returns-then-k-len : goal.returns-then-k-len
returns-then-k-len c =
    let at = c.place-k.ensures in
    IfOk-weaker c.share_part.result (λ part. IsShared part (slice_index_or c.args.top.now.patches c.place-k.result None)) (λ page. page_bytes page ≡ page_of c.args.top.now c.args.p)
    (λ page shared. page_shared page _ shared
    ∙ ap (λ k. page_in c.args.top.now.patches k) at
    ∙ sym (page_patched c.args.top.now c.args.p (omega (arith, at)))) c.share_part.ensures

pub returns-else-k-len : goal.returns-else-k-len
returns-else-k-len c =
    let at = c.place-k.ensures in
    IfOk-weaker c.share_part-else-k-len.result (λ part. IsShared part (slice_index_or c.args.kept.now (c.args.p % 32) None)) (λ page. page_bytes page ≡ page_of c.args.top.now c.args.p)
    (λ page shared. page_shared page _ shared
    ∙ ap (λ (pages : List (Option Page)). page_in pages (c.args.p % 32)) c.requires
    ∙ sym (page_plain c.args.top.now c.args.p (omega (arith, at)))) c.share_part-else-k-len.ensures
