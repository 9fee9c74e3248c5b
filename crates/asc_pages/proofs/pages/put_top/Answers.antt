use Rattle.std.proofs.Common.{◌<◌, ℕ, List, length, slice_index, subst}
use Rattle.std.proofs.lemmas.Result.{IfOk-weaker}
use Rattle.asc_pages.specs.Pages.{AreGroups, IsPage, Tells, page_in}
use Rattle.asc_pages.specs.Tops.{bytes_in, groups_in}
use Rattle.asc_pages.proofs.Copies.{told_whole, told_patched, groups_shared}
use Rattle.asc_pages.proofs.pages.put_top.Goals as goal

pub returns-in_ok-top : goal.returns-in_ok-top
returns-in_ok-top c =
    let bytes = c.args.bytes.now in
    let patches = c.put_patches.new.patches in
    let here : List ℕ → Type 0 = λ patched. (k : ℕ) → k < length patched → IsPage bytes (slice_index patched k) (page_in patches k) in
    IfOk-weaker c.put_patches.result (λ _. here c.list.result.now) (λ _. Tells (bytes_in _) bytes)
    (λ _ each. told_patched c.args.changed.now bytes c.args.base.now _ c.requires.dirty c.requires.kept
    (groups_shared c.in_ok-top.field-0 c.args.base.now.groups c.in_ok-top.ensures)
    (c.list_patched.ensures c.if-list_patched.true)
    (subst here c.list.ensures.numbers each)) c.put_patches.ensures

pub returns-else-list_patched : goal.returns-else-list_patched
returns-else-list_patched c =
    IfOk-weaker c.put_groups.result (λ _. AreGroups c.args.bytes.now (groups_in c.put_groups.new.groups)) (λ _. Tells (bytes_in _) c.args.bytes.now)
    (λ _ each. told_whole c.args.bytes.now _ each c.clear.ensures) c.put_groups.ensures
