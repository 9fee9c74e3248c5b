use Rattle.std.proofs.Common.{◌≡◌, ◌-◌, ◌++◌, ◌∙◌, length, drop, length-take, length-drop, length-append, arith}
use Rattle.asc_pages.proofs.Copies.{written_over}
use Rattle.asc_pages.proofs.pages.write_part.Goals as goal

pub returns : goal.returns
returns c =
    let page = c.args.page.now in
    let bytes = c.args.bytes.now in
    let n = length bytes in
    let new = c.copy_from_slice.new.self in
    let rest = drop n page in
    let size : length c.fill.new.self ≡ 1024 - n =
    c.fill.ensures.len ∙ omega (arith, c.told-page, length-take (1024 - n) (drop n (new ++ rest)), length-drop n (new ++ rest), length-append new rest, length-drop n page, c.copy_from_slice.ensures.len) in
    written_over bytes new c.fill.new.self _ _ _ c.copy_from_slice.ensures.after size (c.fill.ensures.after (λ y e. e))
