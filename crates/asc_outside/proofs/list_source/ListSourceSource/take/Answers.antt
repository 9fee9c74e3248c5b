use Rattle.std.proofs.Common.{◌≡◌, ◌+◌, ◌-◌, drop, arith, sym, ◌∙◌, ap}
use Rattle.asc_outside.proofs.Lists.{take_part-append-drop}
use Rattle.asc_outside.proofs.list_source.ListSourceSource.take.Goals as goal

-- what was left is what the buffer begins with and what is left now
pub returns-clause-taken : goal.returns-clause-taken
returns-clause-taken c =
    let at = c.self.inside.at in
    let n = c.min-n.result in
    let bytes = c.self.inside.bytes.items in
    let same : (at + n) - at ≡ n = omega arith in
    let part = rw (same, c.deref.ensures.value) at c.copy_from_slice.ensures.after in
    let behind = drop n c.args.into.now in
    let left = ap (λ s. s.left) c.self.view_is in
    sym (take_part-append-drop n at bytes c.copy_from_slice.new.self behind part (omega arith) ∙ left)
