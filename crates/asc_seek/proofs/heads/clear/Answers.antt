-- Each slot is empty at the end.
use Rattle.std.proofs.Common.{◌≡◌, None, sym, ap, ◌∙◌, arith}
use Rattle.std.specs.Prelude.{replicate}
use Rattle.std.proofs.lemmas.List.{take_all}
use Rattle.asc_seek.specs.Heads.{table_slots}
use Rattle.asc_seek.proofs.heads.clear.Goals as goal

pub returns : goal.returns
returns c =
    let slots : c.loop-slot.slot-index ≡ table_slots = omega arith in
    let all = take_all c.loop-slot.slot-index c.loop-slot.table (omega arith) in
    sym all ∙ c.loop-slot.invariant ∙ ap (λ n. replicate n None) slots
