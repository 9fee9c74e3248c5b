-- All slots are there at the end.
use Rattle.std.proofs.Common.{◌≡◌, None, ap, ◌∙◌, arith}
use Rattle.std.specs.Prelude.{replicate}
use Rattle.asc_seek.specs.Heads.{table_slots}
use Rattle.asc_seek.proofs.heads.no_heads.Goals as goal

pub returns : goal.returns
returns c = let slots : c.loop.counter ≡ table_slots = omega arith in c.loop.invariant ∙ ap (λ n. replicate n None) slots
