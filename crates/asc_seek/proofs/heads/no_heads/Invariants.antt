-- The slots so far are empty.
use Rattle.std.proofs.Common.{◌≡◌, None}
use Rattle.std.specs.Prelude.{replicate}
use Rattle.asc_seek.proofs.heads.no_heads.Given as goal

abbrev pub invariant-loop : goal.invariant-loop
invariant-loop l = l.table.items ≡ replicate l.counter None
