-- The slots so far are empty.
use Rattle.std.proofs.Common.{◌≡◌, None}
use Rattle.std.specs.Prelude.{replicate, take}
use Rattle.asc_seek.proofs.heads.clear.Given as goal

abbrev pub invariant-loop-slot : goal.invariant-loop-slot
invariant-loop-slot l = take l.slot-index l.table ≡ replicate l.slot-index None
