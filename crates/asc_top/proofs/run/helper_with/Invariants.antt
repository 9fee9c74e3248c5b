-- The helper has the entries so far.
use Rattle.std.proofs.Common.{◌≡◌, map, take}
use Rattle.std.specs.Arc.{arc_value}
use Rattle.asc_top.specs.Ran.{loaded_helper}
use Rattle.asc_top.proofs.run.helper_with.Given as goal

abbrev pub invariant-loop-entry : goal.invariant-loop-entry
invariant-loop-entry l = l.helper ≡ loaded_helper l.fn.shape l.fn.guessing (take l.entry-index (map arc_value l.first))
