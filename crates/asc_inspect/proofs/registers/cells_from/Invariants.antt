-- The cells so far.
use Rattle.std.proofs.Common.{◌≡◌, ◌-◌}
use Rattle.asc_inspect.specs.Registers.{cells_from}
use Rattle.asc_inspect.proofs.registers.cells_from.Given as goal

abbrev pub invariant-loop-at : goal.invariant-loop-at
invariant-loop-at l = l.cells.items ≡ cells_from l.state l.place (l.at - l.place)
