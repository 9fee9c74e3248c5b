-- The lines so far, and those of the cells that are left, are those of all cells.
use Rattle.std.proofs.Common.{◌≡◌, ◌-◌, ◌≤◌, ◌++◌, drop, length}
use Rattle.asc_inspect.specs.Missed.{misses_text}
use Rattle.asc_inspect.proofs.miss_text.put_misses.Given as goal

abbrev pub invariant-loop-from : goal.invariant-loop-from
invariant-loop-from l = record {
  whole : l.text.items ++ misses_text l.now 0 (drop l.from l.cells) ≡ l.fn.text.items ++ misses_text l.now 0 l.cells;
  within : l.from ≤ length l.cells;
}

abbrev pub decreases-loop-from : goal.decreases-loop-from
decreases-loop-from l = length l.cells - l.from
