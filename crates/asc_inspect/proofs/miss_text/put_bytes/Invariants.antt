-- The digits of the cells behind `left`.
use Rattle.std.proofs.Common.{◌≡◌, ◌≤◌, ◌++◌, drop, length}
use Rattle.asc_inspect.specs.Missed.{hex_of}
use Rattle.asc_inspect.proofs.miss_text.put_bytes.Given as goal

abbrev pub invariant-loop-left : goal.invariant-loop-left
invariant-loop-left l = record {
  text : l.text.items ≡ l.fn.text.items ++ hex_of (drop l.left l.cells);
  within : l.left ≤ length l.cells;
}

abbrev pub decreases-loop-left : goal.decreases-loop-left
decreases-loop-left l = l.left
