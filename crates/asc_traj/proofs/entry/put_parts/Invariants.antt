-- So many of the parts are put.
use Rattle.std.proofs.Common.{◌≡◌, take}
use Rattle.asc_model.specs.Places.{bytes_after}
use Rattle.asc_traj.specs.Parts.{all_cells}
use Rattle.asc_traj.proofs.entry.put_parts.Given as goal

abbrev pub invariant-loop-part : goal.invariant-loop-part
invariant-loop-part l =
    l.state ≡ record l.fn.state { bytes = bytes_after l.fn.state.bytes (all_cells (take l.part-index l.parts)) }
