-- So many of the parts are in the state.
use Rattle.std.proofs.Common.{◌≡◌, ◌==◌, slice_index, drop}
use Rattle.std.specs.List.{list_all}
use Rattle.asc_traj.specs.Parts.{part_cells}
use Rattle.asc_traj.proofs.part.has_each.Given as goal

abbrev pub invariant-loop-part : goal.invariant-loop-part
invariant-loop-part l =
    list_all (λ part. list_all (λ cell. slice_index l.state.bytes cell.0 == cell.1) (part_cells part)) l.parts
    ≡ list_all (λ part. list_all (λ cell. slice_index l.state.bytes cell.0 == cell.1) (part_cells part)) (drop l.part-index l.parts)
