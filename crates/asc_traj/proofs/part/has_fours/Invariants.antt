-- The parts that were compared are in the state.
use Rattle.std.proofs.Common.{◌≡◌, ◌==◌, ◌+◌, ◌≤◌, All, length, slice_index}
use Rattle.std.specs.List.{list_all}
use Rattle.asc_model.specs.Shape.{length_of}
use Rattle.asc_traj.specs.Parts.{IsPart, part_cells, word_place}
use Rattle.asc_traj.proofs.part.has_fours.Given as goal

abbrev pub invariant-loop-four : goal.invariant-loop-four
invariant-loop-four l =
    (list_all (λ part. list_all (λ cell. slice_index l.state.bytes cell.0 == cell.1) (part_cells part)) l.parts
    ≡ list_all (λ part. list_all (λ cell. slice_index l.state.bytes cell.0 == cell.1) (part_cells part)) l.rest)
    × (All IsPart l.rest) × (All (λ part. word_place part + 4 ≤ length_of l.state.shape) l.rest)

abbrev pub decreases-loop-four : goal.decreases-loop-four
decreases-loop-four l = length l.rest
