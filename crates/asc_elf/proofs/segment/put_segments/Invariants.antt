use Rattle.std.proofs.Common.{◌≡◌}
use Rattle.std.specs.List.{flat_map}
use Rattle.asc_shape.specs.State.{state_after_all}
use Rattle.asc_elf.specs.Image.{segment_changes}
use Rattle.asc_elf.proofs.segment.put_segments.Given as goal

abbrev pub invariant-loop-segment : goal.invariant-loop-segment
invariant-loop-segment l = record {
  can : (goal.iterator-loop-segment).can_next l.segment-iterator;
  finite : (goal.iterator-loop-segment).is_finite l.segment-iterator;
  put : l.s ≡ state_after_all l.initial.s (flat_map (segment_changes l.file) l.yielded);
}
