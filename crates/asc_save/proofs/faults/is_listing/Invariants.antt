use Rattle.std.proofs.Common.{◌≡◌, ◌&&◌, map, nat_lt}
use Rattle.std.specs.List.{list_all}
use Rattle.asc_model.specs.Shape.{length_of}
use Rattle.asc_model.specs.EntryFile.{is_listing, rise_from}
use Rattle.asc_save.proofs.faults.is_listing.Given as goal

abbrev pub invariant-loop-place : goal.invariant-loop-place
invariant-loop-place l = record {
  can : (goal.iterator-loop-place).can_next l.place-iterator;
  finite : (goal.iterator-loop-place).is_finite l.place-iterator;
  left : (rise_from l.least (map (λ cell. cell.0) l.place-iterator)
      && list_all (λ place. nat_lt place (length_of l.fn.shape)) (map (λ cell. cell.0) l.place-iterator))
      ≡ is_listing l.fn.shape l.fn.cells;
}
