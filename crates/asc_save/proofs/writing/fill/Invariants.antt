use Rattle.std.proofs.Common.{◌≡◌, ◌-◌, ◌*◌, ◌%◌, ◌++◌, ◌<◌, ◌≤◌, take, length}
use Rattle.std.specs.List.{flat_map}
use Rattle.asc_model.specs.EntryFile.{cell_bytes}
use Rattle.asc_traj.specs.Parts.{cells_from}
use Rattle.asc_save.proofs.writing.fill.Given as goal

abbrev pub invariant-loop-length : goal.invariant-loop-length
invariant-loop-length l = record {
  next : l.next ≤ 4 * length l.parts;
  least : l.from ≤ l.next;
  goes : 0 < l.length → l.from < l.next;
  still : l.length ≡ 0 → l.next ≡ l.from;
  whole : l.length % 5 ≡ 0;
  most : l.length ≤ 2560;
  filled : flat_map cell_bytes (cells_from l.parts l.from) ≡ take l.length l.room ++ flat_map cell_bytes (cells_from l.parts l.next);
}

abbrev pub decreases-loop-length : goal.decreases-loop-length
decreases-loop-length l = 4 * length l.parts - l.next
