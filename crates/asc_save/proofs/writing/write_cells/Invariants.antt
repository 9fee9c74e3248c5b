use Rattle.std.proofs.Common.{◌≡◌, ◌-◌, ◌*◌, ◌≤◌, ◌++◌, ℕ, List, length}
use Rattle.std.specs.List.{flat_map}
use Rattle.asc_model.specs.EntryFile.{cell_bytes}
use Rattle.asc_traj.specs.Parts.{all_cells, cells_from}
use Rattle.asc_outside.specs.Outside.{given_after}
use Rattle.asc_save.proofs.writing.write_cells.Given as goal

-- what was put, and what is left, are all of them
abbrev pub invariant-loop-room : goal.invariant-loop-room
invariant-loop-room g l = record {
  from : l.from ≤ 4 * length l.parts;
  faults : g.O.Sink.faults l.out ≡ g.O.Sink.faults l.fn.out;
  given : (done : List ℕ) × (g.O.Sink.given l.out ≡ given_after (g.O.Sink.given l.fn.out) done)
      × (flat_map cell_bytes (all_cells l.parts) ≡ done ++ flat_map cell_bytes (cells_from l.parts l.from));
}

abbrev pub decreases-loop-room : goal.decreases-loop-room
decreases-loop-room g l = 4 * length l.parts - l.from
