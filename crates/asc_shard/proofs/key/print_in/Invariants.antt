-- The fingerprint of the bytes of the state at the places of so many parts, all of the first words.
use Rattle.std.proofs.Common.{◌≡◌, ◌-◌, ◌<◌, ◌≤◌, ℕ, length, slice_index, take, get_or}
use Rattle.asc_traj.proofs.Parts.{part}
use Rattle.asc_traj.specs.Parts.{all_cells}
use Rattle.asc_shard.specs.Fingerprints.{fingerprint}
use Rattle.asc_shard.proofs.key.print_in.Given as goal

abbrev pub invariant-loop-i : goal.invariant-loop-i
invariant-loop-i l = record {
  most : l.i ≤ length l.parts;
  low : (k : ℕ) → k < l.i → (get_or l.parts k (part 0 0)).at < 512;
  print : l.print ≡ fingerprint (λ (cell : ℕ × ℕ). slice_index l.state.bytes cell.0) (all_cells (take l.i l.parts));
}

abbrev pub decreases-loop-i : goal.decreases-loop-i
decreases-loop-i l = length l.parts - l.i
