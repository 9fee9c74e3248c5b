-- The fingerprint of so many parts.
use Rattle.std.proofs.Common.{◌≡◌, ℕ, take}
use Rattle.asc_traj.specs.Parts.{all_cells}
use Rattle.asc_shard.specs.Fingerprints.{fingerprint}
use Rattle.asc_shard.proofs.key.print_of.Given as goal

abbrev pub invariant-loop-part : goal.invariant-loop-part
invariant-loop-part l = l.print ≡ fingerprint (λ (cell : ℕ × ℕ). cell.1) (all_cells (take l.part-index l.parts))
