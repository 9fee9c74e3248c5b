-- The bits of so many parts.
use Rattle.std.proofs.Common.{◌≡◌, take}
use Rattle.asc_traj.specs.Parts.{all_cells}
use Rattle.asc_shard.proofs.Keying.{bits_in}
use Rattle.asc_shard.proofs.key.mask_of.Given as goal

abbrev pub invariant-loop-part : goal.invariant-loop-part
invariant-loop-part l = l.mask ≡ bits_in (all_cells (take l.part-index l.parts))
