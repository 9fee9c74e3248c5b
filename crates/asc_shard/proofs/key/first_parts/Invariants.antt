-- So many parts are of the first words.
use Rattle.std.proofs.Common.{◌-◌, ◌<◌, ◌≤◌, ℕ, length, get_or}
use Rattle.asc_traj.proofs.Parts.{part}
use Rattle.asc_shard.proofs.key.first_parts.Given as goal

abbrev pub invariant-loop-count : goal.invariant-loop-count
invariant-loop-count l = record {
  most : l.count ≤ length l.parts;
  low : (k : ℕ) → k < l.count → (get_or l.parts k (part 0 0)).at < 512;
}

abbrev pub decreases-loop-count : goal.decreases-loop-count
decreases-loop-count l = length l.parts - l.count
