use Rattle.std.proofs.Common.{ℕ, ap, bit_and, arith}
use Rattle.std.specs.Int.{bit_not, w32}
use Rattle.std.proofs.lemmas.Nat.{and_le_l}
use Rattle.asc_traj.proofs.Masks.{without-byte}
use Rattle.asc_traj.proofs.join.without.Goals as goal

pub returns-clause-low : goal.returns-clause-low
returns-clause-low c = omega (arith, and_le_l c.args.bytes.mask (bit_not w32 c.args.other.mask), c.requires.low)

pub returns-clause-none : goal.returns-clause-none
returns-clause-none c = λ p. ap (λ (m : ℕ). bit_and m (bit_not w32 c.args.other.mask)) p

pub returns-clause-bytes : goal.returns-clause-bytes
returns-clause-bytes c = λ k lt. without-byte c.args.bytes c.args.other k c.requires.other lt
