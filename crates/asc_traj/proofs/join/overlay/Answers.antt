use Rattle.std.proofs.Common.{◌+◌, bit_or, ◌∙◌, arith}
use Rattle.std.proofs.lemmas.Nat.{or_lt}
use Rattle.std.proofs.lemmas.Bool.Decides.{nat_tests}
use Rattle.std.proofs.lemmas.Grind.{common_steps}
use Rattle.asc_traj.specs.Joining.{byte_of}
use Rattle.asc_traj.proofs.Masks.{word_bytes, overlay-byte, rest-apart, rest_of, sum-low}
use Rattle.asc_traj.proofs.join.overlay.Goals as goal

pub overflow_add-result : goal.overflow_add-result
overflow_add-result c = grind (arith, common_steps, nat_tests, rest-apart, rest_of, sum-low)

pub returns-clause-low : goal.returns-clause-low
returns-clause-low c = or_lt 4 c.args.over.mask c.args.under.mask c.requires.over c.requires.under

pub returns-clause-none : goal.returns-clause-none
returns-clause-none c = λ p q i. bit_or (p i) (q i)

pub returns-clause-bytes : goal.returns-clause-bytes
returns-clause-bytes c = λ k lt.
    (λ i. byte_of (word_bytes (bit_or c.args.over.mask c.args.under.mask) (c.kept.ensures i + c.kept-2.ensures i)) k) ∙ overlay-byte c.args.over c.args.under k c.requires.over lt
