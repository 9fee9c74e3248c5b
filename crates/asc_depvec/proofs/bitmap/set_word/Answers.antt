use Rattle.std.proofs.Common.{◌≡◌, ◌+◌, ◌*◌, ◌/◌, ◌%◌, ◌^◌, arith}
use Rattle.std.proofs.lemmas.Nat.{one_shl}
use Rattle.asc_depvec.proofs.Bits.{bit_of-one}
use Rattle.asc_depvec.proofs.bitmap.set_word.Goals as goal

pub returns-clause-bits : goal.returns-clause-bits
returns-clause-bits c = λ other.
    let word = c.args.word in
    let same : 64 * (word / 64) + word % 64 ≡ word = omega arith in
    rw (c.set_bits.ensures.bits other, bit_of-one (word / 64) (word % 64) (1 * 2 ^ (word % 64) % 2 ^ 64) other (omega arith) (one_shl (word % 64) 64 (omega arith)), same)
