use Rattle.std.proofs.Common.{arith, sym}
use Rattle.asc_pages.proofs.Places.{place_is}
use Rattle.asc_pages.proofs.numbers.place_in.Goals as goal

pub returns-then-number-p : goal.returns-then-number-p
returns-then-number-p c = sym (place_is c.args.list.now c.args.p c.loop-k.k (omega arith) c.loop-k.invariant (λ inside. c.if-number-p.true))

pub returns : goal.returns
returns c =
    sym (place_is c.args.list.now c.args.p _ (omega arith) (λ j below. c.loop-k.invariant j (omega arith)) (λ inside. absurd (omega arith)))
