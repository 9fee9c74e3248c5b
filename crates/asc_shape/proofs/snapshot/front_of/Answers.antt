use Rattle.std.proofs.Common.{◌∙◌, List, ℕ, length, length-take, ap, arith}
use Rattle.asc_shape.proofs.snapshot.front_of.Goals as goal

pub returns-clause-size : goal.returns-clause-size
returns-clause-size c =
    let first = c.in-Some.ensures.cases in
    ap (λ (l : List ℕ). length l) first.same ∙ omega (arith, length-take 136 c.args.bytes.now, first.enough)
