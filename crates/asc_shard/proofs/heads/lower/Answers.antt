use Rattle.std.proofs.Common.{set, ◌-◌, ◌∙◌, sym, ap, subst, arith}
use Rattle.asc_shard.specs.declared.heads.Head.{Head}
use Rattle.asc_shard.specs.Inside.{AreHeads, runs}
use Rattle.asc_shard.proofs.Runs.{heads-counted, heads-gone, one-left, read-head, runs-gone, runs-lower}
use Rattle.asc_shard.proofs.heads.lower.Goals as goal

pub returns-then-index-gt1-clause-runs : goal.returns-then-index-gt1-clause-runs
returns-then-index-gt1-clause-runs c = λ at least most.
    let heads = c.args.heads.now.items in
    ap (λ (x : Head). runs (set heads c.args.head (record x { count = x.count - 1 }))) (read-head heads c.args.head c.index_mut.result.now c.requires.some c.index_mut.ensures.value)
    ∙ runs-lower heads c.args.head at c.requires.some least most

pub returns-then-index-gt1-clause-heads : goal.returns-then-index-gt1-clause-heads
returns-then-index-gt1-clause-heads c =
    let heads = c.args.heads.now.items in
    let first = read-head heads c.args.head c.index.result.now c.requires.some c.index.ensures in
    let second = read-head heads c.args.head c.index_mut.result.now c.requires.some c.index_mut.ensures.value in
    let same = ap (λ (head : Head). head.count) (first ∙ sym second) in
    heads-counted heads c.args.head (c.index_mut.result.now.count - 1) c.index_mut.result.now c.requires.heads c.requires.some c.index_mut.ensures.value (omega (arith, same, c.if-index-gt1.true))

pub returns-else-index-gt1-clause-runs : goal.returns-else-index-gt1-clause-runs
returns-else-index-gt1-clause-runs c = λ at least most.
    let heads = c.args.heads.now.items in
    let one = one-left heads c.args.head c.index.result.now c.requires.heads c.requires.some c.index.ensures c.if-index-gt1.false in
    ap runs c.remove.ensures.items ∙ runs-gone heads c.args.head at c.requires.some one least most

pub returns-else-index-gt1-clause-heads : goal.returns-else-index-gt1-clause-heads
returns-else-index-gt1-clause-heads c = subst AreHeads (sym c.remove.ensures.items) (heads-gone c.args.heads.now.items c.args.head c.requires.heads c.requires.some)
