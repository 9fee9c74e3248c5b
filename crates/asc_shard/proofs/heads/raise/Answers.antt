use Rattle.std.proofs.Common.{set, ◌≡◌, ◌+◌, ◌∙◌, sym, ap, subst, arith}
use Rattle.std.specs.List.{insert}
use Rattle.std.specs.Result.{is_ok}
use Rattle.std.proofs.lemmas.Bool.{cond-true}
use Rattle.asc_shard.specs.declared.heads.Head.{Head}
use Rattle.asc_shard.specs.Inside.{AreHeads, runs}
use Rattle.asc_shard.proofs.Runs.{heads-counted, heads-new, read-head, runs-new, runs-raise}
use Rattle.asc_shard.proofs.heads.raise.Goals.{After-insert}
use Rattle.asc_shard.proofs.heads.raise.Goals as goal

pub returns-then-beginning-clause-runs : goal.returns-then-beginning-clause-runs
returns-then-beginning-clause-runs c = λ at least most.
    let heads = c.args.heads.now.items in
    let h = c.args.beginning.head in
    let b = c.requires.beginning in
    let here = b.here c.if-beginning.true in
    ap (λ (x : Head). runs (set heads h (record x { count = x.count + 1 }))) (read-head heads h c.index_mut.result.now here.0 c.index_mut.ensures.value)
    ∙ runs-raise heads h at here.0 (omega (arith, b.from, least)) (omega (arith, b.from, here.2, most)) ∙ ap (insert (runs heads) at) here.1

pub returns-then-beginning-clause-heads : goal.returns-then-beginning-clause-heads
returns-then-beginning-clause-heads c =
    heads-counted c.args.heads.now.items c.args.beginning.head (c.index_mut.result.now.count + 1) c.index_mut.result.now c.requires.heads (c.requires.beginning.here c.if-beginning.true).0 c.index_mut.ensures.value (omega arith)

put : (c : After-insert) → c.insert.new.self.items ≡ insert c.args.heads.now.items c.args.beginning.head c.head_of.result
put c = c.insert.ensures.items ∙ cond-true (is_ok c.insert.result) _ _ (c.insert.ensures.succeeds c.requires.room)

pub returns-else-beginning-clause-runs : goal.returns-else-beginning-clause-runs
returns-else-beginning-clause-runs c = λ at least most.
    let b = c.requires.beginning in
    let heads = c.args.heads.now.items in
    let made = c.head_of.ensures in
    ap runs (put (goal.at.returns-else-beginning-clause-runs c).After-insert) ∙ runs-new heads c.args.beginning.head c.head_of.result made.count b.most
    ∙ ap (insert (runs heads) _) made.mask ∙ ap (λ k. insert (runs heads) k c.args.mask) (omega (arith, b.from, (b.none c.if-beginning.false).1, least, most))

pub returns-else-beginning-clause-heads : goal.returns-else-beginning-clause-heads
returns-else-beginning-clause-heads c =
    let b = c.requires.beginning in
    let made = c.head_of.ensures in
    subst AreHeads (sym (put (goal.at.returns-else-beginning-clause-heads c).After-insert))
    (heads-new c.args.heads.now.items c.args.beginning.head c.args.mask c.head_of.result c.requires.heads made.mask made.count made.head b.most b.before (b.none c.if-beginning.false).0)
