use Rattle.std.proofs.Common.{◌≡◌, ◌∙◌, rules, sym}
use Rattle.asc_shard.proofs.Orders.{reads-within}
use Rattle.asc_shard.proofs.order.first_unlike.Goals as goal

pub count_alike-number-requires-clause-within : goal.count_alike-number-requires-clause-within
count_alike-number-requires-clause-within c =
    let same : c.shape.result ≡ c.shape-2.result = search rules in
    reads-within c.args.entry.now c.reads-parts.result.now (sym c.shape.ensures ∙ same ∙ c.shape-2.ensures.shape) c.truth.ensures c.reads-parts.ensures.parts c.reads-parts.ensures.cells
