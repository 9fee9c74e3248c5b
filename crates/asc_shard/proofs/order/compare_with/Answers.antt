use Rattle.asc_shard.proofs.Orders.{reads-within}
use Rattle.asc_shard.proofs.order.compare_with.Goals as goal

pub compare_parts-requires-clause-within : goal.compare_parts-requires-clause-within
compare_parts-requires-clause-within c = reads-within c.args.entry.now c.reads.result.now c.requires c.truth.ensures c.reads.ensures.parts c.reads.ensures.cells
