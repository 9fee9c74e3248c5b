use Rattle.std.proofs.Common.{◌≡◌, fold, map, take}
use Rattle.std.specs.Arc.{arc_value}
use Rattle.asc_shard.specs.Content.{add}
use Rattle.asc_cache.specs.Cache.{shard_of}
use Rattle.asc_live.proofs.shards.insert_all.Given as goal

abbrev pub invariant-loop-entry : goal.invariant-loop-entry
invariant-loop-entry g l = record {
  held : (shard_of l.writer).held ≡ fold (add l.initial.writer.capacity) (shard_of l.initial.writer).held (take l.entry-index (map arc_value l.entries));
  rest : l.writer ≡ record l.initial.writer { stored = l.writer.stored; refused = l.writer.refused };
}
