use Rattle.std.proofs.Common.{slice_index_or, subst}
use mathlib.Core.List.{IsPrefix}
use Rattle.asc_cache.specs.Cache.{Notice}
use Rattle.asc_cache.proofs.readers.ShardReaders.meet.Goals as goal

pub returns-clause-seen : goal.returns-clause-seen
returns-clause-seen g c d =
    subst (λ (n : Notice). IsPrefix n.stored (slice_index_or c.learn.new.self.readers n.index d).seen) c.tell.ensures (c.learn.ensures.told d)
