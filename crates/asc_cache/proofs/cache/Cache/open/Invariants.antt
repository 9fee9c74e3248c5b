use Rattle.asc_cache.specs.Cache.{AreOpened}
use Rattle.asc_cache.proofs.cache.Cache.open.Given as goal

abbrev pub invariant-loop-index : goal.invariant-loop-index
invariant-loop-index g l = AreOpened l.index l.capacity l.writers.items l.readers.items
