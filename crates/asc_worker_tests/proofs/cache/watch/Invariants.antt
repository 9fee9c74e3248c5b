use Rattle.asc_cache.specs.Cache.{ShardWriter, IsOwnReader}
use Rattle.asc_worker_tests.proofs.cache.watch.Given as goal

abbrev pub invariant-loop : goal.invariant-loop
invariant-loop g l = (w : ShardWriter) → IsOwnReader w l.initial.readers.readers → IsOwnReader w l.readers.readers
