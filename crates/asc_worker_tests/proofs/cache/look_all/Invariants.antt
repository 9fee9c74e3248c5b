use Rattle.asc_cache.specs.Cache.{ShardWriter, IsOwnReader}
use Rattle.asc_worker_tests.proofs.cache.look_all.Given as goal

abbrev pub invariant-loop-size : goal.invariant-loop-size
invariant-loop-size g l = (w : ShardWriter) → IsOwnReader w l.initial.readers.readers → IsOwnReader w l.readers.readers
