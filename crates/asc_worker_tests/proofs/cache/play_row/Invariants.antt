use Rattle.asc_cache.specs.Cache.{IsOwnReader}
use Rattle.asc_worker_tests.proofs.cache.play_row.Given as goal

abbrev pub invariant-loop-x5 : goal.invariant-loop-x5
invariant-loop-x5 g l = IsOwnReader l.writer l.readers.readers
