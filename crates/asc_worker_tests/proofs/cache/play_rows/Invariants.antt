use Rattle.asc_cache.specs.Cache.{IsOwnReader}
use Rattle.asc_worker_tests.proofs.cache.play_rows.Given as goal

abbrev pub invariant-loop-row : goal.invariant-loop-row
invariant-loop-row g l = IsOwnReader l.writer l.readers.readers
