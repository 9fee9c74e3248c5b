use Rattle.std.proofs.Common.{rules}
use Rattle.asc_cache.proofs.Opened.{own-of-split}
use Rattle.asc_worker_tests.proofs.cache.play_beside.Goals as goal

pub run_both-requires-after_bounds : goal.run_both-requires-after_bounds
run_both-requires-after_bounds g c κs within =
    own-of-split 1 2 c.in_ok-open.field-0 c.split-writers.result.0.items c.split-writers.result.1 c.in_ok-open.ensures.opened c.split-writers.ensures.writers c.split-writers.ensures.readers
    0 (search rules) c.index_mut-writer.result.now (search rules)
