use Rattle.std.proofs.Common.{rules}
use Rattle.asc_cache.proofs.Opened.{own-of-split}
use Rattle.asc_worker_tests.proofs.cache.play_one_shard.Goals as goal

pub play_laps-requires : goal.play_laps-requires
play_laps-requires g c =
    own-of-split 1 2 c.in_ok-open.field-0 c.split-writers.result.0.items c.split-writers.result.1 c.in_ok-open.ensures.opened c.split-writers.ensures.writers c.split-writers.ensures.readers
    0 (search rules) c.index_mut.result.now (search rules)
