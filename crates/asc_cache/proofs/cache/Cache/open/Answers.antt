use Rattle.std.proofs.Common.{◌≡◌, sym, subst, arith}
use Rattle.asc_cache.specs.Cache.{ShardReaders, AreOpened}
use Rattle.asc_cache.proofs.Opened.{opened-more}
use Rattle.asc_cache.proofs.cache.Cache.open.Goals as goal

pub loop-index-preserved : goal.loop-index-preserved
loop-index-preserved g c =
    rw (c.in_ok-push.ensures.items, c.in_ok-push-2.ensures.items)
    (opened-more c.loop-index.index c.args.capacity c.loop-index.writers.items c.loop-index.readers.items _ _ c.loop-index.invariant c.in_ok-writer.ensures)

pub returns-clause-opened : goal.returns-clause-opened
returns-clause-opened g c =
    let all : c.loop-index.index ≡ c.args.shards = omega (arith, c.loop-index-test.false, c.loop-index.auto.index-end) in
    subst (λ (r : ShardReaders). AreOpened c.args.shards c.args.capacity c.loop-index.writers.items r.readers) (sym c.of.ensures)
    (subst (λ n. AreOpened n c.args.capacity c.loop-index.writers.items c.loop-index.readers.items) all c.loop-index.invariant)
