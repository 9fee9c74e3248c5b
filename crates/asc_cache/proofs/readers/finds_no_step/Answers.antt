-- One reader more.
use Rattle.std.proofs.Common.{◌≡◌, get_or, None}
use Rattle.asc_cache.specs.Cache.{ShardReader, content_seen, found_by}
use Rattle.asc_cache.proofs.Firsts.{none-within}
use Rattle.asc_cache.proofs.Rows.{one_more}
use Rattle.asc_cache.proofs.readers.finds_no_step.Goals as goal

pub loop-reader-preserved : goal.loop-reader-preserved
loop-reader-preserved c = λ s.
    let here : get_or c.args.readers.now c.loop-reader.reader-index c.reader-item.result ≡ c.reader-item.result = cc (c.reader-item.is) in
    one_more (λ (r : ShardReader). found_by s 0 r ≡ None) c.args.readers.now c.loop-reader.reader-index c.reader-item.result c.loop-reader-test.true here
    (none-within (content_seen c.reader-item.result) s c.truth.ensures.true_all) (c.loop-reader.invariant s)
