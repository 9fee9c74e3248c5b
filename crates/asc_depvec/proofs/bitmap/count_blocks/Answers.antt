use Rattle.std.proofs.Common.{ℕ, slice_index, arith}
use Rattle.std.specs.Prelude.{count_ones}
use Rattle.std.proofs.lemmas.List.Sums.{sum_by_more}
use Rattle.asc_depvec.proofs.bitmap.count_blocks.Goals as goal

pub loop-group-preserved : goal.loop-group-preserved
loop-group-preserved c =
    let more = sum_by_more (λ (group : ℕ). count_ones (slice_index c.args.groups.now group)) c.args.used.now c.loop-group.group-index 0 c.loop-group-test.true in
    record {
      counted = omega (arith, more, c.loop-group.invariant.counted, c.ones-count.ensures.ones);
      most = omega (arith, c.loop-group.invariant.most, c.ones-count.ensures.most);
    }
