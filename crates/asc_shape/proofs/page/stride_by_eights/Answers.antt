use Rattle.asc_shape.proofs.Eights.{eights_more}
use Rattle.asc_shape.proofs.page.stride_by_eights.Goals as goal

pub loop-k-preserved : goal.loop-k-preserved
loop-k-preserved c =
    let more = eights_more c.args.ahead c.args.words.now c.args.prev.now c.loop-k.words c.stride_eight.new.words c.loop-k.k
    c.loop-k.invariant.done c.loop-k.invariant.left c.stride_eight.ensures.eight c.stride_eight.ensures.others in
    record { done = more.0; left = more.1 }
