use Rattle.std.proofs.Common.{ℕ, ◌<◌, ◌∙◌, length}
use Rattle.asc_depvec.proofs.Items.{All-item}
use Rattle.asc_depvec.proofs.Settling.{among_more}
use Rattle.asc_depvec.proofs.tracer.forget_all.Goals as goal

pub forget-requires : goal.forget-requires
forget-requires c =
    All-item (λ (place : ℕ). place < length c.loop-item.marks) c.args.items.now c.loop-item.item-index 0
    (rw c.loop-item.auto.marks c.requires.within) c.loop-item-test.true

pub loop-item-preserved : goal.loop-item-preserved
loop-item-preserved c = record {
  statuses = c.forget.ensures.statuses ∙ c.loop-item.invariant.statuses;
  among = among_more c.loop-item.marks c.forget.new.marks c.args.items.now c.loop-item.item-index 0 c.loop-item-test.true c.loop-item.invariant.among c.forget.ensures.less c.forget.ensures.none;
}
