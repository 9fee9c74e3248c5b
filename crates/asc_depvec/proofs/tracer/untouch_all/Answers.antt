use Rattle.std.proofs.Common.{ℕ, ◌<◌, length}
use Rattle.asc_depvec.specs.Inside.{statuses_of}
use Rattle.asc_depvec.proofs.Items.{All-item, without_more}
use Rattle.asc_depvec.proofs.tracer.untouch_all.Goals as goal

pub untouch-requires : goal.untouch-requires
untouch-requires c =
    All-item (λ (place : ℕ). place < length c.loop-item.marks) c.args.items.now c.loop-item.item-index 0
    (rw c.loop-item.auto.marks c.requires) c.loop-item-test.true

pub loop-item-preserved : goal.loop-item-preserved
loop-item-preserved c =
    without_more (statuses_of c.loop-item.marks) (statuses_of c.untouch.new.marks) _ c.args.items.now c.loop-item.item-index 0 c.loop-item-test.true c.untouch.ensures c.loop-item.invariant
