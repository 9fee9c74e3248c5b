use Rattle.asc_work.proofs.Rounds.{lane_put}
use Rattle.asc_work.proofs.lanes.new_lanes.Goals as goal

pub loop-preserved : goal.loop-preserved
loop-preserved c =
    lane_put c.args.shape c.args.lanes c.div_ceil-room.result c.loop.counter c.loop.made.items c.push.new.self.items c.in_ok-new.field-0 c.requires.some c.div_ceil-room.ensures
    c.in_ok-push.ensures.items c.in_ok-new.ensures.own c.in_ok-new.ensures.room c.in_ok-new.ensures.empty c.loop.invariant
