use Rattle.std.proofs.Common.{arith}
use Rattle.asc_work.proofs.Rounds.{ran_all, ran_next, ran_only}
use Rattle.asc_work.proofs.lane.Lane.run.Goals as goal

pub loop-i-preserved : goal.loop-i-preserved
loop-i-preserved g c =
    ran_next _ c.args.round.now c.args.at c.loop-i.i c.loop-i.self c.make-made.new.self _ c.make-made.result c.make-made.ensures.results c.make-made.ensures.own
    c.keep.ensures.items c.keep.ensures.room c.make-made.ensures.made c.loop-i-test.true c.loop-i.invariant

pub returns-clause-done : goal.returns-clause-done
returns-clause-done g c =
    ran_all c.args.round.now c.args.at c.loop-i.self c.loop-i.invariant.2 (omega (arith, c.loop-i-test.false, c.loop-i.invariant.1))

pub returns-clause-only : goal.returns-clause-only
returns-clause-only g c =
    ran_only c.args.round.now c.args.at c.loop-i.self c.loop-i.invariant.3 (omega (arith, c.loop-i-test.false, c.loop-i.invariant.1))
