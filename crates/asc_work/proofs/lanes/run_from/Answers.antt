use Rattle.std.proofs.Common.{◌+◌, get_or}
use Rattle.asc_work.proofs.Rounds.{left_only, left_so}
use Rattle.asc_work.proofs.lanes.run_from.Goals as goal

pub returns-clause-done : goal.returns-clause-done
returns-clause-done g c = λ k d l.
    let f = (c.for_each_mut.ensures k d l).1 in
    left_so c.args.round.now (c.args.start + k) f.after_call.now (get_or c.for_each_mut.new.s k d) f.left f.call.1

pub returns-clause-only : goal.returns-clause-only
returns-clause-only g c = λ k d l.
    let f = (c.for_each_mut.ensures k d l).1 in
    left_only c.args.round.now (c.args.start + k) f.after_call.now (get_or c.for_each_mut.new.s k d) f.left f.call.2
