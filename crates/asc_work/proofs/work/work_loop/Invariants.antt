use Rattle.std.proofs.Common.{◌≤◌}
use Rattle.asc_work.specs.Posts.{HasWorked}
use Rattle.asc_work.proofs.work.work_loop.Given as goal

abbrev pub invariant-loop : goal.invariant-loop
invariant-loop g l =
    (goal.iterator-loop g).can_next l.iterator' × (goal.iterator-loop g).is_finite l.iterator'
    × (g.H.Halt.count l.initial.worker.halt ≤ g.H.Halt.count l.worker.halt)
    × HasWorked g.W.Insert.identity l.initial.worker l.initial.taker l.worker l.taker
