use Rattle.std.proofs.Common.{◌≡◌, ◌+◌, length}
use Rattle.asc_jobs.specs.Jobs.{HasAllParts}
use Rattle.asc_work.proofs.post.pop_left.Given as goal

abbrev pub invariant-loop-left : goal.invariant-loop-left
invariant-loop-left g l =
    HasAllParts l.all.hand × (l.all.hand.pushed ≡ l.initial.all.hand.pushed)
    × (length l.all.hand.popped ≡ length l.initial.all.hand.popped + l.left)

abbrev pub invariant-loop : goal.invariant-loop
invariant-loop g l =
    (goal.iterator-loop g).can_next l.iterator' × (goal.iterator-loop g).is_finite l.iterator'
