-- Parts of the word are taken, and the others are left.
use Rattle.std.proofs.Common.{length}
use Rattle.asc_traj.proofs.Taking.{IsTaking}
use Rattle.asc_traj.proofs.join.take_word.Given as goal

abbrev pub invariant-loop-part : goal.invariant-loop-part
invariant-loop-part l = IsTaking l.fn.index l.fn.parts l.found l.rest

abbrev pub decreases-loop-part : goal.decreases-loop-part
decreases-loop-part l = length l.rest
