use Rattle.asc_work.proofs.Posts.{AreManned}
use Rattle.asc_work.proofs.post.man.Given as goal

abbrev pub invariant-loop-i : goal.invariant-loop-i
invariant-loop-i g l = AreManned l.initial.posts l.posts l.i l.fn.takers.items l.takers.items l.fn.halts.items l.halts.items
