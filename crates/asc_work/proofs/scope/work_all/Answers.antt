use Rattle.std.proofs.Common.{subst₂}
use Rattle.asc_work.specs.Posts.{HasServed}
use Rattle.asc_work.proofs.scope.work_all.Goals as goal

pub returns : goal.returns
returns g c = record {
  served = λ i d l. let k = (c.for_each_mut.ensures i d l).1 in
      subst₂ (HasServed g.H.Halt.count g.W.Insert.identity) k.argument_is k.left k.call;
}
