use Rattle.std.proofs.Common.{Some, refl, subst}
use Rattle.std.specs.Arc.{arc_value}
use Rattle.asc_work.specs.Worker.{HasStored}
use Rattle.asc_work.proofs.Joins.{was_stored}
use Rattle.asc_work.proofs.worker.Worker.insert.Goals as goal

pub returns-then-self-clause-ends : goal.returns-then-self-clause-ends
returns-then-self-clause-ends g c =
    let v = c.join_stored.new.self in let e = arc_value c.args.entry in
    subst (λ w. HasStored w v (Some e) (g.W.Insert.content w.writer) (g.W.Insert.content v.writer)) c.self.view_is
    (was_stored _ _ v e c.in-Ok-Stored.field-0 _ _ _ c.in-Ok-Stored.ensures.inserted c.in-Ok-Stored.field-0-is c.if-self.true refl refl (c.join_stored.ensures.joined e c.copy_of-copy.ensures))
