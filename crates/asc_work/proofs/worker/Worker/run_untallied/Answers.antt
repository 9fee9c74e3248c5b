use Rattle.std.proofs.Common.{rules, subst, ap, ◌≡◌, false, not, ◌&&◌}
use lib.Dec.{eqb}
use denote.Enum.Bare.{sameb}
use Rattle.std.specs.Arc.{arc_value}
use Rattle.asc_model.specs.Shape.{Shape}
use Rattle.asc_model.specs.State.{State}
use Rattle.asc_model.specs.contracts.version.Version.{the_type}
use Rattle.asc_work.specs.Worker.{HasInserted}
use Rattle.asc_work.proofs.Joins.{was_inserted}
use Rattle.asc_work.proofs.worker.Worker.run_untallied.Goals as goal

one_shape : (a b : Shape) → false ≡ not (eqb a.base b.base && (eqb a.size b.size && sameb the_type a.version b.version)) → a ≡ b
one_shape a b same = search rules

pub returns-in-One-clause-inserted : goal.returns-in-One-clause-inserted
returns-in-One-clause-inserted g c =
    let v = c.insert.new.self in let made = c.in-One.ensures.made in
    let prev = one_shape c.shape.result c.self.inside.shape c.if-ne.ensures in let prev_is = ap (λ (s : State). s.shape) c.deref.ensures in
    let last = one_shape c.shape-else-ne.result c.self.inside.shape c.if-ne-2.ensures in let last_is = ap (λ (s : State). s.shape) c.deref-else-ne.ensures in
    subst (λ w. HasInserted c.insert.result w v c.args.job (g.W.Insert.content w.writer) (g.W.Insert.content v.writer)) c.self.view_is
    (was_inserted c.insert.result _ v c.make_entry.new.halt c.args.job (arc_value c.in-One.entry) _ _ (search rules, search rules) made.0 made.1 c.insert.ensures.ends)
