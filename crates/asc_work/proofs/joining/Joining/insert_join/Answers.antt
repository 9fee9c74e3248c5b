-- Memory is wanting for a join only where there is one.
use Rattle.std.proofs.Common.{◌≡◌, true, Option, sym, subst}
use Rattle.std.specs.Global.{Global}
use Rattle.std.specs.declared.sync.Arc.{Arc}
use Rattle.std.specs.Option.{is_some, option_map}
use Rattle.std.specs.Arc.{arc_value}
use Rattle.asc_model.specs.Entry.{Entry}
use Rattle.asc_model.specs.Join.{join_of}
use Rattle.asc_model.proofs.Joins.{can-some}
use Rattle.asc_work.specs.Worker.{join_behind}
use Rattle.asc_work.proofs.Joins.{on_err}
use Rattle.asc_work.proofs.joining.Joining.insert_join.Goals as goal

pub returns-in_err-joined-clause-due : goal.returns-in_err-joined-clause-due
returns-in_err-joined-clause-due g c =
    let e = c.args.entry.now in
    let there = subst (λ (a : Entry). is_some (join_of a e) ≡ true) c.deref.ensures (can-some c.deref.result.now e c.in_err-joined.ensures.memory) in
    on_err c.from_residual.result (subst (λ (k : Option (Arc Entry Global)). is_some (join_behind (option_map arc_value k) e) ≡ true) (sym c.in-Some.is) there)
