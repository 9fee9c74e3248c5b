-- Memory was wanting for an entry to keep.
use Rattle.std.proofs.Common.{refl, ap}
use Rattle.std.specs.Option.{option_map}
use Rattle.std.specs.Arc.{arc_value}
use Rattle.asc_work.specs.declared.joining.Joining.{Joining}
use Rattle.asc_work.proofs.Joins.{none_kept, of_same}
use Rattle.asc_work.proofs.worker.Worker.join_stored.Goals as goal

pub returns-in_default-clause-joined : goal.returns-in_default-clause-joined
returns-in_default-clause-joined g c = λ e some.
    of_same g.W.Insert.content _ _ _ e _ c.self.view_is
    (none_kept _ _ e _ _ (ap (λ (j : Joining). option_map arc_value j.kept) c.keep.ensures) (ap (λ (j : Joining). j.left_out) c.keep.ensures) refl)
