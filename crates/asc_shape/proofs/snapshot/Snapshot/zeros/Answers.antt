use Rattle.std.proofs.Common.{List, ℕ, sym, ap, subst, ◌∙◌}
use Rattle.std.proofs.lemmas.List.{length-replicate}
use Rattle.asc_model.specs.Shape.{length_of}
use Rattle.asc_model.specs.State.{State, IsState}
use Rattle.asc_shape.proofs.Snapshots.{frozen_zeros}
use Rattle.asc_shape.proofs.States.{AreBytes-replicate_0}
use Rattle.asc_shape.proofs.snapshot.Snapshot.zeros.Goals as goal

pub invariant_of-new : goal.invariant_of-new
invariant_of-new c =
    let n = length_of c.args.shape in
    subst (λ (bytes : List ℕ). IsState (record { shape = c.args.shape; bytes = bytes })) (sym (frozen_zeros n c.in_ok-pages.pages c.in_ok-pages.ensures))
    (record { shape = c.base.ensures.good; length = length-replicate n 0; bytes = AreBytes-replicate_0 n })

pub returns : goal.returns
returns c =
    c.in_ok-new.ensures.ok
    ∙ ap (λ (bytes : List ℕ). let s : State = record { shape = c.args.shape; bytes = bytes } in s) (frozen_zeros (length_of c.args.shape) c.in_ok-pages.pages c.in_ok-pages.ensures)
