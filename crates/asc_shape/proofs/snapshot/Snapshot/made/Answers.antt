use Rattle.std.proofs.Common.{ℕ, List, ◌∙◌, sym, subst, ap}
use Rattle.asc_model.specs.Shape.{length_of}
use Rattle.asc_model.specs.State.{State, IsState}
use Rattle.asc_shape.proofs.Snapshots.{frozen_is}
use Rattle.asc_shape.proofs.snapshot.Snapshot.made.Goals as goal

pub invariant_of-new : goal.invariant_of-new
invariant_of-new c =
    subst (λ (bytes : List ℕ). IsState (record { shape = c.args.shape; bytes = bytes }))
    (sym (frozen_is (length_of c.args.shape) c.front_of-front.result.now c.in_ok-pages.pages c.args.bytes.now c.requires.length c.front_of-front.ensures.front c.in_ok-pages.ensures))
    (record { shape = c.base.ensures.good; length = c.requires.length; bytes = c.elements_are_bytes.ensures })

pub returns : goal.returns
returns c =
    c.in_ok-new.ensures.ok
    ∙ ap (λ (bytes : List ℕ). let s : State = record { shape = c.args.shape; bytes = bytes } in s)
    (frozen_is (length_of c.args.shape) c.front_of-front.result.now c.in_ok-pages.pages c.args.bytes.now c.requires.length c.front_of-front.ensures.front c.in_ok-pages.ensures)
