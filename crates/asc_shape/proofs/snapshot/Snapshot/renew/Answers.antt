use Rattle.std.proofs.Common.{ℕ, List, ◌∙◌, sym, subst, ap}
use Rattle.asc_model.specs.Shape.{length_of}
use Rattle.asc_model.specs.State.{State, IsState}
use Rattle.asc_shape.proofs.Snapshots.{frozen_is, frozen_left}
use Rattle.asc_shape.proofs.snapshot.Snapshot.renew.Goals as goal

pub invariant_of-self : goal.invariant_of-self
invariant_of-self c = frozen_left c.self.inside.shape c.self.inside.front c.self.inside.pages c.renew.new.self c.self.invariant c.in_err-renew.ensures

pub invariant_of-self-2 : goal.invariant_of-self-2
invariant_of-self-2 c =
    let shape = c.self.inside.shape in
    let same = ap (λ (s : State). length_of s.shape) c.self.view_is in
    subst (λ (bytes : List ℕ). IsState (record { shape = shape; bytes = bytes }))
    (sym (frozen_is (length_of shape) c.front_of.result.now c.renew.new.self c.args.bytes.now (c.requires.length ∙ sym same) c.front_of.ensures.front c.in_ok-renew.ensures))
    (record { shape = c.base.ensures.good; length = c.requires.length ∙ sym same; bytes = c.elements_are_bytes.ensures })

pub returns : goal.returns
returns c =
    let shape = c.self.inside.shape in
    let same = ap (λ (s : State). length_of s.shape) c.self.view_is in
    ap (λ (bytes : List ℕ). let s : State = record { shape = shape; bytes = bytes } in s)
    (frozen_is (length_of shape) c.front_of.result.now c.renew.new.self c.args.bytes.now (c.requires.length ∙ sym same) c.front_of.ensures.front c.in_ok-renew.ensures)
    ∙ ap (λ (t : State). let s : State = record { shape = t.shape; bytes = c.args.bytes.now } in s) c.self.view_is
