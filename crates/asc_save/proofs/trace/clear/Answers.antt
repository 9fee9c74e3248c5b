use Rattle.std.proofs.Common.{◌<◌, ℕ, List, All, map, refl, sym, ap, subst, ◌∙◌, rules}
use Rattle.std.proofs.lemmas.List.Elements.{All-head, All-tail}
use Rattle.asc_model.specs.Shape.{Shape, length_of}
use Rattle.asc_model.specs.State.{State}
use Rattle.asc_model.specs.Places.{bytes_after}
use Rattle.asc_save.proofs.trace.clear.Goals as goal

abbrev IsWithin : Shape → ℕ × ℕ → Type 0
IsWithin shape cell = cell.0 < length_of shape

pub loop-place-init : goal.loop-place-init
loop-place-init c =
    let gives = c.into_iter-place-iterator.ensures.into_iter_gives in
    record {
      can = search rules;
      finite = search rules;
      shape = refl;
      within = subst (All (IsWithin c.args.state.now.shape)) (sym gives) c.requires;
      left = ap (λ (list : List (ℕ × ℕ)). bytes_after c.args.state.now.bytes (map {B = ℕ × ℕ} (λ (cell : ℕ × ℕ). (cell.0, 0)) list)) gives;
    }

pub set-requires : goal.set-requires
set-requires c =
    let steps = c.in-Some.ensures.steps in
    let all = subst (All (IsWithin c.args.state.now.shape)) steps c.loop-place.invariant.within in
    subst (λ (s : Shape). c.in-Some.place < length_of s) (sym c.loop-place.invariant.shape)
    (All-head (IsWithin c.args.state.now.shape) (c.in-Some.place, c.in-Some.field-0-1) c.next.new.self all)

pub loop-place-preserved : goal.loop-place-preserved
loop-place-preserved c =
    let steps = c.in-Some.ensures.steps in
    let all = subst (All (IsWithin c.args.state.now.shape)) steps c.loop-place.invariant.within in
    record {
      can = search rules;
      finite = search rules;
      shape = ap (λ (s : State). s.shape) c.set.ensures ∙ c.loop-place.invariant.shape;
      within = All-tail (IsWithin c.args.state.now.shape) (c.in-Some.place, c.in-Some.field-0-1) c.next.new.self all;
      left = ap (λ (s : State). bytes_after s.bytes (map {B = ℕ × ℕ} (λ (cell : ℕ × ℕ). (cell.0, 0)) c.next.new.self)) c.set.ensures ∙ sym (ap (λ (list : List (ℕ × ℕ)). bytes_after c.loop-place.state.bytes (map {B = ℕ × ℕ} (λ (cell : ℕ × ℕ). (cell.0, 0)) list)) steps) ∙ c.loop-place.invariant.left;
    }

pub returns : goal.returns
returns c =
    let none = c.in-None.ensures.steps.0 in
    let bytes = sym (ap (λ (list : List (ℕ × ℕ)). bytes_after c.loop-place.state.bytes (map {B = ℕ × ℕ} (λ (cell : ℕ × ℕ). (cell.0, 0)) list)) none) ∙ c.loop-place.invariant.left in
    let shape = c.loop-place.invariant.shape in
    λ i. record { shape = shape i; bytes = bytes i }
