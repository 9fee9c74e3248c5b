-- What is told of the devices as they are made, and as they are given back.
use Rattle.std.proofs.Common.{◌≡◌, ℕ, List, Option, IfErr, IfOk, sym, ap, ◌∙◌, subst}
use Rattle.asc_calls.specs.World.{BlamesOnly, DeviceFaults, Outside, Told, faults}
use Rattle.asc_inspect.specs.Shown.{HasNoText, ShowsText, device_of_result, first_world}
use Rattle.asc_inspect.proofs.Answered.{blames-input, no-output-failed, nothing-put}
use Rattle.asc_inspect.proofs.showing.text_of.Goals as goal

-- what holds of two terms holds of their equals
both : {A B : Type 0} (P : A → B → Type 0) (a a' : A) (b b' : B) → a ≡ a' → b ≡ b' → P a b → P a' b'
both P a a' b b' p q h = subst (λ x. P x b') p (subst (P a) q h)

pub returns-clause-shown : goal.returns-clause-shown
returns-clause-shown g c =
    let r = c.args.request.now in let told = c.into_parts-input.ensures.told in let parts = c.into_parts-input.ensures.parts in
    let start = nothing-put _ _ _ _ c.args.steps.now _ (ap (λ d. d.told) c.new-guest.ensures) c.new.ensures c.new-2.ensures in
    let left = ap (λ (t : Told). t.left) told ∙ ap (λ p. g.I.Source.left p.0) (sym parts) in
    both (λ (o : Outside) (left : Option (List ℕ)). IfOk c.guest_text-text.result (λ text. ShowsText r.line r.question (first_world c.args.image.now o) left c.guest_text-text.new.steps text.items)) _ _ _ _ start left c.guest_text-text.ensures.shown

pub returns-clause-ended : goal.returns-clause-ended
returns-clause-ended g c =
    let r = c.args.request.now in let told = c.into_parts-input.ensures.told in let parts = c.into_parts-input.ensures.parts in
    let start = nothing-put _ _ _ _ c.args.steps.now _ (ap (λ d. d.told) c.new-guest.ensures) c.new.ensures c.new-2.ensures in
    let left = ap (λ (t : Told). t.left) told ∙ ap (λ p. g.I.Source.left p.0) (sym parts) in
    both (λ (o : Outside) (left : Option (List ℕ)). IfErr c.guest_text-text.result (λ answer. HasNoText r.line r.question (first_world c.args.image.now o) left c.guest_text-text.new.steps answer)) _ _ _ _ start left c.guest_text-text.ensures.ended

pub returns-clause-input : goal.returns-clause-input
returns-clause-input g c =
    let told = c.into_parts-input.ensures.told in let parts = c.into_parts-input.ensures.parts in
    let after = ap (λ (t : Told). t.faults) told ∙ ap (λ p. faults (g.I.Source.faults p.0) 0 0) (sym parts) in
    blames-input c.guest_text-text.result _ _ (both (λ (old new : DeviceFaults). BlamesOnly (device_of_result c.guest_text-text.result) old new) _ _ _ _ (ap (λ d. d.told.faults) c.new-guest.ensures) after c.guest_text-text.ensures.faults)

pub returns-clause-counted : goal.returns-clause-counted
returns-clause-counted g c =
    let told = c.into_parts-input.ensures.told in let parts = c.into_parts-input.ensures.parts in
    let after = ap (λ (t : Told). t.faults) told ∙ ap (λ p. faults (g.I.Source.faults p.0) 0 0) (sym parts) in
    no-output-failed c.guest_text-text.result _ _ (both (λ (old new : DeviceFaults). BlamesOnly (device_of_result c.guest_text-text.result) old new) _ _ _ _ (ap (λ d. d.told.faults) c.new-guest.ensures) after c.guest_text-text.ensures.faults)
