-- The text is that of the run, or a device failed.
use Rattle.std.proofs.Common.{◌/◌, ap, ◌∙◌}
use Rattle.std.specs.Option.{option_or}
use Rattle.asc_guess.specs.Choice.{chosen_address}
use Rattle.asc_inspect.proofs.Profiles.{failed-device, profile-fails, shows-profile, sound-end}
use Rattle.asc_inspect.proofs.profile.profile.Goals as goal

pub returns-in-ReadFault-clause-ended : goal.returns-in-ReadFault-clause-ended
returns-in-ReadFault-clause-ended g c =
    let d = failed-device _ c.in-ReadFault.is in
    profile-fails _ _ _ _ _ _ _ _ _ c.run-ended.ensures.goes d.0 d.1

pub returns-in-Ok-profile_text-clause-shown : goal.returns-in-Ok-profile_text-clause-shown
returns-in-Ok-profile_text-clause-shown g c =
    let shape = c.shape-shape.ensures.shape in let list = c.run-ended.new.notes.list.items in
    let chosen = c.choose-chosen.ensures.chosen ∙ ap (λ l. chosen_address l c.from.result) c.as_mut_slice.ensures.value ∙ ap (chosen_address list) c.from.ensures in
    shows-profile _ _ _ _ _ _ _ _ _ c.run-ended.ensures.goes c.args.addresses _ _ _ (sound-end _ c.in-Exit.is) c.run-ended.ensures.base
    (c.in-Ok.ensures.base ∙ c.base.ensures.base ∙ ap (λ x. x.base) shape) c.in-Ok.ensures.profile
    (c.run-ended.ensures.words ∙ c.in-Ok.ensures.words ∙ ap (λ n. n / 4) (c.size.ensures ∙ ap (λ x. x.size) shape))
    (c.or-chosen.ensures ∙ ap (option_or c.args.line.now.pc) chosen) c.in-Ok-profile_text.ensures
