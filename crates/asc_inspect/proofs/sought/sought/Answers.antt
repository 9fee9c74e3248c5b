-- The text is that of the run without workers, or a device failed, or memory was wanting.
use Rattle.std.proofs.Common.{◌≡◌, ap, ◌∙◌, arith}
use Rattle.asc_run.specs.declared.walk.Settings.{Settings}
use Rattle.asc_run.specs.SerialHelper.{first_helper}
use Rattle.asc_run.specs.Walk.{Walk, new_walk}
use Rattle.asc_top.specs.Numbers.{guessing_of, visited_settings}
use Rattle.asc_inspect.proofs.Profiles.{failed-device, sound-end}
use Rattle.asc_inspect.proofs.Seekings.{blames-end, blames-none, shows-sought, sought-fails}
use Rattle.asc_inspect.proofs.sought.sought.Goals as goal

pub returns-in-ReadFault-clause-ended : goal.returns-in-ReadFault-clause-ended
returns-in-ReadFault-clause-ended g c =
    let line = c.args.line.now in let image = c.args.image.now in let new = c.in_ok-walk.ensures.new in
    let walk_is : c.in_ok-walk.walk ≡ new_walk image (visited_settings line) = c.in_ok-walk.ensures.walk ∙ ap (λ (s : Settings). new_walk image s) c.visited_settings.ensures.settings in
    let shape_is = c.shape.ensures.shape ∙ ap (λ (walk : Walk). walk.state.shape) walk_is in
    let helper_is : c.in_ok-helper.helper ≡ first_helper image.start.shape (guessing_of line) = c.in_ok-helper.ensures ∙ (λ i. first_helper (shape_is i) (c.guessing_of.ensures i)) in
    let d = failed-device _ c.in-ReadFault.is in
    sought-fails line image _ _ _ _ _ c.go-ended.new.helper _ walk_is helper_is (c.go-ended.ensures.first new) (c.go-ended.ensures.helper new).raised _ c.count-count.ensures d.0 d.1

pub returns-in-ReadFault-clause-faults : goal.returns-in-ReadFault-clause-faults
returns-in-ReadFault-clause-faults g c = blames-end _ _ _ _ _ _ c.in_ok-walk.ensures.walk c.go-ended.ensures.faults

pub returns-then-refused-gt0-clause-faults : goal.returns-then-refused-gt0-clause-faults
returns-then-refused-gt0-clause-faults g c = blames-none _ _ _ _ _ _ c.in_ok-walk.ensures.walk c.go-ended.ensures.faults (sound-end _ c.in-Exit.is)

pub returns-in-Ok-clause-shown : goal.returns-in-Ok-clause-shown
returns-in-Ok-clause-shown g c =
    let line = c.args.line.now in let image = c.args.image.now in let new = c.in_ok-walk.ensures.new in
    let walk_is : c.in_ok-walk.walk ≡ new_walk image (visited_settings line) = c.in_ok-walk.ensures.walk ∙ ap (λ (s : Settings). new_walk image s) c.visited_settings.ensures.settings in
    let shape_is = c.shape.ensures.shape ∙ ap (λ (walk : Walk). walk.state.shape) walk_is in
    let helper_is : c.in_ok-helper.helper ≡ first_helper image.start.shape (guessing_of line) = c.in_ok-helper.ensures ∙ (λ i. first_helper (shape_is i) (c.guessing_of.ensures i)) in
    let counts = c.counts-counts.ensures in
    shows-sought line image _ _ _ _ _ c.go-ended.new.helper _ walk_is helper_is (c.go-ended.ensures.first new) (c.go-ended.ensures.helper new).raised
    _ _ _ _ _ _ (sound-end _ c.in-Exit.is) (omega (arith, c.refused.ensures, c.if-refused-gt0.false)) c.count-count.ensures counts.asked counts.skipped counts.hits c.last_address.ensures c.in-Ok.ensures

pub returns-in-Ok-clause-faults : goal.returns-in-Ok-clause-faults
returns-in-Ok-clause-faults g c = blames-none _ _ _ _ _ _ c.in_ok-walk.ensures.walk c.go-ended.ensures.faults (sound-end _ c.in-Exit.is)

pub returns-clause-faults : goal.returns-clause-faults
returns-clause-faults g c = blames-none _ _ _ _ _ _ c.in_ok-walk.ensures.walk c.go-ended.ensures.faults (sound-end _ c.in-Exit.is)
