-- What holds of the answer to a trial without workers.
use Rattle.std.proofs.Common.{◌≡◌, ◌∙◌, ℕ, List, [], ap, refl, subst}
use Rattle.asc_make.specs.File.{image_of}
use Rattle.asc_calls.specs.World.{Outside}
use Rattle.asc_top.specs.Numbers.{exit_of}
use Rattle.asc_top.specs.Program.{image_alone}
use Rattle.asc_top.specs.Ran.{Ran}
use Rattle.asc_top.specs.Reported.{EndsTrial}
use Rattle.asc_top.proofs.Lent.{over_counts}
use Rattle.asc_top.proofs.Trials.{answer_of_trial}
use Rattle.asc_top.proofs.trial.trial_alone.Goals as goal

pub returns : goal.returns
returns g c = λ files asked store_faults left err input_faults err_faults.
    let ran = c.run_file_alone-ran.result in
    let own = over_counts c.no_devices-guest.result c.run_file_alone-ran.new.devices c.args.steps.now c.run_file_alone-ran.new.steps
    (λ (old new : Outside). Ran old new c.trial_run-line.result (image_alone c.deref.result.now) ran) c.no_devices-guest.ensures c.into_parts-output.ensures.told c.run_file_alone-ran.ensures in
    let file : c.deref.result.now ≡ image_of c.args.n = c.deref.ensures.value ∙ c.in-Ok.ensures in
    answer_of_trial c.args.n 0 0 c.trial_run-line.result c.deref.result.now [] 0 0 _ _ _ _ _ ran
    c.trial_run-line.ensures file refl refl refl own
    files asked store_faults left (g.O.Sink.given c.args.out.now) (g.O.Sink.given c.end_trial.new.out) err input_faults (g.O.Sink.faults c.args.out.now) (g.O.Sink.faults c.end_trial.new.out) err_faults c.end_trial.result
    (subst (λ put. EndsTrial c.args.n 0 put (exit_of ran) ran.answer (g.O.Sink.given c.args.out.now) (g.O.Sink.given c.end_trial.new.out) (g.O.Sink.faults c.args.out.now) (g.O.Sink.faults c.end_trial.new.out) c.end_trial.result)
    (c.count.ensures ∙ ap (λ (parts : List ℕ × ℕ × ℕ). parts.1) c.into_parts-output.ensures.parts) c.end_trial.ensures)
