-- What a file comes to without workers.
use Rattle.std.proofs.Common.{refl, sym, subst}
use Rattle.asc_calls.specs.World.{outside_of}
use Rattle.asc_run.specs.declared.walk.Settings.{Settings}
use Rattle.asc_words.specs.declared.answer.Conclusion.{Conclusion}
use Rattle.asc_top.specs.Program.{image_alone}
use Rattle.asc_top.specs.Numbers.{settings_of}
use Rattle.asc_top.specs.Ran.{IsWalkOf, Ran}
use Rattle.asc_top.proofs.Refused.{ran_no_walk}
use Rattle.asc_top.proofs.run.run_file_alone.Goals as goal

pub returns-in-Ok : goal.returns-in-Ok
returns-in-Ok g c =
    let line = c.args.line.now in
    let own : IsWalkOf line (settings_of line) c.args.file.now c.in-Ok.walk =
    subst (λ (s : Settings). IsWalkOf line s c.args.file.now c.in-Ok.walk) c.settings_of.ensures.settings c.in-Ok.ensures.walk in
    c.walk_alone.ensures (image_alone c.args.file.now)
    (record { within = c.requires.file; own = own; taken = refl; none = λ _. refl })

pub returns-in-Err : goal.returns-in-Err
returns-in-Err g c =
    let guest = outside_of c.args.devices.now c.args.steps.now in
    subst (λ (o : Conclusion). Ran guest guest c.args.line.now (image_alone c.args.file.now) o) (sym c.of.ensures)
    (ran_no_walk c.args.line.now c.args.file.now c.in-Err.answer guest c.requires.file c.in-Err.ensures.none)
