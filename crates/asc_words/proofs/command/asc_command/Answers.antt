use Rattle.std.proofs.lemmas.Result.{IfOk-weaker}
use Rattle.clap.specs.Words.{new_app}
use Rattle.asc_words.proofs.Commands.{Reads, with_each, with_sub}
use Rattle.asc_words.proofs.command.asc_command.Goals as goal

pub returns : goal.returns
returns c =
    let bare : Reads c.new.result (new_app _) = record { local = c.new.ensures.local; reads = c.new.ensures.app } in
    let top = with_each _ _ _ c.disable_help_subcommand.result _ bare c.subcommand_required.ensures c.disable_help_flag.ensures c.disable_help_subcommand.ensures in
    let one = with_sub _ _ _ _ _ top c.in_ok-subcommand.ensures c.in_ok-run_command.ensures in
    let two = with_sub _ _ _ _ _ one c.in_ok-subcommand-2.ensures c.in_ok-save_command.ensures in
    let three = with_sub _ _ _ _ _ two c.in_ok-subcommand-3.ensures c.in_ok-make_command.ensures in
    let four = with_sub _ _ _ _ _ three c.in_ok-subcommand-4.ensures c.in_ok-trial_command.ensures in
    IfOk-weaker c.subcommand-5.result _ _ (λ new adds. (with_sub _ _ new _ _ four adds c.in_ok-batch_command.ensures).reads) c.subcommand-5.ensures
