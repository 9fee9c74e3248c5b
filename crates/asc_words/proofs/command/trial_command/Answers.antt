use Rattle.std.proofs.lemmas.Result.{IfOk-weaker}
use Rattle.asc_words.proofs.Commands.{as_new, with_arg}
use Rattle.asc_words.proofs.command.trial_command.Goals as goal

pub returns : goal.returns
returns c =
    let bare = as_new c.new.result _ c.new.ensures.local c.new.ensures.app in
    let one = with_arg _ _ _ _ _ bare c.in_ok-arg.ensures c.number_argument.ensures.rule c.number_argument.ensures.local in
    let two = with_arg _ _ _ _ _ one c.in_ok-arg-2.ensures c.workers.ensures.rule c.workers.ensures.local in
    IfOk-weaker c.arg-3.result _ _ (λ new adds. with_arg _ new _ _ _ two adds c.rounds.ensures.rule c.rounds.ensures.local) c.arg-3.ensures
