use Rattle.std.proofs.lemmas.Result.{IfOk-weaker}
use Rattle.asc_words.proofs.Commands.{as_new, with_arg}
use Rattle.asc_words.proofs.command.make_command.Goals as goal

pub returns : goal.returns
returns c =
    let bare = as_new c.new.result _ c.new.ensures.local c.new.ensures.app in
    IfOk-weaker c.arg.result _ _ (λ new adds. with_arg _ new _ _ _ bare adds c.number_argument.ensures.rule c.number_argument.ensures.local) c.arg.ensures
