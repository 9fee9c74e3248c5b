use Rattle.std.proofs.lemmas.Result.{IfOk-weaker}
use Rattle.asc_words.proofs.Commands.{with_arg}
use Rattle.asc_words.proofs.command.batch_command.Goals as goal

pub returns : goal.returns
returns c =
    let one = with_arg _ _ _ _ _ c.in_ok-shared_command.ensures c.in_ok-arg.ensures c.workers.ensures.rule c.workers.ensures.local in
    let two = with_arg _ _ _ _ _ one c.in_ok-arg-2.ensures c.flag.ensures.rule c.flag.ensures.local in
    IfOk-weaker c.arg-3.result _ _ (λ new adds. with_arg _ new _ _ _ two adds c.inputs.ensures.rule c.inputs.ensures.local) c.arg-3.ensures
