use Rattle.std.proofs.lemmas.Result.{IfOk-weaker}
use Rattle.asc_words.proofs.Commands.{as_new, with_arg}
use Rattle.asc_words.proofs.command.shared_command.Goals as goal

pub returns : goal.returns
returns c =
    let bare = as_new c.new.result _ c.new.ensures.local c.new.ensures.app in
    let one = with_arg _ _ _ _ _ bare c.in_ok-arg.ensures c.required.ensures.rule c.required.ensures.local in
    let two = with_arg _ _ _ _ _ one c.in_ok-arg-2.ensures c.number.ensures.rule c.number.ensures.local in
    let three = with_arg _ _ _ _ _ two c.in_ok-arg-3.ensures c.number-2.ensures.rule c.number-2.ensures.local in
    let four = with_arg _ _ _ _ _ three c.in_ok-arg-4.ensures c.number-3.ensures.rule c.number-3.ensures.local in
    let five = with_arg _ _ _ _ _ four c.in_ok-arg-5.ensures c.text_with_default.ensures.rule c.text_with_default.ensures.local in
    let six = with_arg _ _ _ _ _ five c.in_ok-arg-6.ensures c.text.ensures.rule c.text.ensures.local in
    let seven = with_arg _ _ _ _ _ six c.in_ok-arg-7.ensures c.number-4.ensures.rule c.number-4.ensures.local in
    let eight = with_arg _ _ _ _ _ seven c.in_ok-arg-8.ensures c.number-5.ensures.rule c.number-5.ensures.local in
    let nine = with_arg _ _ _ _ _ eight c.in_ok-arg-9.ensures c.number-6.ensures.rule c.number-6.ensures.local in
    let ten = with_arg _ _ _ _ _ nine c.in_ok-arg-10.ensures c.number-7.ensures.rule c.number-7.ensures.local in
    let eleven = with_arg _ _ _ _ _ ten c.in_ok-arg-11.ensures c.number-8.ensures.rule c.number-8.ensures.local in
    let twelve = with_arg _ _ _ _ _ eleven c.in_ok-arg-12.ensures c.number-9.ensures.rule c.number-9.ensures.local in
    let thirteen = with_arg _ _ _ _ _ twelve c.in_ok-arg-13.ensures c.flag.ensures.rule c.flag.ensures.local in
    IfOk-weaker c.arg-14.result _ _ (λ new adds. with_arg _ new _ _ _ thirteen adds c.flag-2.ensures.rule c.flag-2.ensures.local) c.arg-14.ensures
