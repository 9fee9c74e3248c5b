-- The fourth word is no number, or the others are no line.
use Rattle.std.proofs.Common.{Err, refl, ap, ◌∙◌, subst, arith}
use Rattle.std.specs.String.{string_bytes}
use Rattle.asc_words.specs.declared.line.LineFault.{LineFault}
use Rattle.asc_words.specs.Line.{line_of}
use Rattle.asc_words.proofs.Lines.{passed_up}
use Rattle.asc_inspect.specs.Asked.{IsNumber}
use Rattle.asc_inspect.proofs.Questions.{count-row, word-read}
use Rattle.asc_inspect.proofs.request.count_of.Goals as goal

pub returns-in_default-clause-usage : goal.returns-in_default-clause-usage
returns-in_default-clause-usage c = λ bad e line count asks.
    let enough = c.if-words-lt4.false in
    let word = word-read string_bytes c.args.words.now 3 c.index-words-3.result _ (omega (arith, enough)) c.index-words-3.is c.as_str.ensures.value in
    c.in_default.ensures.none refl count (subst (λ text. IsNumber text count) word asks.number)

pub returns-in_err-line-clause-usage : goal.returns-in_err-line-clause-usage
returns-in_err-line-clause-usage c = λ bad e line count asks.
    let enough = c.if-words-lt4.false in
    c.line_with.ensures.usage bad (c.in_err-line.was ∙ ap (λ (fault : LineFault). Err fault) (passed_up _ _ _ c.from_residual-in_err-line.ensures.1 e)) line
    (ap line_of (count-row string_bytes c.args.words.now _ _ c.as_str-2.result.now c.in_ok-asked.ensures c.in_ok-put_word.ensures
    (word-read string_bytes c.args.words.now 2 c.index-words-2.result _ (omega (arith, enough)) c.index-words-2.is c.as_str-2.ensures.value)) ∙ asks.run)
