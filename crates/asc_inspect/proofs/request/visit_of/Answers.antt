-- The fifth word is no number, or too low; or the others are no line.
use Rattle.std.proofs.Common.{Err, refl, ap, ◌∙◌, subst, arith}
use Rattle.std.specs.String.{string_bytes}
use Rattle.asc_words.specs.declared.line.LineFault.{LineFault}
use Rattle.asc_words.specs.Line.{line_of}
use Rattle.asc_words.proofs.Lines.{passed_up}
use Rattle.asc_inspect.specs.Asked.{IsNumber}
use Rattle.asc_inspect.proofs.Questions.{number-same, visit-row, word-read}
use Rattle.asc_inspect.proofs.request.visit_of.Goals as goal

pub returns-in_default-clause-usage : goal.returns-in_default-clause-usage
returns-in_default-clause-usage c = λ bad e line visit asks.
    let enough = c.if-words-lt5.false in
    let word = word-read string_bytes c.args.words.now 4 c.index-words-4.result _ (omega (arith, enough)) c.index-words-4.is c.as_str.ensures.value in
    c.in_default.ensures.none refl visit.number (subst (λ text. IsNumber text visit.number) word asks.number)

pub returns-then-number-least-clause-usage : goal.returns-then-number-least-clause-usage
returns-then-number-least-clause-usage c = λ bad e line visit asks.
    let enough = c.if-words-lt5.false in let less = c.if-number-least.true in let late = asks.late in
    let word = word-read string_bytes c.args.words.now 4 c.index-words-4.result _ (omega (arith, enough)) c.index-words-4.is c.as_str.ensures.value in
    let same = number-same _ _ visit.number c.in-Some.number word asks.number c.in-Some.ensures.some in
    omega (arith, same, less, late)

pub returns-in_err-line-clause-usage : goal.returns-in_err-line-clause-usage
returns-in_err-line-clause-usage c = λ bad e line visit asks.
    let enough = c.if-words-lt5.false in
    c.line_with.ensures.usage bad (c.in_err-line.was ∙ ap (λ (fault : LineFault). Err fault) (passed_up _ _ _ c.from_residual-in_err-line.ensures.1 e)) line
    (ap line_of (visit-row string_bytes c.args.words.now _ _ _ _ c.as_str-2.result.now c.as_str-3.result.now c.in_ok-asked.ensures c.in_ok-put_word.ensures c.in_ok-put_word-2.ensures c.in_ok-put_word-3.ensures
    (word-read string_bytes c.args.words.now 2 c.index-words-2.result _ (omega (arith, enough)) c.index-words-2.is c.as_str-2.ensures.value)
    (word-read string_bytes c.args.words.now 3 c.index-words-3.result _ (omega (arith, enough)) c.index-words-3.is c.as_str-3.ensures.value)) ∙ asks.run)
