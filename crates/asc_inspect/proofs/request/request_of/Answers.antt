-- The words behind the question's are refused.
use Rattle.std.proofs.Common.{Err, ap, ◌∙◌, arith}
use Rattle.std.specs.String.{string_bytes}
use Rattle.asc_words.specs.declared.line.LineFault.{LineFault}
use Rattle.asc_words.proofs.Lines.{passed_up}
use Rattle.asc_inspect.proofs.Questions.{at-none, entry-none, miss-none, word-read}
use Rattle.asc_inspect.proofs.request.request_of.Goals as goal

pub returns-in_err-line-in-entry-clause-usage : goal.returns-in_err-line-in-entry-clause-usage
returns-in_err-line-in-entry-clause-usage c = λ bad e request asks.
    let enough = c.if-words-lt2.false in
    entry-none _ request.line request.question
    (word-read string_bytes c.args.words.now 1 c.index-words-1.result _ (omega (arith, enough)) c.index-words-1.is c.as_str.ensures.value ∙ c.in-entry.is)
    (c.visit_of.ensures.usage bad (c.in_err-line-in-entry.was ∙ ap (λ (fault : LineFault). Err fault) (passed_up _ _ _ c.from_residual.ensures.1 e))) asks

pub returns-in_err-line-in-miss-clause-usage : goal.returns-in_err-line-in-miss-clause-usage
returns-in_err-line-in-miss-clause-usage c = λ bad e request asks.
    let enough = c.if-words-lt2.false in
    miss-none _ request.line request.question
    (word-read string_bytes c.args.words.now 1 c.index-words-1.result _ (omega (arith, enough)) c.index-words-1.is c.as_str.ensures.value ∙ c.in-miss.is)
    (c.visit_of-in-miss.ensures.usage bad (c.in_err-line-in-miss.was ∙ ap (λ (fault : LineFault). Err fault) (passed_up _ _ _ c.from_residual-in_err-line-in-miss.ensures.1 e))) asks

pub returns-in_err-line-in-at-clause-usage : goal.returns-in_err-line-in-at-clause-usage
returns-in_err-line-in-at-clause-usage c = λ bad e request asks.
    let enough = c.if-words-lt2.false in
    at-none _ request.line request.question
    (word-read string_bytes c.args.words.now 1 c.index-words-1.result _ (omega (arith, enough)) c.index-words-1.is c.as_str.ensures.value ∙ c.in-at.is)
    (c.count_of.ensures.usage bad (c.in_err-line-in-at.was ∙ ap (λ (fault : LineFault). Err fault) (passed_up _ _ _ c.from_residual-in_err-line-in-at.ensures.1 e))) asks
