-- The words are no line.
use Rattle.std.proofs.Common.{Err, map, ap, ◌∙◌}
use Rattle.std.specs.String.{string_bytes}
use Rattle.asc_words.specs.declared.line.LineFault.{LineFault}
use Rattle.asc_words.specs.Line.{line_of}
use Rattle.asc_words.proofs.Lines.{passed_up}
use Rattle.asc_inspect.proofs.Questions.{all-none, heads-none, run-row}
use Rattle.asc_inspect.proofs.request.addresses_of.Goals as goal

pub returns-in_err-line-clause-usage : goal.returns-in_err-line-clause-usage
returns-in_err-line-clause-usage c = λ bad e line addresses. all-none (map string_bytes c.args.words.now) line addresses (c.has_all.ensures.yes c.if-has_all.true) (λ run.
    c.line_with.ensures.usage bad (c.in_err-line.was ∙ ap (λ (fault : LineFault). Err fault) (passed_up _ _ _ c.from_residual-in_err-line.ensures.1 e)) line
    (ap line_of (run-row string_bytes c.args.words.now 3 _ c.in_ok-asked.ensures) ∙ run))

pub returns-in_err-line-2-clause-usage : goal.returns-in_err-line-2-clause-usage
returns-in_err-line-2-clause-usage c = λ bad e line addresses. heads-none (map string_bytes c.args.words.now) line addresses (c.has_all.ensures.no c.if-has_all.false) (λ run.
    c.line_with-else-has_all.ensures.usage bad (c.in_err-line-2.was ∙ ap (λ (fault : LineFault). Err fault) (passed_up _ _ _ c.from_residual-in_err-line-2.ensures.1 e)) line
    (ap line_of (run-row string_bytes c.args.words.now 2 _ c.in_ok-asked.ensures) ∙ run))
