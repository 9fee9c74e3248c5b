-- The third word is that text.
use Rattle.std.proofs.Common.{sym, ◌∙◌, arith}
use Rattle.std.specs.String.{string_bytes}
use Rattle.std.proofs.lemmas.Slice.Eq.{bytes_eq-Decides}
use Rattle.asc_inspect.proofs.Questions.{word-read}
use Rattle.asc_inspect.proofs.request.has_all.Goals as goal

pub returns-then-words-gt2-clause-yes : goal.returns-then-words-gt2-clause-yes
returns-then-words-gt2-clause-yes c = λ yes.
    let enough = c.if-words-gt2.true in
    word-read string_bytes c.args.words.now 2 c.index-words-2.result _ (omega (arith, enough)) c.index-words-2.is c.as_str.ensures.value
    ∙ (bytes_eq-Decides _ _).0 (sym c.eq.ensures ∙ yes)
