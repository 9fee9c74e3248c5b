-- Why there is no text is the answer.
use Rattle.std.proofs.Common.{refl, sym}
use Rattle.std.proofs.lemmas.Result.{IfErr-at_err}
use Rattle.asc_inspect.proofs.Answered.{none-OutFault, of-none}
use Rattle.asc_inspect.proofs.showing.show_file.Goals as goal

pub returns-clause-says : goal.returns-clause-says
returns-clause-says g c = of-none _ _ _ _ c.in-Err-text.answer refl (c.in-Ok.image, sym c.in-Ok.ensures, IfErr-at_err _ c.in-Err-text.is c.text_of-text.ensures.ended)

pub returns-clause-out : goal.returns-clause-out
returns-clause-out g c = none-OutFault _ _ _ _ _ _ c.in-Err-text.answer (IfErr-at_err _ c.in-Err-text.is c.text_of-text.ensures.ended)
