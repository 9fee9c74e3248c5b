use Rattle.std.proofs.Common.{rules, tests}
use Rattle.std.proofs.lemmas.Iterator.Search.{any_from_yields_List}
use Rattle.asc_elf.specs.Image.{is_interp}
use Rattle.asc_elf.proofs.Headers.{YieldsList-headers}
use Rattle.asc_elf.proofs.cases.has_interp.Goals as goal

pub returns : goal.returns
returns c = any_from_yields_List is_interp _ _ _ c.any.ensures.ran (YieldsList-headers c.args.file.now c.headers.ensures) (λ x b q k. search (rules, tests))
