use Rattle.std.proofs.Common.{rules, tests, ◌∙◌}
use Rattle.std.proofs.lemmas.Iterator.Search.{any_from_yields_List}
use Rattle.asc_elf.specs.File.{is_segment}
use Rattle.asc_elf.proofs.Headers.{YieldsList-headers}
use Rattle.asc_elf.proofs.Segments.{any_segment}
use Rattle.asc_elf.proofs.cases.has_segment.Goals as goal

pub returns : goal.returns
returns c = any_from_yields_List is_segment _ _ _ c.any.ensures.ran (YieldsList-headers c.args.file.now c.headers.ensures) (λ x b q k. search (rules, tests)) ∙ any_segment c.args.file.now
