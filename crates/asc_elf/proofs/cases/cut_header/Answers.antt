use Rattle.std.proofs.Common.{rules, tests, ap, inl, length, arith}
use Rattle.std.proofs.lemmas.Iterator.Search.{position_from_yields_List}
use Rattle.asc_elf.specs.Image.{is_cut}
use Rattle.asc_elf.proofs.Headers.{YieldsList-headers, headers-few}
use Rattle.asc_elf.proofs.cases.cut_header.Goals as goal

pub position-requires-clause-fits : goal.position-requires-clause-fits
position-requires-clause-fits c = inl (omega (arith, ap length c.headers.ensures, headers-few c.args.file.now (λ i. omega (arith, c.type_inv.file i))))

pub returns : goal.returns
returns c = position_from_yields_List (is_cut c.args.file.now) _ _ _ c.position.ensures.ran (YieldsList-headers c.args.file.now c.headers.ensures) (λ x b q k. search (rules, tests))
