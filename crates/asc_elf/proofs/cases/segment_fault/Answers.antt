use Rattle.std.proofs.Common.{sym, ◌∙◌, arith}
use Rattle.std.proofs.lemmas.List.Quantifiers.{position-Some}
use Rattle.asc_elf.specs.File.{header_at, headers}
use Rattle.asc_elf.specs.Image.{is_cut}
use Rattle.asc_elf.proofs.Headers.{headers-few}
use Rattle.asc_elf.proofs.cases.segment_fault.Goals as goal

pub overflow_cast-result : goal.overflow_cast-result
overflow_cast-result c =
    let file = c.args.file.now in
    let first = position-Some (is_cut file) (headers file) c.in-Some.index (header_at file 0) (sym c.cut_header.ensures ∙ c.in-Some.is) in
    omega (arith, first.0, headers-few file (λ i. omega (arith, c.type_inv.file i)))
