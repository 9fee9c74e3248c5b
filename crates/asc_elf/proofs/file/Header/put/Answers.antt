use Rattle.std.proofs.Common.{ap, ◌∙◌, arith}
use Rattle.std.proofs.lemmas.Bool.Decides.{nat_tests}
use Rattle.asc_model.specs.State.{State}
use Rattle.asc_shape.proofs.States.{shape-state_after}
use Rattle.asc_elf.specs.File.{Header}
use Rattle.asc_elf.proofs.file.Header.put.Goals as goal

pub write_zeros-requires : goal.write_zeros-requires
write_zeros-requires c =
    let address = ap (λ (h : Header). h.p_vaddr) c.self.view_is in
    let memory = ap (λ (h : Header). h.p_memsz) c.self.view_is in
    let same = ap (λ (t : State). t.shape) c.write.ensures ∙ shape-state_after c.args.s.now _ in
    rw same (grind (arith, nat_tests, address, memory, c.requires, c.bytes.ensures.fits))
