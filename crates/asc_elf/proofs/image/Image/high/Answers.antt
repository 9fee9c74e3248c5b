use Rattle.std.proofs.Common.{sym, ap, ◌∙◌, arith}
use Rattle.asc_model.specs.Shape.{Shape}
use Rattle.asc_elf.specs.Image.{Image}
use Rattle.asc_elf.proofs.Starts.{shape-start_state}
use Rattle.asc_elf.proofs.image.Image.high.Goals as goal

pub returns : goal.returns
returns c =
    let shape = sym (shape-start_state c.self.inside.file.now c.self.inside.shape) ∙ ap (λ (i : Image). i.start.shape) c.self.view_is in
    let base = ap (λ (s : Shape). s.base) shape in
    let size = ap (λ (s : Shape). s.size) shape in
    let low = ap (λ (i : Image). i.low) c.self.view_is in
    grind (arith, base, size, low)
