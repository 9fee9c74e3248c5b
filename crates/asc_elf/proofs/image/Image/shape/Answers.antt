use Rattle.std.proofs.Common.{subst, sym, ap, ◌∙◌}
use Rattle.asc_model.specs.Shape.{IsShape}
use Rattle.asc_elf.specs.Image.{Image}
use Rattle.asc_elf.proofs.Starts.{shape-start_state}
use Rattle.asc_elf.proofs.image.Image.shape.Goals as goal

pub returns-clause-shape : goal.returns-clause-shape
returns-clause-shape c = sym (shape-start_state _ _) ∙ ap (λ (i : Image). i.start.shape) c.self.view_is

pub returns-clause-good : goal.returns-clause-good
returns-clause-good c = subst IsShape (sym (shape-start_state _ _) ∙ ap (λ (i : Image). i.start.shape) c.self.view_is) c.base-good.ensures.good
