use Rattle.std.proofs.Common.{ℕ, ◌==◌, ◌∙◌, ap}
use Rattle.asc_traj.proofs.Parts.{part-same}
use Rattle.asc_traj.proofs.part.Part.is_in.Goals as goal

pub returns : goal.returns
returns c = ap (λ (w : ℕ). w == c.args.self.now.word) c.of.ensures ∙ part-same c.args.self.now c.args.state.now.bytes c.requires.part c.shape.ensures.state.bytes
