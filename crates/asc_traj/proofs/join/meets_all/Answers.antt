use Rattle.std.proofs.Common.{◌==◌, ◌∙◌}
use Rattle.asc_traj.proofs.Masks.{meets-is}
use Rattle.asc_traj.proofs.join.meets_all.Goals as goal

pub returns : goal.returns
returns c = (λ i. c.kept.ensures i == c.kept-2.ensures i) ∙ meets-is c.args.known c.args.read
