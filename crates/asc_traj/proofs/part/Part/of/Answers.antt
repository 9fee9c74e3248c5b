use Rattle.std.proofs.Common.{◌%◌, ◌∙◌, ap}
use Rattle.asc_traj.specs.Parts.{kept}
use Rattle.asc_traj.proofs.part.Part.of.Goals as goal

pub returns : goal.returns
returns c = c.kept.ensures ∙ ap (kept 4 (c.args.self.now.at % 16)) c.word.ensures
