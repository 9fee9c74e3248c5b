use Rattle.std.proofs.Common.{sym, ◌∙◌}
use Rattle.asc_model.proofs.Views.{view_of-pc}
use Rattle.asc_shape.proofs.state.State.pc.Goals as goal

pub returns : goal.returns
returns c = c.word.ensures ∙ sym (view_of-pc c.args.self.now)
