use Rattle.std.proofs.Common.{sym, ◌∙◌, arith}
use Rattle.asc_model.proofs.Views.{view_of-register}
use Rattle.asc_shape.proofs.state.State.reg.Goals as goal

pub returns-else-k-eq0 : goal.returns-else-k-eq0
returns-else-k-eq0 c = c.word.ensures ∙ sym (view_of-register c.args.self.now c.args.k (omega arith) (omega arith))
