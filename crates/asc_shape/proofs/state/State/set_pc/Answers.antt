use Rattle.std.proofs.Common.{sym, ◌∙◌, arith}
use Rattle.asc_model.specs.Machine.{Pc}
use Rattle.asc_shape.proofs.States.{changed_is}
use Rattle.asc_shape.proofs.state.State.set_pc.Goals as goal

pub returns : goal.returns
returns c = c.set_word.ensures ∙ sym (changed_is c.args.self.now (Pc c.args.pc) c.shape.ensures.state (omega arith))
