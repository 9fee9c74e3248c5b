use Rattle.std.proofs.Common.{ap, ◌∙◌, arith}
use Rattle.asc_model.specs.State.{State}
use Rattle.asc_shape.proofs.States.{memory_is}
use Rattle.asc_shape.proofs.state.State.mem.Goals as goal

pub returns-clause-bytes : goal.returns-clause-bytes
returns-clause-bytes c =
    memory_is c.args.self.now _ c.args.at _ c.args.n _
    (c.deref.ensures.value ∙ ap (λ (s : State). s.bytes) c.self.view_is)
    c.place-from.ensures
    (omega arith)
