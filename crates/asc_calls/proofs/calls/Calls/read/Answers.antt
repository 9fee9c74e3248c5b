-- A read that is answered early, one that comes to its end, and one whose source fails.
use Rattle.asc_calls.proofs.Serve.{Serves-read_early, Serves-read, Serves-read_fault}
use Rattle.asc_calls.proofs.calls.Calls.read.Goals as goal

pub returns-in-Some-clause-served : goal.returns-in-Some-clause-served
returns-in-Some-clause-served g c = λ out err before after.
    Serves-read_early c.args.state.now c.args.self.now _ out err _ c.reg.result before after c.reg.ensures _ _ c.in-Some.answer _ c.requires c.in-Some.ensures
    c.go_on.ensures.state c.go_on.ensures.steps c.go_on.ensures.went

pub returns-in-Ok-clause-served : goal.returns-in-Ok-clause-served
returns-in-Ok-clause-served g c = λ out err before after.
    Serves-read c.args.state.now c.args.self.now _ out err _ c.reg.result before after c.reg.ensures c.take.new.state _ c.take.new.self _ _ c.in-Ok.count c.reg-buffer.result c.reg-n.result _
    c.requires c.in_default.ensures c.reg-buffer.ensures c.reg-n.ensures c.in-Ok.ensures.reads
    c.go_on-in-Ok.ensures.state c.go_on-in-Ok.ensures.steps c.go_on-in-Ok.ensures.went

pub returns-in-Err-clause-served : goal.returns-in-Err-clause-served
returns-in-Err-clause-served g c = λ out err before after.
    Serves-read_fault c.args.state.now c.args.self.now _ out err _ c.reg.result before after c.reg.ensures c.take.new.state c.take.new.self _ c.reg-buffer.result c.reg-n.result
    c.requires c.in_default.ensures c.reg-buffer.ensures c.reg-n.ensures c.in-Err.ensures.part
