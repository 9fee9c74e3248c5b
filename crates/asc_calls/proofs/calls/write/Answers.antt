-- A write that is answered early, and for each sink one that comes to its end and one that fails.
use Rattle.std.proofs.Common.{refl, ◌∙◌}
use Rattle.asc_model.specs.Machine.{register, view_of}
use Rattle.asc_shape.specs.State.{memory_at}
use Rattle.asc_calls.specs.GuestCall.{Out, Err}
use Rattle.asc_calls.proofs.Requests.{device-out, device-err}
use Rattle.asc_calls.proofs.Serve.{DoesIo-out, DoesIo-err, Serves-write_early, Serves-write, Serves-write_fault, Serves-err_fault, buffer_is}
use Rattle.asc_calls.proofs.calls.write.Goals as goal

pub returns-in-Some-clause-served : goal.returns-in-Some-clause-served
returns-in-Some-clause-served g c = λ calls left before after.
    Serves-write_early c.args.state.now calls left _ _ _ c.reg-file.result before after c.reg-file.ensures _ _ c.in-Some.answer _ c.is_output.result c.requires c.is_output.ensures c.in-Some.ensures
    c.go_on.ensures.state c.go_on.ensures.steps c.go_on.ensures.went

pub returns-in-Ok-clause-served : goal.returns-in-Ok-clause-served
returns-in-Ok-clause-served g c = λ calls left before after.
    let s = c.args.state.now in
    let piece = buffer_is s c.mem-bytes.result.now c.reg.result c.reg-n.result (register (view_of s) 11) (register (view_of s) 12) c.mem-bytes.ensures.bytes c.reg.ensures c.reg-n.ensures in
    Serves-write c.args.state.now calls left _ _ _ c.reg-file.result before after c.reg-file.ensures _ _ _ _ c.reg-n.result _ c.is_output.result Out c.requires c.is_output.ensures c.in_default.ensures
    (device-out c.reg-file.result c.if-file-eq1.true) refl
    (DoesIo-out left _ _ _ _ _ before after c.mem-bytes.result.now (memory_at s (register (view_of s) 11) (register (view_of s) 12)) piece c.in-Ok.ensures.all)
    c.reg-n.ensures c.go_on-in-Ok.ensures.state c.go_on-in-Ok.ensures.steps c.go_on-in-Ok.ensures.went

pub returns-in-Err-clause-served : goal.returns-in-Err-clause-served
returns-in-Err-clause-served g c = λ calls left before after.
    let s = c.args.state.now in
    let piece = buffer_is s c.mem-bytes.result.now c.reg.result c.reg-n.result (register (view_of s) 11) (register (view_of s) 12) c.mem-bytes.ensures.bytes c.reg.ensures c.reg-n.ensures in
    Serves-write_fault c.args.state.now calls left _ _ _ c.reg-file.result before after c.reg-file.ensures c.mem-bytes.result.now _ c.is_output.result c.requires c.is_output.ensures c.in_default.ensures
    (device-out c.reg-file.result c.if-file-eq1.true) piece (c.mem-bytes.ensures.len ∙ c.reg-n.ensures) c.in-Err.ensures.part

pub returns-in-Ok-put_all-clause-served : goal.returns-in-Ok-put_all-clause-served
returns-in-Ok-put_all-clause-served g c = λ calls left before after.
    let s = c.args.state.now in
    let piece = buffer_is s c.mem-bytes.result.now c.reg.result c.reg-n.result (register (view_of s) 11) (register (view_of s) 12) c.mem-bytes.ensures.bytes c.reg.ensures c.reg-n.ensures in
    Serves-write c.args.state.now calls left _ _ _ c.reg-file.result before after c.reg-file.ensures _ _ _ _ c.reg-n.result _ c.is_output.result Err c.requires c.is_output.ensures c.in_default.ensures
    (device-err c.reg-file.result c.if-file-eq1.false) refl
    (DoesIo-err left _ _ _ _ _ before after c.mem-bytes.result.now (memory_at s (register (view_of s) 11) (register (view_of s) 12)) piece c.in-Ok-put_all.ensures.all)
    c.reg-n.ensures c.go_on-in-Ok-put_all.ensures.state c.go_on-in-Ok-put_all.ensures.steps c.go_on-in-Ok-put_all.ensures.went

pub returns-in-Err-put_all-clause-served : goal.returns-in-Err-put_all-clause-served
returns-in-Err-put_all-clause-served g c = λ calls left before after.
    let s = c.args.state.now in
    let piece = buffer_is s c.mem-bytes.result.now c.reg.result c.reg-n.result (register (view_of s) 11) (register (view_of s) 12) c.mem-bytes.ensures.bytes c.reg.ensures c.reg-n.ensures in
    Serves-err_fault c.args.state.now calls left _ _ _ c.reg-file.result before after c.reg-file.ensures c.mem-bytes.result.now _ c.is_output.result c.requires c.is_output.ensures c.in_default.ensures
    (device-err c.reg-file.result c.if-file-eq1.false) piece (c.mem-bytes.ensures.len ∙ c.reg-n.ensures) c.in-Err-put_all.ensures.part
