-- The calls that ask no device.
use Rattle.std.proofs.Common.{◌<◌, ◌≤◌, ◌⊎◌, refl, sym, subst, arith}
use Rattle.asc_calls.specs.World.{CallState, outside_of, world_in}
use Rattle.asc_calls.specs.Serving.{Serves}
use Rattle.asc_calls.proofs.Serve.{Serves-break, Serves-exit, Serves-unknown}
use Rattle.asc_calls.proofs.calls.Calls.serve.Goals as goal

pub returns-in-214-clause-served : goal.returns-in-214-clause-served
returns-in-214-clause-served g c =
    let answer = c.move_break-answer.result in
    subst (λ (k : CallState). Serves (world_in c.args.state.now c.args.self.now (outside_of c.args.devices.now c.args.steps.now))
    (world_in c.go_on.new.state k (outside_of c.args.devices.now c.go_on.new.steps)) c.go_on.result)
    (sym c.move_break-answer.ensures.brk)
    (Serves-break c.args.state.now _ c.args.self.now answer _ _ _ _ _ answer _ _ c.go_on.ensures.state c.go_on.ensures.steps _ c.go_on.ensures.went
    c.reg.result c.reg-in-214.result c.reg.ensures c.reg-in-214.ensures c.in-214.is c.move_break-answer.ensures.answer refl)

pub returns-in-93-clause-served : goal.returns-in-93-clause-served
returns-in-93-clause-served g c = Serves-exit _ _ _ _ _ _ _ c.reg.result c.reg-in-93.result _ _ c.reg.ensures c.reg-in-93.ensures (omega arith) (omega arith) (omega arith)

pub returns-in_default-clause-served : goal.returns-in_default-clause-served
returns-in_default-clause-served g c =
    let other : (c.reg.result < 93) ⊎ (95 ≤ c.reg.result) = grind arith in
    Serves-unknown c.args.state.now _ c.args.self.now _ _ _ _ _ c.reg.result c.wrapping_neg.result _ _ _ c.go_on-in_default.ensures.went c.reg.ensures (omega arith) (omega arith) other (omega arith)
    c.wrapping_neg.type_inv c.wrapping_neg.ensures c.go_on-in_default.ensures.state c.go_on-in_default.ensures.steps
