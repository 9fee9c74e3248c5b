use Rattle.asc_step.proofs.Settling.{runs_puts, runs_second}
use Rattle.std.proofs.Common.{arith}
use Rattle.asc_step.proofs.Touches.{execute_face}
use Rattle.asc_step.proofs.Rooms.{room_after_register}
use Rattle.asc_step.proofs.Effects.{at_after_reads}
use Rattle.asc_step.proofs.execute.execute.Goals as goal

pub finish-requires-clause-at : goal.finish-requires-clause-at
finish-requires-clause-at g c =
    at_after_reads _ _ _ _ c.register-b.ensures.face (at_after_reads _ _ _ _ c.register-a.ensures.face c.requires.at)

pub register-b-requires-clause-room : goal.register-b-requires-clause-room
register-b-requires-clause-room g c = omega (arith, room_after_register _ _ _ c.register-a.ensures.face)

pub finish-requires-clause-room : goal.finish-requires-clause-room
finish-requires-clause-room g c = omega (arith, room_after_register _ _ _ c.register-a.ensures.face, room_after_register _ _ _ c.register-b.ensures.face)

pub returns-clause-face : goal.returns-clause-face
returns-clause-face g c =
    let p = c.split-op.result in
    let e = c.split-op.ensures in
    execute_face _ _ _ _ c.args.instruction _ p.op _ _ _ p.rd p.rs1 p.rs2 p.immediate
    (record { op = e.op; rd = e.rd; rs1 = e.rs1; rs2 = e.rs2; immediate = e.immediate })
    c.requires.at.pc c.register-a.ensures.value c.register-b.ensures.value c.register-a.ensures.face c.register-b.ensures.face
    c.effect_of-effect.ensures c.finish.ensures.face

pub register-b-requires-clause-settled : goal.register-b-requires-clause-settled
register-b-requires-clause-settled g c = runs_second _ _ _ c.args.instruction _ _ c.register-a.ensures.face c.split-op.ensures.rs2 c.requires.settled

pub finish-requires-clause-settled : goal.finish-requires-clause-settled
finish-requires-clause-settled g c = runs_puts _ _ _ _ c.args.instruction _ _ _ c.register-a.ensures.face c.register-b.ensures.face c.split-op.ensures.rd c.requires.settled
