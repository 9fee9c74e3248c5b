use Rattle.asc_step.proofs.Settling.{puts_settled-puts}
use Rattle.std.proofs.Common.{[], ◌∷◌, arith}
use Rattle.asc_model.specs.Machine.{Pc, Register}
use Rattle.asc_model.specs.Arithmetic.{◌+w◌}
use Rattle.asc_step.proofs.Effects.{puts_then, length_puts}
use Rattle.asc_step.proofs.Rooms.{room_after_pc}
use Rattle.asc_step.proofs.finish.go_on.Goals as goal

pub set_register-requires-clause-room : goal.set_register-requires-clause-room
set_register-requires-clause-room g c = omega (arith, room_after_pc _ _ (c.args.pc +w 4) c.set_pc.ensures c.requires.touched)

pub set_register-requires-clause-length : goal.set_register-requires-clause-length
set_register-requires-clause-length g c = omega (arith, length_puts _ _ (Pc (c.args.pc +w 4) ∷ []) c.set_pc.ensures)

pub returns : goal.returns
returns g c =
    puts_then _ _ _ (Pc (c.args.pc +w 4) ∷ []) (Register c.args.rd c.args.value ∷ []) c.set_pc.ensures c.set_register.ensures

pub set_register-requires-clause-settled : goal.set_register-requires-clause-settled
set_register-requires-clause-settled g c told = (puts_settled-puts _ _ _ c.args.rd (Pc (c.args.pc +w 4) ∷ []) c.set_pc.ensures c.requires.settled told).1
