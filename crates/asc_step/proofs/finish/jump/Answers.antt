use Rattle.asc_step.proofs.Settling.{puts_settled-puts}
use Rattle.std.proofs.Common.{[], ◌∷◌, arith, refl, sym, ◌∙◌}
use Rattle.asc_model.specs.Machine.{Pc, Register}
use Rattle.asc_model.specs.Arithmetic.{◌+w◌}
use Rattle.asc_step.proofs.Effects.{finishes_jump, fails_jump, puts_then, length_puts}
use Rattle.asc_step.proofs.Rooms.{room_after_pc}
use Rattle.asc_step.proofs.finish.jump.Goals as goal

pub returns-then-not-is_aligned : goal.returns-then-not-is_aligned
returns-then-not-is_aligned g c = fails_jump _ _ _ _ c.requires.at _ (sym c.is_aligned.ensures ∙ c.if-not-is_aligned.true) c.fault.ensures

pub set_register-requires-clause-room : goal.set_register-requires-clause-room
set_register-requires-clause-room g c = omega (arith, room_after_pc _ _ c.args.target c.set_pc.ensures c.requires.at.touched)

pub set_register-requires-clause-length : goal.set_register-requires-clause-length
set_register-requires-clause-length g c = omega (arith, length_puts _ _ (Pc c.args.target ∷ []) c.set_pc.ensures)

pub returns : goal.returns
returns g c =
    finishes_jump _ _ _ _ c.requires.at _ _ (sym c.is_aligned.ensures ∙ c.if-not-is_aligned.false)
    (puts_then _ _ _ (Pc c.args.target ∷ []) (Register c.args.rd (c.args.pc +w 4) ∷ []) c.set_pc.ensures c.set_register.ensures) refl

pub set_register-requires-clause-settled : goal.set_register-requires-clause-settled
set_register-requires-clause-settled g c told = (puts_settled-puts _ _ _ c.args.rd (Pc c.args.target ∷ []) c.set_pc.ensures c.requires.settled told).1
