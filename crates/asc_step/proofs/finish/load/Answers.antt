use Rattle.asc_step.proofs.Settling.{puts_settled-reads}
use Rattle.std.proofs.Common.{[], ◌∷◌, subst, refl, arith}
use Rattle.asc_model.specs.Machine.{Pc, Register}
use Rattle.asc_model.specs.Arithmetic.{◌+w◌}
use Rattle.asc_step.specs.Execute.{Puts}
use Rattle.asc_step.proofs.Effects.{finishes_load, fails_load, touched_after_reads, tested, placed}
use Rattle.asc_step.proofs.Rooms.{room_after_number}
use Rattle.asc_step.proofs.finish.load.Goals as goal

pub returns-then-not-holds : goal.returns-then-not-holds
returns-then-not-holds g c =
    fails_load _ _ _ _ _ _ c.requires.at _ (tested _ _ _ _ _ _ _ c.holds.ensures c.requires.shape c.bytes.ensures c.if-not-holds.true) c.fault.ensures

pub go_on-requires-clause-touched : goal.go_on-requires-clause-touched
go_on-requires-clause-touched g c = touched_after_reads _ _ _ _ c.read_number-number.ensures.face c.requires.at.touched

pub go_on-requires-clause-room : goal.go_on-requires-clause-room
go_on-requires-clause-room g c = omega (arith, room_after_number _ _ _ c.args.size c.read_number-number.ensures.face)

pub returns : goal.returns
returns g c =
    let f1 = g.B.Bytes.face c.read_number-number.new.bytes in
    let f2 = g.B.Bytes.face c.go_on.new.bytes in
    finishes_load _ _ _ _ c.args.signed c.args.address c.requires.at f1 f2 _ _ _
    (tested _ _ _ _ _ _ _ c.holds.ensures c.requires.shape c.bytes.ensures c.if-not-holds.false)
    (placed _ _ _ _ c.place_of.ensures c.requires.shape) c.read_number-number.ensures.value c.read_number-number.ensures.face
    (subst (λ v. Puts f1 f2 (Pc (c.args.pc +w 4) ∷ Register c.args.rd v ∷ [])) c.loaded_word.ensures c.go_on.ensures) refl

pub go_on-requires-clause-settled : goal.go_on-requires-clause-settled
go_on-requires-clause-settled g c = puts_settled-reads _ _ _ c.args.rd _ c.read_number-number.ensures.face c.requires.settled
