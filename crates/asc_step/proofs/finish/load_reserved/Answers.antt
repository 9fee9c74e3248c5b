use Rattle.asc_step.proofs.Settling.{puts_settled-reads}
use Rattle.std.proofs.Common.{[], ◌∷◌, arith, refl, ap, length}
use Rattle.asc_model.specs.State.{State}
use Rattle.asc_model.specs.Machine.{Pc, Register, reserve}
use Rattle.asc_model.specs.Arithmetic.{◌+w◌}
use Rattle.asc_model.specs.Effect.{LoadReserved}
use Rattle.asc_model.specs.declared.fault.FaultKind.TheVariants.{LoadOutside}
use Rattle.asc_step.proofs.Effects.{finishes_load_reserved, fails_atomic, faulted, placed, puts_then, length_puts, touched_after_reads, length-IsState}
use Rattle.asc_step.proofs.Rooms.{room_after_word, room_after_go_on}
use Rattle.asc_step.proofs.finish.load_reserved.Goals as goal

pub returns-in-Some : goal.returns-in-Some
returns-in-Some g c =
    fails_atomic _ c.args.pc c.args.rd (LoadReserved c.args.address) LoadOutside _ c.args.address _ _ _ c.requires.at refl refl
    (faulted _ _ LoadOutside _ _ c.in-Some.ensures c.requires.shape) c.fault.ensures

pub go_on-requires-clause-touched : goal.go_on-requires-clause-touched
go_on-requires-clause-touched g c = touched_after_reads _ _ _ _ c.read_word-old.ensures.face c.requires.at.touched

pub go_on-requires-clause-room : goal.go_on-requires-clause-room
go_on-requires-clause-room g c = omega (arith, room_after_word _ _ _ c.read_word-old.ensures.face)

pub reserve-requires-clause-room : goal.reserve-requires-clause-room
reserve-requires-clause-room g c =
    let touched = touched_after_reads _ _ _ _ c.read_word-old.ensures.face c.requires.at.touched in
    omega (arith, room_after_word _ _ _ c.read_word-old.ensures.face, room_after_go_on _ _ (c.args.pc +w 4) c.args.rd c.read_word-old.result c.go_on.ensures touched)

pub reserve-requires-clause-length : goal.reserve-requires-clause-length
reserve-requires-clause-length g c =
    let list = Pc (c.args.pc +w 4) ∷ Register c.args.rd c.read_word-old.result ∷ [] in
    omega (arith, length-IsState _ c.requires.at.state, ap (λ (s : State). length s.bytes) c.read_word-old.ensures.state, length_puts _ _ list c.go_on.ensures)

pub returns : goal.returns
returns g c =
    let list = Pc (c.args.pc +w 4) ∷ Register c.args.rd c.read_word-old.result ∷ [] in
    finishes_load_reserved _ _ _ c.args.pc c.args.rd c.args.address _ c.read_word-old.result _ c.requires.at
    (faulted _ _ LoadOutside _ _ c.in_default.ensures c.requires.shape) (placed _ _ _ _ c.place_of.ensures c.requires.shape)
    c.read_word-old.ensures.value c.read_word-old.ensures.face
    (puts_then _ _ _ list (reserve c.args.address ∷ []) c.go_on.ensures c.reserve.ensures) refl

pub go_on-requires-clause-settled : goal.go_on-requires-clause-settled
go_on-requires-clause-settled g c = puts_settled-reads _ _ _ c.args.rd _ c.read_word-old.ensures.face c.requires.settled
