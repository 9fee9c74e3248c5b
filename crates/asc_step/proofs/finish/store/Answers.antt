use Rattle.std.proofs.Common.{[], ◌∷◌, arith, refl, sym, ◌∙◌}
use Rattle.asc_model.specs.Machine.{Pc, Memory}
use Rattle.asc_model.specs.Number.{bytes_of}
use Rattle.asc_model.specs.Arithmetic.{◌+w◌}
use Rattle.asc_step.specs.Effect.{bytes_in}
use Rattle.asc_step.proofs.Effects.{finishes_store, fails_store, tested, placed, puts_then, puts_memory, shape_puts, length_puts, place-within}
use Rattle.asc_step.proofs.Rooms.{room_after_pc}
use Rattle.asc_step.proofs.finish.store.Goals as goal

pub returns-then-not-holds : goal.returns-then-not-holds
returns-then-not-holds g c rd =
    fails_store _ _ rd _ _ c.args.value c.requires.at _ (tested _ _ _ _ _ _ _ c.holds.ensures c.requires.shape c.bytes.ensures c.if-not-holds.true) c.fault.ensures

pub put_number-requires-clause-room : goal.put_number-requires-clause-room
put_number-requires-clause-room g c = omega (arith, room_after_pc _ _ (c.args.pc +w 4) c.set_pc.ensures c.requires.at.touched)

pub put_number-requires-clause-place : goal.put_number-requires-clause-place
put_number-requires-clause-place g c =
    let within = place-within (g.B.Bytes.face c.args.bytes.now) c.args.address _ _ c.requires.at.state
    (tested _ _ _ _ _ _ _ c.holds.ensures c.requires.shape c.bytes.ensures c.if-not-holds.false)
    (placed _ _ _ _ c.place_of.ensures c.requires.shape) in
    omega (arith, within, length_puts _ _ (Pc (c.args.pc +w 4) ∷ []) c.set_pc.ensures)

pub returns : goal.returns
returns g c rd =
    let list = Pc (c.args.pc +w 4) ∷ [] in
    let bytes = bytes_of (bytes_in c.args.size) c.args.value in
    let place = placed _ _ _ _ c.place_of.ensures (c.requires.shape ∙ sym (shape_puts _ _ list c.set_pc.ensures)) in
    finishes_store _ _ rd _ c.args.address c.args.value c.requires.at _ _
    (tested _ _ _ _ _ _ _ c.holds.ensures c.requires.shape c.bytes.ensures c.if-not-holds.false)
    (puts_then _ _ _ list (Memory c.args.address bytes ∷ []) c.set_pc.ensures (puts_memory _ _ _ c.args.address bytes place c.put_number.ensures)) refl
