use Rattle.asc_step.proofs.Settling.{puts_settled-reads}
use Rattle.std.proofs.Common.{[], ◌∷◌, arith, refl, ap, sym, ◌∙◌, length, subst}
use Rattle.asc_model.specs.State.{State}
use Rattle.asc_model.specs.Number.{bytes_of}
use Rattle.asc_model.specs.Machine.{Pc, Register, Memory}
use Rattle.asc_model.specs.Arithmetic.{◌+w◌}
use Rattle.asc_model.specs.Effect.{Modify}
use Rattle.asc_model.specs.declared.fault.FaultKind.TheVariants.{StoreOutside}
use Rattle.asc_step.specs.Effect.{changed}
use Rattle.asc_step.specs.Execute.{Puts}
use Rattle.asc_step.proofs.Rooms.{room_after_word, room_after_go_on}
use Rattle.asc_step.proofs.Effects.{finishes_modify, fails_atomic, faulted, placed, puts_then, puts_memory, shape_puts, shape_reads, length_puts, place-within, atomic_holds, touched_after_reads}
use Rattle.asc_step.proofs.finish.modify.Goals as goal

pub returns-in-Some : goal.returns-in-Some
returns-in-Some g c =
    fails_atomic _ c.args.pc c.args.rd (Modify c.args.address (λ old. changed c.args.amo old c.args.value)) StoreOutside _ c.args.address _ _ _ c.requires.at refl refl
    (faulted _ _ StoreOutside _ _ c.in-Some.ensures c.requires.shape) c.fault.ensures

pub go_on-requires-clause-touched : goal.go_on-requires-clause-touched
go_on-requires-clause-touched g c = touched_after_reads _ _ _ _ c.read_word-old.ensures.face c.requires.at.touched

pub go_on-requires-clause-room : goal.go_on-requires-clause-room
go_on-requires-clause-room g c = omega (arith, room_after_word _ _ _ c.read_word-old.ensures.face)

pub put_word-requires-clause-room : goal.put_word-requires-clause-room
put_word-requires-clause-room g c =
    let touched = touched_after_reads _ _ _ _ c.read_word-old.ensures.face c.requires.at.touched in
    omega (arith, room_after_word _ _ _ c.read_word-old.ensures.face, room_after_go_on _ _ (c.args.pc +w 4) c.args.rd c.read_word-old.result c.go_on.ensures touched)

pub put_word-requires-clause-place : goal.put_word-requires-clause-place
put_word-requires-clause-place g c =
    let list = Pc (c.args.pc +w 4) ∷ Register c.args.rd c.read_word-old.result ∷ [] in
    let shape = c.requires.shape in
    let clear = faulted _ _ StoreOutside _ _ c.in_default.ensures shape in
    let within = place-within (g.B.Bytes.face c.args.bytes.now) c.args.address 4 _ c.requires.at.state (atomic_holds (g.B.Bytes.face c.args.bytes.now).state.shape StoreOutside c.args.address clear) (placed _ _ _ _ c.place_of-place.ensures shape) in
    omega (arith, within, ap (λ (s : State). length s.bytes) c.read_word-old.ensures.state, length_puts _ _ list c.go_on.ensures)

pub returns : goal.returns
returns g c =
    let old = c.read_word-old.result in
    let list = Pc (c.args.pc +w 4) ∷ Register c.args.rd old ∷ [] in
    let shape = c.requires.shape in
    let f2 = g.B.Bytes.face c.go_on.new.bytes in
    let f3 = g.B.Bytes.face c.put_word.new.self in
    let place = placed _ _ _ _ c.place_of-place.ensures (shape ∙ sym (shape_reads _ _ _ c.read_word-old.ensures.face) ∙ sym (shape_puts _ _ list c.go_on.ensures)) in
    let stored = subst (λ v. Puts f2 f3 (Memory c.args.address (bytes_of 4 v) ∷ [])) c.changed.ensures (puts_memory f2 f3 _ c.args.address (bytes_of 4 c.changed.result) place c.put_word.ensures.face) in
    finishes_modify _ _ _ c.args.pc c.args.rd c.args.address _ old (λ old. changed c.args.amo old c.args.value) _ c.requires.at
    (faulted _ _ StoreOutside _ _ c.in_default.ensures shape) (placed _ _ _ _ c.place_of-place.ensures shape)
    c.read_word-old.ensures.value c.read_word-old.ensures.face
    (puts_then _ _ _ list (Memory c.args.address (bytes_of 4 (changed c.args.amo old c.args.value)) ∷ []) c.go_on.ensures stored) refl

pub go_on-requires-clause-settled : goal.go_on-requires-clause-settled
go_on-requires-clause-settled g c = puts_settled-reads _ _ _ c.args.rd _ c.read_word-old.ensures.face c.requires.settled
