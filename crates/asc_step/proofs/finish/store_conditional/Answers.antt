use Rattle.asc_step.proofs.Settling.{puts_settled-reads}
use Rattle.std.proofs.Common.{[], ◌∷◌, ◌++◌, arith, refl, ap, sym, ◌∙◌, length, subst, true, false, not}
use Rattle.asc_model.specs.State.{State}
use Rattle.asc_model.specs.Number.{bytes_of}
use Rattle.asc_model.specs.Machine.{Pc, Register, Memory, release}
use Rattle.asc_model.specs.Arithmetic.{◌+w◌, one_if}
use Rattle.asc_model.specs.Effect.{StoreConditional}
use Rattle.asc_model.specs.declared.fault.FaultKind.TheVariants.{StoreOutside}
use Rattle.asc_step.specs.Execute.{Puts}
use Rattle.asc_step.proofs.Rooms.{room_after_reads, room_after_go_on, room_after_release}
use Rattle.asc_step.proofs.Effects.{finishes_store_conditional, fails_atomic, faulted, placed, puts_then, puts_memory, shape_puts, shape_reads, length_puts, length-IsState, place-within, atomic_holds, touched_after_reads}
use Rattle.asc_step.proofs.finish.store_conditional.Goals as goal

pub returns-in-Some : goal.returns-in-Some
returns-in-Some g c =
    fails_atomic _ c.args.pc c.args.rd (StoreConditional c.args.address c.args.value) StoreOutside _ c.args.address _ _ _ c.requires.at refl refl
    (faulted _ _ StoreOutside _ _ c.in-Some.ensures c.requires.shape) c.fault.ensures

pub go_on-requires-clause-touched : goal.go_on-requires-clause-touched
go_on-requires-clause-touched g c = touched_after_reads _ _ _ _ c.is_reserved-reserved.ensures.face c.requires.at.touched

pub go_on-requires-clause-room : goal.go_on-requires-clause-room
go_on-requires-clause-room g c = omega (arith, room_after_reads _ _ _ c.is_reserved-reserved.ensures.face)

pub release-requires-clause-room : goal.release-requires-clause-room
release-requires-clause-room g c =
    let touched = touched_after_reads _ _ _ _ c.is_reserved-reserved.ensures.face c.requires.at.touched in
    omega (arith, room_after_reads _ _ _ c.is_reserved-reserved.ensures.face, room_after_go_on _ _ (c.args.pc +w 4) c.args.rd c.one_if.result c.go_on.ensures touched)

pub put_word-requires-clause-room : goal.put_word-requires-clause-room
put_word-requires-clause-room g c =
    let touched = touched_after_reads _ _ _ _ c.is_reserved-reserved.ensures.face c.requires.at.touched in
    omega (
      arith,
      room_after_reads _ _ _ c.is_reserved-reserved.ensures.face,
      room_after_go_on _ _ (c.args.pc +w 4) c.args.rd c.one_if.result c.go_on.ensures touched,
      room_after_release _ _ c.release.ensures,
    )

pub release-requires-clause-length : goal.release-requires-clause-length
release-requires-clause-length g c =
    let list = Pc (c.args.pc +w 4) ∷ Register c.args.rd c.one_if.result ∷ [] in
    omega (arith, length-IsState _ c.requires.at.state, ap (λ (s : State). length s.bytes) c.is_reserved-reserved.ensures.state, length_puts _ _ list c.go_on.ensures)

pub put_word-requires-clause-place : goal.put_word-requires-clause-place
put_word-requires-clause-place g c =
    let list = Pc (c.args.pc +w 4) ∷ Register c.args.rd c.one_if.result ∷ [] in
    let shape = c.requires.shape in
    let clear = faulted _ _ StoreOutside _ _ c.in_default.ensures shape in
    let within = place-within (g.B.Bytes.face c.args.bytes.now) c.args.address 4 _ c.requires.at.state (atomic_holds (g.B.Bytes.face c.args.bytes.now).state.shape StoreOutside c.args.address clear) (placed _ _ _ _ c.place_of.ensures shape) in
    omega (arith, within, ap (λ (s : State). length s.bytes) c.is_reserved-reserved.ensures.state, length_puts _ _ list c.go_on.ensures, length_puts _ _ (release ∷ []) c.release.ensures)

pub returns-then-reserved : goal.returns-then-reserved
returns-then-reserved g c =
    let pc = c.args.pc in
    let rd = c.args.rd in
    let f1 = g.B.Bytes.face c.is_reserved-reserved.new.bytes in
    let f2 = g.B.Bytes.face c.go_on.new.bytes in
    let list = Pc (pc +w 4) ∷ Register rd 0 ∷ [] in
    let shape = c.requires.shape in
    let answered = subst (λ v. Puts f1 f2 (Pc (pc +w 4) ∷ Register rd v ∷ [])) (c.one_if.ensures ∙ ap (λ b. one_if (not b)) c.if-reserved.true) c.go_on.ensures in
    let released = puts_then _ _ _ list (release ∷ []) answered c.release.ensures in
    let place = placed _ _ _ _ c.place_of.ensures (shape ∙ sym (shape_reads _ _ _ c.is_reserved-reserved.ensures.face) ∙ sym (shape_puts _ _ (list ++ release ∷ []) released)) in
    let stored = puts_memory _ _ _ c.args.address (bytes_of 4 c.args.value) place c.put_word.ensures.face in
    finishes_store_conditional _ f1 _ pc rd c.args.address c.args.value true _ c.requires.at (faulted _ _ StoreOutside _ _ c.in_default.ensures shape)
    (sym c.if-reserved.true ∙ c.is_reserved-reserved.ensures.value) c.is_reserved-reserved.ensures.face
    (puts_then _ _ _ (list ++ release ∷ []) (Memory c.args.address (bytes_of 4 c.args.value) ∷ []) released stored) refl

pub returns-else-reserved : goal.returns-else-reserved
returns-else-reserved g c =
    let pc = c.args.pc in
    let rd = c.args.rd in
    let f1 = g.B.Bytes.face c.is_reserved-reserved.new.bytes in
    let f2 = g.B.Bytes.face c.go_on.new.bytes in
    let list = Pc (pc +w 4) ∷ Register rd 1 ∷ [] in
    let answered = subst (λ v. Puts f1 f2 (Pc (pc +w 4) ∷ Register rd v ∷ [])) (c.one_if.ensures ∙ ap (λ b. one_if (not b)) c.if-reserved.false) c.go_on.ensures in
    finishes_store_conditional _ f1 _ pc rd c.args.address c.args.value false _ c.requires.at
    (faulted _ _ StoreOutside _ _ c.in_default.ensures c.requires.shape)
    (sym c.if-reserved.false ∙ c.is_reserved-reserved.ensures.value) c.is_reserved-reserved.ensures.face
    (puts_then _ _ _ list (release ∷ []) answered c.release.ensures) refl

pub go_on-requires-clause-settled : goal.go_on-requires-clause-settled
go_on-requires-clause-settled g c = puts_settled-reads _ _ _ c.args.rd _ c.is_reserved-reserved.ensures.face c.requires.settled
