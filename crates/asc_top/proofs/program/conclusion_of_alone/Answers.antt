-- What a line comes to that asks for no worker.
use Rattle.std.proofs.Common.{◌≡◌, ◌∙◌, ◌||◌, ℕ, Bool, Ok, true, false, nat_lt, refl, ap, subst, sym, arith}
use Rattle.std.proofs.lemmas.Bool.Decides.{nat_tests}
use Rattle.asc_calls.specs.World.{Outside, faults, outside, outside_of, with_out}
use Rattle.asc_words.specs.declared.line.Line.{Line}
use Rattle.asc_words.specs.declared.line.Line.TheVariants as lines
use Rattle.asc_top.specs.Numbers.{asks_for_threads}
use Rattle.asc_top.specs.Answered.{IsAnswerFor, around}
use Rattle.asc_top.proofs.Lent.{over_devices}
use Rattle.asc_top.proofs.program.conclusion_of_alone.Goals as goal

neither : (a b : Bool) → (a || b) ≡ false → (a ≡ false) × (b ≡ false)
neither true b is = absurd (cc)
neither false b is = (refl, is)

none_of : (number : ℕ) → nat_lt 0 number ≡ false → number ≡ 0
none_of number none = grind (arith, nat_tests)

none_above : (workers lanes : ℕ) → (nat_lt 0 workers || nat_lt 0 lanes) ≡ false → (workers ≡ 0) × (lanes ≡ 0)
none_above workers lanes none =
    let parts = neither (nat_lt 0 workers) (nat_lt 0 lanes) none in (none_of workers parts.0, none_of lanes parts.1)

pub returns-in-Make : goal.returns-in-Make
returns-in-Make g c =
    let d = c.args.devices.now in
    let out = c.out_mut-in-Make.result.now in
    let new = around (g.F.Store.files c.args.store.now) (g.F.Store.asked c.args.store.now) (g.F.Store.faults c.args.store.now)
    (outside_of (with_out d c.make.new.out (g.O.Sink.given c.make.new.out) (g.O.Sink.faults c.make.new.out)) c.args.steps.now) in
    over_devices d (g.O.Sink.given out) (g.O.Sink.faults out) c.args.steps.now (λ (o : Outside). IsAnswerFor (Ok c.args.line)
    (around (g.F.Store.files c.args.store.now) (g.F.Store.asked c.args.store.now) (g.F.Store.faults c.args.store.now) o) new c.make.result)
    c.out_mut-in-Make.ensures.told c.out_mut-in-Make.ensures.faults
    (subst (λ (line : Line). IsAnswerFor (Ok line) (around (g.F.Store.files c.args.store.now) (g.F.Store.asked c.args.store.now) (g.F.Store.faults c.args.store.now)
    (outside d.told.left (g.O.Sink.given out) d.told.err c.args.steps.now (faults d.told.faults.input (g.O.Sink.faults out) d.told.faults.err))) new c.make.result)
    (sym c.in-Make.is) (c.make.ensures _ _ _ _ _ _ _ _))

pub returns-in-Trial : goal.returns-in-Trial
returns-in-Trial g c =
    let none = none_above c.in-Trial.workers c.in-Trial.lanes (ap asks_for_threads (sym c.in-Trial.is) ∙ c.requires.none) in
    let d = c.args.devices.now in
    let out = c.out_mut-in-Trial.result.now in
    let new = around (g.F.Store.files c.args.store.now) (g.F.Store.asked c.args.store.now) (g.F.Store.faults c.args.store.now)
    (outside_of (with_out d c.trial_alone.new.out (g.O.Sink.given c.trial_alone.new.out) (g.O.Sink.faults c.trial_alone.new.out)) c.trial_alone.new.steps) in
    over_devices d (g.O.Sink.given out) (g.O.Sink.faults out) c.args.steps.now (λ (o : Outside). IsAnswerFor (Ok c.args.line)
    (around (g.F.Store.files c.args.store.now) (g.F.Store.asked c.args.store.now) (g.F.Store.faults c.args.store.now) o) new c.trial_alone.result)
    c.out_mut-in-Trial.ensures.told c.out_mut-in-Trial.ensures.faults
    (subst (λ (line : Line). IsAnswerFor (Ok line) (around (g.F.Store.files c.args.store.now) (g.F.Store.asked c.args.store.now) (g.F.Store.faults c.args.store.now)
    (outside d.told.left (g.O.Sink.given out) d.told.err c.args.steps.now (faults d.told.faults.input (g.O.Sink.faults out) d.told.faults.err))) new c.trial_alone.result)
    (sym (c.in-Trial.is ∙ (λ i. lines.Trial c.in-Trial.n (none.0 i) (none.1 i)))) (c.trial_alone.ensures _ _ _ _ _ _ _))

pub returns-in-Save : goal.returns-in-Save
returns-in-Save g c =
    let d = c.args.devices.now in
    let out = c.out_mut.result.now in
    let new = around (g.F.Store.files c.save.new.store) (g.F.Store.asked c.save.new.store) (g.F.Store.faults c.save.new.store)
    (outside_of (with_out d c.save.new.out (g.O.Sink.given c.save.new.out) (g.O.Sink.faults c.save.new.out)) c.save.new.steps) in
    over_devices d (g.O.Sink.given out) (g.O.Sink.faults out) c.args.steps.now (λ (o : Outside). IsAnswerFor (Ok c.args.line)
    (around (g.F.Store.files c.args.store.now) (g.F.Store.asked c.args.store.now) (g.F.Store.faults c.args.store.now) o) new c.save.result)
    c.out_mut.ensures.told c.out_mut.ensures.faults
    (subst (λ (line : Line). IsAnswerFor (Ok line) (around (g.F.Store.files c.args.store.now) (g.F.Store.asked c.args.store.now) (g.F.Store.faults c.args.store.now)
    (outside d.told.left (g.O.Sink.given out) d.told.err c.args.steps.now (faults d.told.faults.input (g.O.Sink.faults out) d.told.faults.err))) new c.save.result)
    (sym c.in-Save.is) (c.save.ensures _ _ _ _))
