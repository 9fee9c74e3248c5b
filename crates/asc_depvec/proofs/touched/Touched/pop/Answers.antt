use Rattle.std.proofs.Common.{ℕ, ◌^◌, ◌<◌, List, length, ap, arith}
use Rattle.asc_depvec.proofs.Listed.{IsTouched-cut, IsTouched-word, cut_place, cut_word, last_low, room_three}
use Rattle.asc_depvec.proofs.touched.Touched.pop.Goals as goal

pub put_three-requires-clause-low : goal.put_three-requires-clause-low
put_three-requires-clause-low c =
    last_low c.self.inside c.args.self.now c.index-item.result.now (λ (place : ℕ). place < 2 ^ 30) c.self.view_is c.self.invariant c.requires.some c.index-item.ensures c.requires.low

pub put_three-requires-clause-room : goal.put_three-requires-clause-room
put_three-requires-clause-room c =
    omega (arith, room_three c.self.inside c.args.self.now c.index-item.result.now c.self.view_is c.self.invariant c.requires.some c.index-item.ensures c.if-item-eq1.true, ap (λ (l : List ℕ). length l) c.deref_mut.ensures.value)

pub invariant_of-self : goal.invariant_of-self
invariant_of-self c =
    IsTouched-word c.self.inside c.args.self.now c.deref_mut.result.now c.put_three.new.items c.index-item.result.now c.self.view_is c.self.invariant c.requires.some c.index-item.ensures c.if-item-eq1.true
    c.deref_mut.ensures.value c.put_three.auto.items c.put_three.ensures

pub invariant_of-self-else-item-eq1 : goal.invariant_of-self-else-item-eq1
invariant_of-self-else-item-eq1 c =
    IsTouched-cut c.self.inside c.args.self.now c.index-item.result.now c.self.view_is c.self.invariant c.requires.some c.index-item.ensures (omega (arith, c.if-item-eq1.false))

pub returns-then-item-eq1-clause-places : goal.returns-then-item-eq1-clause-places
returns-then-item-eq1-clause-places c =
    cut_word c.self.inside c.args.self.now c.deref_mut.result.now c.put_three.new.items c.index-item.result.now c.self.view_is c.self.invariant c.requires.some c.index-item.ensures c.if-item-eq1.true
    c.deref_mut.ensures.value c.put_three.auto.items c.put_three.ensures

pub returns-else-item-eq1-clause-places : goal.returns-else-item-eq1-clause-places
returns-else-item-eq1-clause-places c =
    cut_place c.self.inside c.args.self.now c.index-item.result.now c.self.view_is c.self.invariant c.requires.some c.index-item.ensures (omega (arith, c.if-item-eq1.false))
