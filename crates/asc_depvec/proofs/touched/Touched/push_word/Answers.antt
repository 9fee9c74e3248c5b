use Rattle.std.proofs.Common.{List, ℕ, length, ap, arith}
use Rattle.asc_model.specs.Places.{places_from}
use Rattle.asc_depvec.proofs.Items.{item_of_word}
use Rattle.asc_depvec.proofs.Listed.{IsTouched-push, room_left}
use Rattle.asc_depvec.proofs.touched.Touched.push_word.Goals as goal

pub put_item-requires : goal.put_item-requires
put_item-requires c =
    omega (arith, room_left c.self.inside c.args.self.now 4 c.self.view_is c.self.invariant c.requires.room, ap (λ (l : List ℕ). length l) c.deref_mut.ensures.value)

pub invariant_of-self : goal.invariant_of-self
invariant_of-self c =
    IsTouched-push c.self.inside c.args.self.now c.deref_mut.result.now c.put_item.new.items (places_from c.args.place 4) _ c.self.view_is c.self.invariant c.requires.room (omega arith)
    c.deref_mut.ensures.value c.put_item.auto.items c.put_item.ensures (item_of_word c.args.place)
