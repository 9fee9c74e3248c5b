use Rattle.std.proofs.Common.{rules, sym, ◌∙◌, ap, subst, ◌≡◌, false, length, arith, map, List, ◌++◌, ◌∷◌, [], Global}
use Rattle.std.specs.Arc.{arc_value}
use Rattle.std.specs.List.{list_any, remove}
use Rattle.std.specs.declared.sync.Arc.{Arc}
use Rattle.std.proofs.lemmas.List.{length_push}
use Rattle.std.proofs.lemmas.List.Edits.{length-remove}
use Rattle.asc_model.specs.Entry.{Entry}
use Rattle.asc_shard.specs.Content.{AreApart, is_same_entry}
use Rattle.asc_shard.proofs.Adding.{apart-pushed, apart-without}
use Rattle.asc_shard.proofs.shard.Shard.insert.Goals as goal

pub invariant_of-self : goal.invariant_of-self
invariant_of-self c =
    let held = c.self.inside.entries.items in
    let e = c.args.entry in
    let v = c.self.invariant in
    let new : list_any (is_same_entry (arc_value e)) (map arc_value held) ≡ false = search rules in
    let all = held ++ e ∷ [] in
    let left : c.forget_oldest.new.entries.items ≡ remove all 0 = c.forget_oldest.ensures.entries ∙ ap (λ (list : List (Arc Entry Global)). remove list 0) c.add.ensures.entries in
    let long = length_push held e in
    let first = c.add.ensures.rooms in
    let second = c.forget_oldest.ensures.rooms in (
      omega (arith, ap length left, length-remove all 0 (omega (arith, long)), long, v.0),
      v.1,
      v.2,
      omega (arith, c.forget_oldest.ensures.capacity, c.add.ensures.capacity, v.3),
      omega (arith, first.0, second.0, v.4),
      omega (arith, first.1, second.1, v.5),
      omega (arith, first.2, second.2, v.6),
      subst (λ (list : List (Arc Entry Global)). AreApart (map arc_value list)) (sym left) (apart-without all (apart-pushed held e v.7 new)),
      c.forget_oldest.ensures.index,
    )

pub invariant_of-self-else-len-self : goal.invariant_of-self-else-len-self
invariant_of-self-else-len-self c =
    let held = c.self.inside.entries.items in
    let e = c.args.entry in
    let v = c.self.invariant in
    let new : list_any (is_same_entry (arc_value e)) (map arc_value held) ≡ false = search rules in
    let first = c.add.ensures.rooms in (
      omega (arith, c.if-len-self.false, c.len.ensures, c.add.new.entries.ok),
      v.1,
      v.2,
      omega (arith, c.add.ensures.capacity, v.3),
      omega (arith, first.0, v.4),
      omega (arith, first.1, v.5),
      omega (arith, first.2, v.6),
      subst (λ (list : List (Arc Entry Global)). AreApart (map arc_value list)) (sym c.add.ensures.entries) (apart-pushed held e v.7 new),
      c.add.ensures.index,
    )
