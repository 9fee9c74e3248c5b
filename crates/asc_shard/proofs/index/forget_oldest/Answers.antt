use Rattle.std.proofs.Common.{◌≡◌, ◌+◌, ◌%◌, ◌∙◌, List, map, drop, refl, sym, ap, subst, arith}
use Rattle.std.specs.Arc.{arc_value}
use Rattle.std.proofs.lemmas.List.{drop-map, get_or-map, length-map}
use Rattle.asc_model.specs.Entry.{Entry}
use Rattle.asc_shard.specs.declared.index.Index.{Index}
use Rattle.asc_shard.specs.Inside.{IsBeginning, IsIndexed, key_of, no_entry, total}
use Rattle.asc_shard.proofs.Placing.{IsSought, beginning-range, begins-of, own-up, between, head-there, indexed-without, oldest-sought, prints-size, size, sought, total-size, within}
use Rattle.asc_shard.proofs.index.forget_oldest.Goals.{After-beginning_of-beginning, After-range_of-low}
use Rattle.asc_shard.proofs.index.forget_oldest.Goals as goal

pub beginning_of-beginning-requires-clause-few : goal.beginning_of-beginning-requires-clause-few
beginning_of-beginning-requires-clause-few c = omega (arith, ap total c.deref-2.ensures.value, total-size c.requires.index, c.requires.index.few)

-- where the mask of the oldest begins
begins : (c : After-beginning_of-beginning) → IsBeginning c.args.index.now.heads.items (key_of c.deref.result.now).mask c.beginning_of-beginning.result
begins c = begins-of c.key_of-key.ensures c.deref-2.ensures.value c.beginning_of-beginning.ensures

-- and its fingerprint there
known : (c : After-range_of-low)
    → IsSought (map arc_value c.args.entries.now.items) c.args.index.now c.deref.result.now c.beginning_of-beginning.result c.range_of-low.result.0 c.range_of-low.result.1
known c = sought c.requires.index c.key_of-key.ensures c.deref-2.ensures.value c.beginning_of-beginning.ensures
    c.range_of-low.ensures.range c.range_of-low.ensures.before c.range_of-low.ensures.inside c.range_of-low.ensures.behind

pub range_of-low-requires-clause-range : goal.range_of-low-requires-clause-range
range_of-low-requires-clause-range c =
    let bounds = beginning-range c.requires.index c.deref.result.now (begins (goal.at.range_of-low-requires-clause-range c).After-beginning_of-beginning) in
    (bounds.0, omega (arith, bounds.1, prints-size c.requires.index))

pub range_of-low-requires-clause-rise : goal.range_of-low-requires-clause-rise
range_of-low-requires-clause-rise c = own-up c.requires.index c.deref.result.now (begins (goal.at.range_of-low-requires-clause-rise c).After-beginning_of-beginning)

pub place_of_oldest-at-requires-clause-range : goal.place_of_oldest-at-requires-clause-range
place_of_oldest-at-requires-clause-range c =
    let k = known (goal.at.place_of_oldest-at-requires-clause-range c).After-range_of-low in
    omega (arith, k.range.2, (within k).1, c.requires.index.entries.size)

pub place_of_oldest-at-requires-clause-there : goal.place_of_oldest-at-requires-clause-there
place_of_oldest-at-requires-clause-there c =
    let items = c.args.entries.now.items in
    oldest-sought (known (goal.at.place_of_oldest-at-requires-clause-there c).After-range_of-low)
    (c.deref.ensures ∙ ap arc_value c.index.ensures ∙ sym (get_or-map arc_value items 0 c.index.result.now no_entry c.requires.some)) (omega (arith, c.requires.some, length-map items arc_value))

pub remove-requires : goal.remove-requires
remove-requires c =
    let at = between (known (goal.at.remove-requires c).After-range_of-low) c.place_of_oldest-at.result c.place_of_oldest-at.ensures.range in
    omega (arith, at.2, size c.requires.index, c.args.index.now.numbers.ok)

pub remove-requires-2 : goal.remove-requires-2
remove-requires-2 c =
    let at = between (known (goal.at.remove-requires-2 c).After-range_of-low) c.place_of_oldest-at.result c.place_of_oldest-at.ensures.range in
    omega (arith, at.2, prints-size c.requires.index, c.args.index.now.prints.ok)

pub lower-requires-clause-some : goal.lower-requires-clause-some
lower-requires-clause-some c =
    let at = between (known (goal.at.lower-requires-clause-some c).After-range_of-low) c.place_of_oldest-at.result c.place_of_oldest-at.ensures.range in
    (head-there c.place_of_oldest-at.result (begins (goal.at.lower-requires-clause-some c).After-beginning_of-beginning) at.0 at.1).0

pub returns-clause-index : goal.returns-clause-index
returns-clause-index c =
    let held = map arc_value c.args.entries.now.items in
    let index = c.args.index.now in
    let place = c.place_of_oldest-at.result in
    let at = between (known (goal.at.returns-clause-index c).After-range_of-low) c.place_of_oldest-at.result c.place_of_oldest-at.ensures.range in
    let head = head-there place (begins (goal.at.returns-clause-index c).After-beginning_of-beginning) at.0 at.1 in
    let new : Index = record { oldest = (index.oldest + 1) % 4294967296; numbers = c.remove.new.self; prints = c.remove-2.new.self; heads = c.lower.new.heads } in
    let left : map arc_value c.remove-3.new.self.items ≡ drop 1 held = ap (map arc_value) c.remove-3.ensures.items ∙ sym (drop-map arc_value 1 c.args.entries.now.items) in
    subst (λ (list : List Entry). IsIndexed list new) (sym left)
    (indexed-without held index new place c.requires.index at.2 c.place_of_oldest-at.ensures.oldest refl c.remove.ensures.items c.remove-2.ensures.items
    (c.lower.ensures.runs place head.1 head.2) c.lower.ensures.heads)
