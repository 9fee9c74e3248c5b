use Rattle.std.proofs.Common.{◌≡◌, ◌≤◌, ◌+◌, ◌%◌, ◌^◌, ◌++◌, ◌∷◌, [], ◌∙◌, List, length, map, refl, sym, ap, subst, arith}
use Rattle.std.specs.Arc.{arc_value}
use Rattle.std.specs.List.{insert}
use Rattle.std.specs.Result.{is_ok}
use Rattle.std.proofs.lemmas.Bool.{cond-true}
use Rattle.std.proofs.lemmas.List.{length-map, map_push}
use Rattle.asc_model.specs.Entry.{Entry, IsTrueEntry}
use Rattle.asc_shard.specs.declared.index.Index.{Index}
use Rattle.asc_shard.specs.declared.key.Key.{Key}
use Rattle.asc_shard.specs.Inside.{IsIndexed, runs}
use Rattle.asc_shard.proofs.Runs.{heads-few}
use Rattle.asc_shard.proofs.Placing.{beginning-range, indexed-added, prints-size, size, total-size}
use Rattle.asc_shard.proofs.index.add.Goals.{After-deref}
use Rattle.asc_shard.proofs.index.add.Goals as goal

-- the place is one of the index, or its end
most : (c : After-deref) → c.args.place.at ≤ length (map arc_value c.args.entries.now.items)
most c = omega (arith, c.requires.place.most, (beginning-range c.requires.index (arc_value c.args.entry) c.requires.place.beginning).1)

pub insert-requires : goal.insert-requires
insert-requires c = omega (arith, most (goal.at.insert-requires c).After-deref, size c.requires.index, c.args.index.now.numbers.ok)

pub insert-requires-2 : goal.insert-requires-2
insert-requires-2 c = omega (arith, most (goal.at.insert-requires-2 c).After-deref, prints-size c.requires.index, c.args.index.now.prints.ok)

pub raise-requires-clause-room : goal.raise-requires-clause-room
raise-requires-clause-room c =
    let heads = c.args.index.now.heads in
    let few = heads-few heads.items c.requires.index.heads.some in
    let same = length-map c.args.entries.now.items arc_value in
    omega (arith, few, total-size c.requires.index, heads.ok, same, c.args.entries.now.ok, c.requires.heads_room)

pub raise-requires-clause-few : goal.raise-requires-clause-few
raise-requires-clause-few c = omega (arith, total-size c.requires.index, c.requires.index.few)

pub returns-clause-index : goal.returns-clause-index
returns-clause-index c =
    let items = c.args.entries.now.items in
    let held = map arc_value items in
    let index = c.args.index.now in
    let e : Entry = arc_value c.args.entry in
    let place = c.args.place in
    let at = c.requires.place in
    let same = length-map items arc_value in
    let truth : IsTrueEntry e = subst IsTrueEntry c.deref.ensures c.truth.ensures in
    let new : map arc_value c.push_reserved.new.self.items ≡ held ++ e ∷ [] = ap (map arc_value) c.push_reserved.ensures.items ∙ map_push arc_value items c.args.entry in
    let number : (index.oldest + c.len.result) % 2 ^ 32 ≡ (index.oldest + length held) % 2 ^ 32 =
    ap (λ n. (index.oldest + n) % 2 ^ 32) (omega (arith, c.len.ensures, same, c.args.entries.now.ok)) in
    let numbers = c.insert.ensures.items
    ∙ cond-true (is_ok c.insert.result) _ _ (c.insert.ensures.succeeds (omega (arith, c.requires.numbers_room, size c.requires.index, index.numbers.ok, same, c.args.entries.now.ok)))
    ∙ ap (insert index.numbers.items place.at) number in
    let prints = c.insert-2.ensures.items
    ∙ cond-true (is_ok c.insert-2.result) _ _ (c.insert-2.ensures.succeeds (omega (arith, c.requires.prints_room, prints-size c.requires.index, index.prints.ok, same, c.args.entries.now.ok)))
    ∙ ap (λ (m : Key). insert index.prints.items place.at m.print) c.requires.key in
    let masks = c.raise.ensures.runs place.at at.least at.most ∙ ap (λ (m : Key). insert (runs index.heads.items) place.at m.mask) c.requires.key in
    let index_now : Index = record { oldest = index.oldest; numbers = c.insert.new.self; prints = c.insert-2.new.self; heads = c.raise.new.heads } in
    subst (λ (list : List Entry). IsIndexed list index_now) (sym new)
    (indexed-added held index index_now e place c.requires.index truth at c.requires.apart
    (omega (arith, c.requires.few, same, c.args.entries.now.ok)) refl numbers prints masks c.raise.ensures.heads)
