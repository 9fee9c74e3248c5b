use Rattle.std.proofs.Common.{◌∙◌, map, ap, arith}
use Rattle.std.specs.Arc.{arc_value}
use Rattle.std.specs.Ordering.{is_eq}
use Rattle.std.proofs.lemmas.Bool.{le-ltb}
use Rattle.asc_model.specs.Entry.{Entry}
use Rattle.asc_shard.specs.Inside.{IsBeginning, by_all, key_of, total}
use Rattle.asc_shard.proofs.Placing.{IsSought, alike, beginning-range, begins-of, own-up, placed, prints-size, same-here, same-nowhere, size, sought, total-size, within}
use Rattle.asc_shard.proofs.index.place_of.Goals.{After-beginning_of-beginning, After-range_of-low}
use Rattle.asc_shard.proofs.index.place_of.Goals as goal

pub beginning_of-beginning-requires-clause-few : goal.beginning_of-beginning-requires-clause-few
beginning_of-beginning-requires-clause-few c = omega (arith, ap total c.deref.ensures.value, total-size c.requires.index, c.requires.index.few)

-- where the entry's mask begins
begins : (c : After-beginning_of-beginning) → IsBeginning c.args.index.now.heads.items (key_of c.args.entry.now).mask c.beginning_of-beginning.result
begins c = begins-of c.requires.key c.deref.ensures.value c.beginning_of-beginning.ensures

-- and its fingerprint there
known : (c : After-range_of-low)
    → IsSought (map arc_value c.args.entries.now) c.args.index.now c.args.entry.now c.beginning_of-beginning.result c.range_of-low.result.0 c.range_of-low.result.1
known c = sought c.requires.index c.requires.key c.deref.ensures.value c.beginning_of-beginning.ensures
    c.range_of-low.ensures.range c.range_of-low.ensures.before c.range_of-low.ensures.inside c.range_of-low.ensures.behind

pub range_of-low-requires-clause-range : goal.range_of-low-requires-clause-range
range_of-low-requires-clause-range c =
    let bounds = beginning-range c.requires.index c.args.entry.now (begins (goal.at.range_of-low-requires-clause-range c).After-beginning_of-beginning) in
    (bounds.0, omega (arith, bounds.1, prints-size c.requires.index))

pub range_of-low-requires-clause-rise : goal.range_of-low-requires-clause-rise
range_of-low-requires-clause-rise c = own-up c.requires.index c.args.entry.now (begins (goal.at.range_of-low-requires-clause-rise c).After-beginning_of-beginning)

pub place_among-at-requires-clause-range : goal.place_among-at-requires-clause-range
place_among-at-requires-clause-range c =
    let k = known (goal.at.place_among-at-requires-clause-range c).After-range_of-low in
    (k.range.1, omega (arith, k.range.2, (within k).1, size c.requires.index, c.requires.index.entries.size))

pub place_among-at-requires-clause-keys : goal.place_among-at-requires-clause-keys
place_among-at-requires-clause-keys c = alike (known (goal.at.place_among-at-requires-clause-keys c).After-range_of-low)

pub entry-requires-clause-within : goal.entry-requires-clause-within
entry-requires-clause-within c =
    let k = known (goal.at.entry-requires-clause-within c).After-range_of-low in
    omega (arith, c.if-at-high.true, k.range.2, (within k).1, size c.requires.index, c.requires.index.entries.size)

pub compare_alike-requires : goal.compare_alike-requires
compare_alike-requires c =
    ap key_of c.entry.ensures ∙ alike (known (goal.at.compare_alike-requires c).After-range_of-low) c.place_among-at.result c.place_among-at.ensures.range.0 c.if-at-high.true

pub returns-then-at-high-clause-place : goal.returns-then-at-high-clause-place
returns-then-at-high-clause-place c =
    let e = c.place_among-at.ensures in
    placed (known (goal.at.returns-then-at-high-clause-place c).After-range_of-low) c.place_among-at.result e.range.0 e.range.1 e.before e.rest _

pub returns-else-at-high-clause-place : goal.returns-else-at-high-clause-place
returns-else-at-high-clause-place c =
    let e = c.place_among-at.ensures in
    placed (known (goal.at.returns-else-at-high-clause-place c).After-range_of-low) c.place_among-at.result e.range.0 e.range.1 e.before e.rest _

pub returns-then-at-high-clause-same : goal.returns-then-at-high-clause-same
returns-then-at-high-clause-same c =
    let e = c.place_among-at.ensures in
    same-here (known (goal.at.returns-then-at-high-clause-same c).After-range_of-low) c.place_among-at.result e.range.0 e.range.1 e.before e.rest c.is_eq-same.result c.if-at-high.true
    (c.is_eq-same.ensures ∙ ap is_eq c.compare_alike.ensures ∙ ap (λ (x : Entry). is_eq (by_all x c.args.entry.now)) c.entry.ensures)

pub returns-else-at-high-clause-same : goal.returns-else-at-high-clause-same
returns-else-at-high-clause-same c =
    let e = c.place_among-at.ensures in
    le-ltb c.place_among-at.result c.range_of-low.result.1 (omega (arith, c.if-at-high.false))
    ∙ same-nowhere (known (goal.at.returns-else-at-high-clause-same c).After-range_of-low) c.place_among-at.result e.range.0 e.range.1 e.before e.rest (omega (arith, c.if-at-high.false))
