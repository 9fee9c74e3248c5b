use Rattle.std.proofs.Common.{◌≡◌, ◌<◌, ◌≤◌, length, ◌∙◌, refl, map, sym, ap, subst, arith, rules}
use Rattle.std.specs.Arc.{arc_value}
use Rattle.asc_model.specs.Entry.{Entry}
use Rattle.asc_traj.specs.Content.{matches}
use Rattle.asc_shard.specs.Inside.{IsBest, IsMost, positions_of, sorted_of}
use Rattle.asc_shard.proofs.Slots.{nth, position-in, sorted-at}
use Rattle.asc_shard.proofs.Ranges.{best-longer, tail-rising}
use Rattle.asc_shard.proofs.find.search_group.Given.{Over}
use Rattle.asc_shard.proofs.find.search_group.Goals.{After-longer_of}
use Rattle.asc_shard.proofs.find.search_group.Goals as goal

pub last_match-requires-clause-group : goal.last_match-requires-clause-group
last_match-requires-clause-group g c =
    let same : c.shape.result ≡ c.shape-2.result = search rules in
    let shape = ap (λ (e : Entry). e.shape) (sym c.entry-first.ensures) ∙ sym c.shape.ensures ∙ same ∙ c.shape-2.ensures.shape in
    tail-rising (map arc_value c.args.entries.now) (positions_of c.args.index.now) c.args.state.now c.args.from c.args.end c.requires.index.entries c.requires.range.1 c.requires.keys c.requires.group shape

-- where it is of another shape none is compared
pub returns-then-ne-clause-probes : goal.returns-then-ne-clause-probes
returns-then-ne-clause-probes g c = (0, (0, omega (arith, c.requires.range.0), omega arith), refl)

-- the one that is found is the longest of the group, and no shorter than the best before
found : (g : Over) (c : After-longer_of g) → let held = map arc_value c.args.entries.now in
    IsBest held c.args.state.now c.args.left c.longer_of.result.position c.longer_of.result.steps
    × (c.args.best.steps ≤ c.longer_of.result.steps)
    × IsMost (sorted_of held (positions_of c.args.index.now)) c.args.state.now c.args.left c.args.from c.args.end c.longer_of.result.steps
found g c =
    let held = map arc_value c.args.entries.now in
    let slots = positions_of c.args.index.now in
    let xs = sorted_of held slots in
    let s = c.args.state.now in
    let last = c.last_match.ensures.last in
    let i = c.in-Some.i in
    let within = last.within i c.in-Some.is in
    let at : nth xs i ≡ nth held c.position.result = sorted-at held slots i 0 (omega (arith, within.1, c.requires.range.1)) ∙ ap (nth held) (sym c.position.ensures) in
    let matched = last.matched i c.in-Some.is in
    let best = best-longer held s c.args.left c.args.best c.position.result c.requires.best
    (subst (λ n. n < length held) (sym c.position.ensures) (position-in held slots i 0 c.requires.index.entries (omega (arith, within.1, c.requires.range.1))))
    (ap (matches s) (sym at) ∙ matched.0) (subst (λ (e : Entry). e.steps ≤ c.args.left) at matched.1) c.longer_of.result c.longer_of.ensures in (
      best.0,
      best.1,
      λ k least lt match enough. omega (arith, last.most i c.in-Some.is k least lt match enough, ap (λ (e : Entry). e.steps) at, best.2),
    )

pub returns-in-Some-clause-best : goal.returns-in-Some-clause-best
returns-in-Some-clause-best g c = (found g (goal.at.returns-in-Some-clause-best g c).After-longer_of).0

pub returns-in-Some-clause-rises : goal.returns-in-Some-clause-rises
returns-in-Some-clause-rises g c = (found g (goal.at.returns-in-Some-clause-rises g c).After-longer_of).1

pub returns-in-Some-clause-most : goal.returns-in-Some-clause-most
returns-in-Some-clause-most g c = (found g (goal.at.returns-in-Some-clause-most g c).After-longer_of).2
