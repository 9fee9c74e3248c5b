use Rattle.std.proofs.Common.{◌≡◌, ◌*◌, ◌+◌, ◌-◌, ◌/◌, ◌<◌, ◌≤◌, ◌∙◌, ℕ, suc, map, sym, ap, subst, refl, arith}
use Rattle.std.specs.Arc.{arc_value}
use Rattle.asc_model.specs.Entry.{Entry}
use Rattle.asc_shard.specs.Inside.{compare_with, raised, sorted_in}
use Rattle.asc_shard.proofs.Slots.{nth}
use Rattle.asc_shard.proofs.Matching.{HasHalved, halved-none, halved-more, sought-first, sought-less, sought-equal, sought-greater, sought-longer, sought-last}
use Rattle.asc_shard.proofs.find.last_match.Given.{Over}
use Rattle.asc_shard.proofs.find.last_match.Goals.{After-compare_with, After-tick}
use Rattle.asc_shard.proofs.find.last_match.Goals as goal

pub loop-low-init : goal.loop-low-init
loop-low-init g c = record { sought = sought-first c.requires.group c.requires.some; probes = (0, halved-none (c.args.end - c.args.from) (omega arith), refl) }

pub compare_with-requires : goal.compare_with-requires
compare_with-requires g c =
    let v = c.loop-low.invariant.sought in
    ap (λ (e : Entry). e.shape) c.entry-entry.ensures ∙ c.requires.group.shape _ (omega (arith, v.least)) (omega (arith, v.most))

compared : (g : Over) (c : After-compare_with g) → let m = c.loop-low.low + (c.loop-low.high - c.loop-low.low) / 2 in
    compare_with (nth (sorted_in (map arc_value c.args.entries.now) c.args.index.now) m) c.args.state.now ≡ c.compare_with.result
compared g c = ap (λ (e : Entry). compare_with e c.args.state.now) (sym c.entry-entry.ensures) ∙ sym c.compare_with.ensures

-- once more, where so many are left
again : (g : Over) (c : After-tick g) (n : ℕ) → 2 * n ≤ c.loop-low.high - c.loop-low.low
    → (times : ℕ) × HasHalved times n (c.args.end - c.args.from) × (g.P.Probes.count c.tick.new.self ≡ raised g.P.Probes.more times (g.P.Probes.count c.args.probes.now))
again g c n half =
    let p = c.loop-low.invariant.probes in
    (suc p.0, halved-more p.0 _ _ n (omega (arith, c.loop-low-test.true)) half p.1, c.tick.ensures ∙ ap g.P.Probes.more p.2)

pub loop-low-preserved-in-Less-1 : goal.loop-low-preserved-in-Less-1
loop-low-preserved-in-Less-1 g c =
    let at = goal.at.loop-low-preserved-in-Less-1 g c in
    record {
      sought = sought-less c.requires.group _ c.loop-low.invariant.sought (omega arith) (omega arith) (compared g at.After-compare_with ∙ c.in-Less.is);
      probes = again g at.After-tick _ (omega arith);
    }

pub loop-low-preserved-then-steps-left : goal.loop-low-preserved-then-steps-left
loop-low-preserved-then-steps-left g c =
    let at = goal.at.loop-low-preserved-then-steps-left g c in
    let fits = subst (λ (e : Entry). e.steps ≤ c.args.left) c.entry-entry.ensures (subst (λ n. n ≤ c.args.left) c.steps.ensures c.if-steps-left.true) in
    record {
      sought = sought-equal c.requires.group _ c.loop-low.invariant.sought (omega arith) (omega arith) (compared g at.After-compare_with ∙ c.in-Equal.is) fits;
      probes = again g at.After-tick _ (omega arith);
    }

pub loop-low-preserved-in_default : goal.loop-low-preserved-in_default
loop-low-preserved-in_default g c =
    let at = goal.at.loop-low-preserved-in_default g c in
    let longer = subst (λ (e : Entry). c.args.left < e.steps) c.entry-entry.ensures (subst (λ n. c.args.left < n) c.steps.ensures c.if-steps-left.false) in
    record {
      sought = sought-longer c.requires.group _ c.loop-low.invariant.sought (omega arith) (omega arith) (compared g at.After-compare_with ∙ c.in-Equal.is) longer;
      probes = again g at.After-tick _ (omega arith);
    }

pub loop-low-preserved : goal.loop-low-preserved
loop-low-preserved g c =
    let at = goal.at.loop-low-preserved g c in
    record {
      sought = sought-greater c.requires.group _ c.loop-low.invariant.sought (omega arith) (omega arith) (compared g at.After-compare_with ∙ c.in_default.is);
      probes = again g at.After-tick _ (omega arith);
    }

pub returns-clause-last : goal.returns-clause-last
returns-clause-last g c = sought-last c.requires.group c.loop-low.invariant.sought (omega arith)

pub returns-clause-probes : goal.returns-clause-probes
returns-clause-probes g c =
    let p = c.loop-low.invariant.probes in
    (p.0, (p.1.power, p.1.enough, omega (arith, p.1.most)), p.2)
