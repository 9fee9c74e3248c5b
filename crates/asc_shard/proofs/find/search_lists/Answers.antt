use Rattle.std.proofs.Common.{◌++◌, [], ◌∙◌, length, map, refl, sym, ap, arith}
use Rattle.std.specs.Arc.{arc_value}
use Rattle.std.proofs.lemmas.List.{take_all}
use Rattle.std.proofs.lemmas.List.Elements.{All-nil}
use Rattle.asc_shard.specs.Groups.{Asked, IsAsked}
use Rattle.asc_shard.specs.Inside.{IsFrom, IsMost, positions_of, sorted_in, total}
use Rattle.asc_shard.proofs.Longest.{longest-none, longest-some}
use Rattle.asc_shard.proofs.Searching.{asked-both, froms-both, head-here, head-masked, most-next, raised-both, wanted-matches, wanted-same}
use Rattle.asc_shard.proofs.Placing.{prints-size, prints-up, total-size}
use Rattle.asc_shard.proofs.find.search_lists.Given.{Over}
use Rattle.asc_shard.proofs.find.search_lists.Goals.{After-loop-head}
use Rattle.asc_shard.proofs.find.search_lists.Goals as goal

pub loop-head-init : goal.loop-head-init
loop-head-init g c =
    let held = map arc_value c.args.entries.now in
    record {
      from = refl;
      best = record { none = λ e. refl; within = λ p e. cc; matched = λ p e. cc; steps_are = λ p e. cc; enough = omega arith };
      found = λ i least lt match enough. absurd (omega arith);
      probes = (
        [],
        record { each = All-nil (IsAsked held c.args.state.now); apart = λ i j d lt below. absurd (omega arith) },
        All-nil (λ (a : Asked). IsFrom (sorted_in held c.args.index.now) 0 0 a.entry),
        refl,
      );
    }

pub overflow_add-next : goal.overflow_add-next
overflow_add-next g c =
    let here = head-here c.requires.index c.loop-head-test.true c.deref-head-items.ensures.value c.loop-head.invariant.from in
    omega (arith, here.most, c.requires.index.few)

pub print_for-print-requires-clause-within : goal.print_for-print-requires-clause-within
print_for-print-requires-clause-within g c =
    let here = head-here c.requires.index c.loop-head-test.true c.deref-head-items.ensures.value c.loop-head.invariant.from in
    omega (arith, here.some, here.most, c.requires.index.entries.size)

pub print_for-print-requires-clause-entry : goal.print_for-print-requires-clause-entry
print_for-print-requires-clause-entry g c =
    let here = head-here c.requires.index c.loop-head-test.true c.deref-head-items.ensures.value c.loop-head.invariant.from in
    here.mask c.loop-head.from (omega arith) here.some

pub range_of-low-requires-clause-range : goal.range_of-low-requires-clause-range
range_of-low-requires-clause-range g c =
    let here = head-here c.requires.index c.loop-head-test.true c.deref-head-items.ensures.value c.loop-head.invariant.from in
    (omega arith, omega (arith, here.most, prints-size c.requires.index))

pub range_of-low-requires-clause-rise : goal.range_of-low-requires-clause-rise
range_of-low-requires-clause-rise g c = λ i j least le below.
    let here = head-here c.requires.index c.loop-head-test.true c.deref-head-items.ensures.value c.loop-head.invariant.from in
    prints-up c.requires.index i j le (omega (arith, below, here.most))
    (here.mask i least (omega (arith, le, below)) ∙ sym (here.mask j (omega (arith, least, le)) below))

pub search_some-best-requires : goal.search_some-best-requires
search_some-best-requires g c =
    let e = c.range_of-low.ensures in
    let here = head-here c.requires.index c.loop-head-test.true c.deref-head-items.ensures.value c.loop-head.invariant.from in
    let k = head-masked _ _ c.args.state.now _ _ _ c.range_of-low.result.0 c.range_of-low.result.1 _ c.requires.index here c.print_for-print.ensures e.range e.before e.inside e.behind in
    record {
      index = c.requires.index;
      range = (e.range.1, omega (arith, e.range.2, k.most));
      keys = wanted-same k;
      prints = wanted-matches k;
      best = c.loop-head.invariant.best;
    }

pub loop-head-preserved : goal.loop-head-preserved
loop-head-preserved g c =
    let v = c.loop-head.invariant in
    let known = c.range_of-low.ensures in
    let here = head-here c.requires.index c.loop-head-test.true c.deref-head-items.ensures.value v.from in
    let k = head-masked _ _ c.args.state.now _ _ _ c.range_of-low.result.0 c.range_of-low.result.1 _ c.requires.index here c.print_for-print.ensures known.range known.before known.inside known.behind in
    let e = c.search_some-best.ensures in
    let p = e.probes in
    record {
      from = here.next;
      best = e.best;
      found = most-next k c.args.left c.loop-head.best.steps c.search_some-best.result.steps v.found e.rises e.most;
      probes = (
        p.0 ++ v.probes.0,
        asked-both k p.0 v.probes.0 p.1 v.probes.1 here.lower p.2 v.probes.2,
        froms-both k p.0 v.probes.0 p.2 v.probes.2,
        raised-both g.P.Probes.more p.0 v.probes.0 (g.P.Probes.count c.search_some-best.new.probes) (g.P.Probes.count c.loop-head.probes) (g.P.Probes.count c.args.probes.now) p.3 v.probes.3,
      );
    }

-- all heads are walked
found : (g : Over) (c : After-loop-head g)
    → IsMost (sorted_in (map arc_value c.args.entries.now) c.args.index.now) c.args.state.now c.args.left 0 (length (positions_of c.args.index.now)) c.loop-head.best.steps
found g c i least lt match enough =
    let v = c.loop-head.invariant in
    let is = c.requires.index in
    let walked = take_all c.loop-head.head-index c.args.index.now.heads.items (omega (arith, c.loop-head-test.false, ap length c.deref-head-items.ensures.value)) in
    v.found i least (omega (arith, lt, v.from, ap total walked, total-size is, is.entries.size)) match enough

pub returns-clause-none : goal.returns-clause-none
returns-clause-none g c =
    longest-none c.args.state.now c.args.left _ _ _ _ c.requires.index.entries c.loop-head.invariant.best (found g (goal.at.returns-clause-none g c).After-loop-head)

pub returns-clause-some : goal.returns-clause-some
returns-clause-some g c =
    longest-some c.args.state.now c.args.left _ _ _ _ c.requires.index.entries c.loop-head.invariant.best (found g (goal.at.returns-clause-some g c).After-loop-head)
