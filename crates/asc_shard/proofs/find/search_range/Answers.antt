use Rattle.std.proofs.Common.{◌≡◌, [], refl, map, arith}
use Rattle.std.specs.Arc.{arc_value}
use Rattle.std.specs.declared.cmp.Ordering.TheVariants.{Less}
use Rattle.std.proofs.lemmas.List.Elements.{All-nil}
use Rattle.asc_shard.specs.Groups.{Asked, IsAsked}
use Rattle.asc_shard.specs.Inside.{IsFrom, by_group, positions_of, sorted_of}
use Rattle.asc_shard.proofs.Slots.{nth}
use Rattle.asc_shard.proofs.Ranges.{before-more, froms-more, most-more, most-passed, probes-one}
use Rattle.asc_shard.proofs.find.search_range.Goals as goal

pub group_end-end-requires-clause-keys : goal.group_end-end-requires-clause-keys
group_end-end-requires-clause-keys g c = λ i j least lt least_j lt_j. c.requires.keys i j (omega arith) lt (omega arith) lt_j

pub search_group-now-requires-clause-keys : goal.search_group-now-requires-clause-keys
search_group-now-requires-clause-keys g c = λ i j least lt least_j lt_j. c.requires.keys i j (omega arith) (omega arith) (omega arith) (omega arith)

pub loop-from-preserved : goal.loop-from-preserved
loop-from-preserved g c =
    let held = map arc_value c.args.entries.now in
    let slots = positions_of c.args.index.now in
    let xs = sorted_of held slots in
    let s = c.args.state.now in
    let from = c.loop-from.from in
    let end = c.group_end-end.ensures in
    let group = c.search_group-now.ensures in
    let next = c.next_like-from-in-loop-from.ensures in
    let v = c.loop-from.invariant in
    let now = c.search_group-now.result in
    let asked = probes-one g.P.Probes.more held slots s c.args.low from c.group_end-end.result c.args.high group.probes.0 _ _ _ c.requires.index.entries
    v.least end.some (omega arith) end.range end.same end.rest (c.requires.prints from (omega arith) (omega arith)) (group.probes.1, group.probes.2) v.probes in
    record {
      least = omega (arith, v.least, end.some, next.range.0);
      most = next.range.1;
      best = group.best;
      found = most-passed xs s c.args.left c.args.low c.group_end-end.result c.next_like-from-in-loop-from.result now.steps
          (most-more xs s c.args.left c.args.low from c.group_end-end.result c.loop-from.now.steps now.steps v.found group.rises group.most) next.passed;
      rises = omega (arith, v.rises, group.rises);
      probes = (asked.0, asked.1, before-more xs c.args.low c.group_end-end.result c.next_like-from-in-loop-from.result c.args.high asked.0 next.range.0 asked.2, asked.3);
    }

pub returns-clause-probes : goal.returns-clause-probes
returns-clause-probes g c =
    let v = c.loop-from.invariant in
    let xs = sorted_of (map arc_value c.args.entries.now) (positions_of c.args.index.now) in
    (v.probes.0, v.probes.1, froms-more xs c.args.low c.loop-from.from c.args.high v.probes.0 v.most v.probes.2.froms, v.probes.3)

pub loop-from-init : goal.loop-from-init
loop-from-init g c =
    let held = map arc_value c.args.entries.now in
    let xs = sorted_of held (positions_of c.args.index.now) in
    let next = c.next_like-from in
    record {
      least = next.ensures.range.0;
      most = next.ensures.range.1;
      best = c.requires.best;
      found = most-passed xs c.args.state.now c.args.left c.args.low c.args.low next.result c.args.best.steps (λ i least lt match enough. absurd (omega arith)) next.ensures.passed;
      rises = omega arith;
      probes = (
        [],
        record { each = All-nil (IsAsked held c.args.state.now); apart = λ i j d lt below. absurd (omega arith) },
        record {
          froms = All-nil (λ (a : Asked). IsFrom xs c.args.low next.result a.entry);
          lower = λ j behind below. All-nil (λ (a : Asked). by_group a.entry (nth xs j) ≡ Less);
        },
        refl,
      );
    }
