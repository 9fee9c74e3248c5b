use Rattle.std.proofs.Common.{◌≡◌, ◌+◌, ◌-◌, suc, map, ap, ◌∙◌, arith}
use Rattle.std.specs.Prelude.{sum_by}
use Rattle.std.specs.Arc.{arc_value}
use Rattle.asc_shard.specs.Groups.{Asked}
use Rattle.asc_shard.specs.Inside.{positions_of, raised, sorted_in}
use Rattle.asc_shard.proofs.Few.{asked-few}
use Rattle.asc_shard.proofs.Ranges.{most-more}
use Rattle.asc_shard.proofs.find.search_few.Goals as goal

pub loop-at-init : goal.loop-at-init
loop-at-init g c = record {
  least = omega arith;
  best = c.requires.best;
  most = λ i least lt match enough. absurd (omega arith);
  rises = omega arith;
  probes = ap (λ n. raised g.P.Probes.more n (g.P.Probes.count c.args.probes.now)) (let e : 0 ≡ c.args.low - c.args.low = omega arith in e);
}

pub loop-at-preserved : goal.loop-at-preserved
loop-at-preserved g c =
    let v = c.loop-at.invariant in
    let low = c.args.low in
    let at = c.loop-at.at in
    let e = c.longer_with-now.ensures in
    record {
      least = omega (arith, v.least);
      best = e.best;
      most = most-more (sorted_in (map arc_value c.args.entries.now) c.args.index.now) c.args.state.now c.args.left low at (at + 1) c.loop-at.now.steps c.longer_with-now.result.steps v.most e.rises e.most;
      rises = omega (arith, v.rises, e.rises);
      probes = c.tick.ensures ∙ ap g.P.Probes.more v.probes
          ∙ ap (λ n. raised g.P.Probes.more n (g.P.Probes.count c.args.probes.now)) (let e : suc (at - low) ≡ at + 1 - low = omega (arith, v.least) in e);
    }

pub returns-clause-probes : goal.returns-clause-probes
returns-clause-probes g c =
    let r = c.requires in
    let all = asked-few (map arc_value c.args.entries.now) (positions_of c.args.index.now) c.args.state.now c.args.low c.args.high r.index.entries r.range.1 r.few r.keys r.prints r.range.0 in (
      all.0,
      all.1,
      all.2,
      c.loop-at.invariant.probes
          ∙ ap (λ n. raised g.P.Probes.more n (g.P.Probes.count c.args.probes.now)) (let e : c.loop-at.at - c.args.low ≡ sum_by (λ (a : Asked). a.probes) all.0 = omega (arith, all.3) in e),
    )
