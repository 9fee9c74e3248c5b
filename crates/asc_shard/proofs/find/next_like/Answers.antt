use Rattle.std.proofs.Common.{◌≡◌, ◌∙◌, inl, inr, map, sym, ap, arith}
use Rattle.std.specs.Arc.{arc_value}
use Rattle.std.proofs.lemmas.Bool.{cases_lt}
use Rattle.asc_traj.specs.Content.{matches}
use Rattle.asc_shard.specs.Inside.{sorted_in}
use Rattle.asc_shard.proofs.Slots.{nth}
use Rattle.asc_shard.proofs.find.next_like.Goals as goal

pub loop-at-preserved : goal.loop-at-preserved
loop-at-preserved c =
    let xs = sorted_in (map arc_value c.args.entries.now) c.args.index.now in
    let at = c.loop-at.at in
    let v = c.loop-at.invariant in
    record {
      least = omega (arith, v.least);
      most = omega (arith, c.loop-at-test.true);
      passed = λ i least lt. elim (cases_lt i at) [
        | inl before ↦ v.passed i least before
        | inr past ↦
            ap (λ k. matches c.args.state.now (nth xs k)) (let e : i ≡ at = omega (arith, past, lt) in e)
            ∙ ap (matches c.args.state.now) (sym c.entry.ensures) ∙ c.lacks.ensures c.if-lacks.true
      ];
    }
