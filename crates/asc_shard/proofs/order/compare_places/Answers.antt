use Rattle.std.proofs.Common.{◌∙◌, sym, arith}
use Rattle.std.specs.Ordering.{nat_cmp}
use Rattle.std.specs.Cmp.Lexicographic.{slice_cmp}
use Rattle.asc_traj.proofs.Parts.{part}
use Rattle.asc_shard.specs.Inside.{places_of}
use Rattle.asc_shard.proofs.Orders.{places-on, cells-whole}
use Rattle.asc_shard.proofs.order.compare_places.Goals as goal

pub returns : goal.returns
returns c =
    c.compare_places_from.ensures ∙ (λ k. slice_cmp nat_cmp (places_of (cells-whole c.args.a.now c.loop-i.i k)) (places_of (cells-whole c.args.b.now c.loop-i.i k)))
    ∙ sym c.loop-i.invariant.rest

pub loop-i-preserved : goal.loop-i-preserved
loop-i-preserved c = record {
  first = omega (arith, c.loop-i-test.true);
  second = omega (arith, c.if-i-b.true);
  rest = c.loop-i.invariant.rest ∙ places-on c.args.a.now c.args.b.now c.loop-i.i (part 0 0) c.loop-i-test.true c.if-i-b.true c.if-a-i.true;
}
