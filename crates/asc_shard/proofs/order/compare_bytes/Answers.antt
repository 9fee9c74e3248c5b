use Rattle.std.proofs.Common.{◌∙◌, sym, arith}
use Rattle.std.specs.Ordering.{nat_cmp}
use Rattle.std.specs.Cmp.Lexicographic.{slice_cmp}
use Rattle.asc_traj.proofs.Parts.{part}
use Rattle.asc_shard.specs.Inside.{bytes_of}
use Rattle.asc_shard.proofs.Orders.{bytes-on, cells-whole}
use Rattle.asc_shard.proofs.order.compare_bytes.Goals as goal

pub returns : goal.returns
returns c =
    c.compare_bytes_from.ensures ∙ (λ k. slice_cmp nat_cmp (bytes_of (cells-whole c.args.a.now c.loop-i.i k)) (bytes_of (cells-whole c.args.b.now c.loop-i.i k)))
    ∙ sym c.loop-i.invariant.rest

pub loop-i-preserved : goal.loop-i-preserved
loop-i-preserved c = record {
  first = omega (arith, c.loop-i-test.true);
  second = omega (arith, c.if-i-b.true);
  rest = c.loop-i.invariant.rest ∙ bytes-on c.args.a.now c.args.b.now c.loop-i.i (part 0 0) c.loop-i-test.true c.if-i-b.true c.if-a-i-2.true c.if-a-i.true;
}
