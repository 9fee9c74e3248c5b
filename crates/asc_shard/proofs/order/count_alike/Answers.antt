use Rattle.std.proofs.Common.{◌∙◌, sym, arith}
use Rattle.asc_traj.proofs.Parts.{part}
use Rattle.asc_shard.proofs.Orders.{state-on}
use Rattle.asc_shard.proofs.order.count_alike.Goals as goal

pub loop-i-preserved : goal.loop-i-preserved
loop-i-preserved c = record {
  most = omega arith;
  rest = c.loop-i.invariant.rest ∙ state-on c.args.state.now c.args.parts.now c.loop-i.i (part 0 0) c.loop-i-test.true (sym c.is_in.ensures ∙ c.if-is_in.true);
}
