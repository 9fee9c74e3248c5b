-- Each call of the sink puts on where the ones before it ended.
use Rattle.std.proofs.Common.{arith, ◌∙◌}
use Rattle.std.proofs.lemmas.List.{take_rest}
use Rattle.asc_outside.proofs.Streams.{given_more}
use Rattle.asc_outside.proofs.outside.put_all.Goals as goal

pub loop-put-preserved : goal.loop-put-preserved
loop-put-preserved g c = record {
  within = omega (arith, c.in_ok-put.ensures.count);
  given = given_more _ _ _ c.args.piece.now _ c.loop-put.put c.in_ok-put.field-0 c.loop-put.invariant.given
      (take_rest c.args.piece.now c.loop-put.put) c.in_ok-put.ensures.given;
  faults = c.in_ok-put.ensures.cause.stays ∙ c.loop-put.invariant.faults;
}
