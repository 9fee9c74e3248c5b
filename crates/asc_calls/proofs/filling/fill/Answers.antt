-- Each call of the source fills on where the ones before it ended.
use Rattle.std.proofs.Common.{refl, ◌∙◌, arith}
use Rattle.asc_calls.proofs.Taken.{Fills-none, Fills-more, holds-rest}
use Rattle.asc_calls.proofs.filling.fill.Goals as goal

pub loop-filled-init : goal.loop-filled-init
loop-filled-init g c = record { within = omega arith; fills = Fills-none _ _ _ _ c.shape.ensures.state c.requires; faults = refl }

pub take_once-requires-clause-within : goal.take_once-requires-clause-within
take_once-requires-clause-within g c = holds-rest _ _ _ _ _ _ _ c.loop-filled.invariant.fills c.loop-filled.invariant.within c.requires

pub loop-filled-preserved : goal.loop-filled-preserved
loop-filled-preserved g c = record {
  within = omega (arith, c.in_ok-count.ensures.fills.into.within, c.in_ok-count.ensures.fills.count_is);
  fills = Fills-more _ _ _ _ _ _ c.args.buffer c.args.n c.loop-filled.filled _ _ c.shape.ensures.state c.requires c.loop-filled.invariant.fills c.in_ok-count.ensures.fills refl;
  faults = c.in_ok-count.ensures.cause.stays ∙ c.loop-filled.invariant.faults;
}

pub returns-then-count-eq0-clause-fills : goal.returns-then-count-eq0-clause-fills
returns-then-count-eq0-clause-fills g c =
    Fills-more _ _ _ _ _ _ c.args.buffer c.args.n c.loop-filled.filled _ _ c.shape.ensures.state c.requires c.loop-filled.invariant.fills c.in_ok-count.ensures.fills (omega arith)
