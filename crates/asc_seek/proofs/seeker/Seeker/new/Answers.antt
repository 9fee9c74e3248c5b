-- A new search has no heads.
use Rattle.std.proofs.Common.{arith}
use Rattle.asc_seek.proofs.Tables.{empty}
use Rattle.asc_seek.proofs.seeker.Seeker.new.Goals as goal

pub invariant_of-result : goal.invariant_of-result
invariant_of-result c = let none = empty c.in_ok-no_heads.field-0.items c.in_ok-no_heads.ensures in record {
  seeking = c.requires;
  since = omega arith;
  stretch = omega arith;
  some = omega arith;
  slots = none.slots;
  seldom = none.seldom;
  early = none.early _;
  best = tt;
  phase = omega arith;
}
