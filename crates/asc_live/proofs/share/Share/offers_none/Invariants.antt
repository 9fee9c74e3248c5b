-- None of the visits so far is offered.
use Rattle.std.proofs.Common.{◌≡◌, ◌-◌, false}
use Rattle.std.specs.List.{list_any, range_with_len}
use Rattle.asc_live.specs.Due.{is_for_workers}
use Rattle.asc_live.proofs.share.Share.offers_none.Given as goal

abbrev pub invariant-loop-target : goal.invariant-loop-target
invariant-loop-target l = list_any (is_for_workers l.self.workers) (range_with_len l.start (l.target - l.start)) ≡ false
