-- The first candidate of the slots so far.
use Rattle.std.proofs.Common.{◌≡◌, None}
use Rattle.std.specs.Prelude.{fold, take}
use Rattle.asc_seek.specs.Inside.{HasLaps, first_candidate}
use Rattle.asc_seek.proofs.seeker.Seeker.candidate_behind.Given as goal

abbrev pub invariant-loop-met : goal.invariant-loop-met
invariant-loop-met l = record {
  first : l.first ≡ fold (first_candidate l.self.seeking l.tried) None (take l.met-index l.met-items);
  laps : HasLaps l.first;
}
