use Rattle.std.proofs.Common.{◌≡◌, All, length}
use Rattle.asc_live.specs.Crew.{IsForRun}
use Rattle.asc_live.proofs.open_crew.parts_of.Given as goal

abbrev pub invariant-loop : goal.invariant-loop
invariant-loop l = record {
  count : length l.parts.items ≡ l.counter;
  each : All (IsForRun l.initial.guessing l.initial.crew) l.parts.items;
}
