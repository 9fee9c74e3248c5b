-- The steps executed and those jumped over, unless the count of these has come to its end, lead from the first state to this.
use Rattle.std.proofs.Common.{◌≡◌, ◌+◌, ◌-◌, ◌^◌, ◌<◌, ◌≤◌}
use Rattle.asc_model.specs.Plain.{plain}
use Rattle.asc_model.specs.Step.{Went}
use Rattle.asc_embed.proofs.walk.walk.Given as goal

abbrev pub invariant-loop-visit : goal.invariant-loop-visit
invariant-loop-visit g l = record {
  few : l.executed ≤ 2 ^ 40;
  goes : l.jumped < 2 ^ 64 - 1 → plain (l.executed + l.jumped) l.fn.state ≡ Went l.state;
  counter : l.steps ≡ l.fn.steps + l.executed;
}
