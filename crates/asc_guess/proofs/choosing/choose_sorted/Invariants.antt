use Rattle.std.proofs.Common.{◌-◌, ◌≤◌, ◌^◌, length, IfSome}
use Rattle.asc_guess.proofs.Best.{IsBest, Stands}
use Rattle.asc_guess.proofs.Runs.{IsStart}
use Rattle.asc_guess.proofs.choosing.choose_sorted.Given as goal

abbrev pub invariant-loop-from : goal.invariant-loop-from
invariant-loop-from l = (l.from ≤ length l.visits) × IsStart l.visits l.from
    × IsBest l.visits l.least (Stands l.visits l.from) l.best
    × IfSome l.best (λ c. (2 ≤ c.times) × (c.times ≤ 2 ^ 16))

abbrev pub decreases-loop-from : goal.decreases-loop-from
decreases-loop-from l = length l.visits - l.from
