use Rattle.std.proofs.Common.{◌≡◌, ◌≤◌, map, take, true}
use Rattle.std.specs.Prelude.{IfSome}
use Rattle.std.specs.Arc.{arc_value}
use Rattle.std.specs.Option.{option_map}
use Rattle.asc_traj.specs.Content.{longest, matches}
use Rattle.asc_traj.proofs.Finding.{IsMost}
use Rattle.asc_traj.proofs.longest.longest_match.Given as goal

abbrev pub invariant-loop-held : goal.invariant-loop-held
invariant-loop-held l = record {
  found : longest (take l.held-index (map arc_value l.fn.entries)) l.fn.state l.fn.left ≡ option_map (λ e. e.now.steps) l.best;
  most : IsMost (option_map (λ e. e.now.steps) l.best) l.most;
  fits : IfSome l.best (λ e. (matches l.fn.state e.now ≡ true) × (e.now.steps ≤ l.fn.left));
}
