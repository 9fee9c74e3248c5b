-- None of the entries so far matches, and the state is as it was.
use Rattle.std.proofs.Common.{◌≡◌, All, take}
use Rattle.std.specs.Arc.{arc_value}
use Rattle.asc_model.specs.Entry.{Matches}
use Rattle.asc_embed.proofs.entries.jump.Given as goal

abbrev pub invariant-loop-entry : goal.invariant-loop-entry
invariant-loop-entry l = record {
  same : l.state ≡ l.fn.state;
  unmatched : All (λ entry. Matches (arc_value entry) l.fn.state → ⊥) (take l.entry-index l.fn.entries);
}
