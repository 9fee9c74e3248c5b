use Rattle.std.proofs.Common.{◌≡◌}
use mathlib.Core.List.{IsPrefix}
use Rattle.left_right.specs.Sides.{view}
use Rattle.asc_cache.specs.History.{tried_in}
use Rattle.asc_cache.proofs.reader.look.Given as goal

abbrev pub invariant-loop : goal.invariant-loop
invariant-loop g l =
    (goal.iterator-loop g).can_next l.iterator' × (goal.iterator-loop g).is_finite l.iterator'
    × ((view l.handle.place).capacity ≡ (view l.initial.handle.place).capacity) × ((view l.handle.place).front.book ≡ (view l.initial.handle.place).front.book)
    × IsPrefix (tried_in (view l.initial.handle.place).front.log) (tried_in (view l.handle.place).front.log)
    × (l.state ≡ l.initial.state)
