-- The table has no heads any more.
use Rattle.std.proofs.Common.{◌*◌, ◌≤◌, List, Option, None, ap, sym, subst, ◌∙◌}
use Rattle.asc_seek.specs.declared.heads.Head.{Head}
use Rattle.asc_seek.specs.declared.seeker.Phase.TheVariants as phase
use Rattle.asc_seek.specs.Heads.{no_heads}
use Rattle.asc_seek.specs.Seek.{Seek, rest_ratio}
use Rattle.asc_seek.specs.contracts.seeker.Seeker.{the_view}
use Rattle.asc_seek.proofs.Tables.{empty, emptied}
use Rattle.asc_seek.proofs.seeker.Seeker.search_from.Goals as goal

pub invariant_of-self : goal.invariant_of-self
invariant_of-self c =
    let none = empty _ (emptied c.self.inside.table c.clear.new.table c.clear.ensures c.self.invariant.slots) in record {
      seeking = c.self.invariant.seeking;
      since = c.requires.count;
      stretch = c.requires.stretch.1;
      some = c.requires.stretch.0;
      slots = none.slots;
      seldom = none.seldom;
      early = none.early _;
      best = tt;
      phase = subst (λ (m : Seek). rest_ratio * m.spent ≤ c.args.count) (sym c.self.view_is) c.requires.spent;
    }

pub returns : goal.returns
returns c =
    let begun = λ (table : List (Option Head)) (m : Seek).
    record m { since = c.args.count; stretch = c.args.stretch; table = table; best = None; phase = phase.Profile } in
    ap (λ (table : List (Option Head)). begun table (the_view c.self.inside))
    (emptied c.self.inside.table c.clear.new.table c.clear.ensures c.self.invariant.slots)
    ∙ ap (begun no_heads) c.self.view_is
