use Rattle.std.proofs.Common.{◌≡◌, ℕ, List, length, take, subst, ◌∙◌}
use Rattle.asc_pages.specs.Numbers.{place_of}
use Rattle.asc_pages.proofs.Places.{unlisted_remainder}
use Rattle.asc_pages.proofs.numbers.Numbers.place.Goals as goal

pub returns-else-self-p : goal.returns-else-self-p
returns-else-self-p c =
    c.len.ensures ∙ subst (λ (l : List ℕ). length l ≡ place_of l c.args.p) c.self.view_is
    (unlisted_remainder c.self.inside.has (take c.self.inside.count c.self.inside.list) c.args.p c.self.invariant.1 c.if-self-p.false)
