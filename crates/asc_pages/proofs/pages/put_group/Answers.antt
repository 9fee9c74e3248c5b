use Rattle.std.proofs.Common.{◌+◌, ◌*◌, List, ℕ, subst, arith}
use Rattle.asc_pages.specs.DirtyPages.{IsUnlisted}
use Rattle.asc_pages.proofs.Copies.{group_shared}
use Rattle.asc_pages.proofs.pages.put_group.Goals as goal

pub returns-in_ok-group : goal.returns-in_ok-group
returns-in_ok-group c =
    group_shared c.args.changed.now c.args.bytes.now c.args.base.now c.args.g c.in_ok-group.field-0 c.requires.dirty c.requires.kept
    (λ p least most inside. c.used_pages.ensures.clean p (omega (arith, c.if-used_pages-eq0.true)) (omega (arith, c.if-used_pages-eq0.true)) inside)
    (λ k within. subst (λ (l : List ℕ). IsUnlisted l (32 * c.args.g + k)) c.list.ensures.numbers (c.used_pages.ensures.unlisted k (omega (arith, c.if-used_pages-eq0.true)) within))
    c.in_ok-group.ensures
