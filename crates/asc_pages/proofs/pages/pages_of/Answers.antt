use Rattle.std.proofs.Common.{◌+◌, ◌*◌, ap, subst, List, ℕ, Option, length, arith}
use Rattle.asc_pages.specs.DirtyPages.{IsUnlisted}
use Rattle.asc_pages.specs.Pages.{Page}
use Rattle.asc_pages.proofs.Copies.{group_made}
use Rattle.asc_pages.proofs.pages.pages_of.Goals as goal

pub returns : goal.returns
returns c =
    let kept = ap (λ (pages : List (Option Page)). length pages) c.pages_in-kept.ensures in
    group_made c.args.changed.now c.args.bytes.now c.args.base.now c.args.g c.used_pages.result c.loop-k.pages.items c.requires.dirty c.requires.kept c.used_pages.ensures.clean
    (λ k past within. subst (λ (l : List ℕ). IsUnlisted l (32 * c.args.g + k)) c.list.ensures.numbers (c.used_pages.ensures.unlisted k past within))
    (omega (arith, kept, c.loop-k.invariant.size, c.min-used.ensures, c.max.ensures, c.min-room.ensures, c.len.ensures))
    (λ k below. c.loop-k.invariant.each k (omega (arith, c.loop-k.invariant.size)))
