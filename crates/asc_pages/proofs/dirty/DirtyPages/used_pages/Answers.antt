use Rattle.std.proofs.Common.{◌≡◌, ◌+◌, ◌-◌, ◌*◌, ◌<◌, Bool, List, length, slice_index, sym, subst, arith}
use Rattle.std.proofs.lemmas.List.{get_or_read}
use Rattle.asc_pages.specs.DirtyPages.{IsClean}
use Rattle.asc_pages.proofs.Counts.{clean_pages}
use Rattle.asc_pages.proofs.dirty.DirtyPages.used_pages.Goals as goal

pub returns : goal.returns
returns c =
    let inside = c.self.inside in
    let within : 32 * c.args.g < length inside.pages.items = subst (λ (l : List Bool). 32 * c.args.g < length l) (sym c.self.view_is) c.requires in
    let read : c.index.result.now ≡ slice_index inside.groups.items c.args.g =
    get_or_read inside.groups.items c.args.g c.index.result.now (omega (arith, c.self.invariant.0.least)) c.index.ensures 0 in
    subst (λ (l : List Bool). IsClean l (32 * c.args.g + c.index.result.now) (32 - c.index.result.now)) c.self.view_is
    (clean_pages inside.all inside.listed.items inside.groups.items inside.pages.items c.args.g c.index.result.now c.self.invariant.0 (omega (arith, read)))
