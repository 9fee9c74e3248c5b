use Rattle.std.proofs.Common.{◌≡◌, ◌+◌, ◌/◌, ◌<◌, Bool, List, length, length-set, true, false, slice_index, slice_index_or, ap, refl, sym, ◌∙◌, subst, arith}
use Rattle.std.proofs.lemmas.List.{get_or_read}
use Rattle.std.specs.Prelude.{vec_capacity}
use Rattle.asc_pages.proofs.Counts.{dirty_more, one_dirty, room_left}
use Rattle.asc_pages.proofs.dirty.DirtyPages.add_new.Goals as goal

pub push_reserved-requires : goal.push_reserved-requires
push_reserved-requires c =
    let inside = c.self.inside in
    let p = c.args.p in
    let within : p < length inside.pages.items = subst (λ (l : List Bool). p < length l) (sym c.self.view_is) c.requires.page in
    let clean : slice_index_or inside.pages.items p true ≡ false = subst (λ (l : List Bool). slice_index_or l p true ≡ false) (sym c.self.view_is) c.requires.clean in
    omega (arith, room_left inside.all inside.listed.items inside.groups.items inside.pages.items p (vec_capacity inside.listed) c.self.invariant.0 within clean c.self.invariant.1.1)

pub invariant_of-self : goal.invariant_of-self
invariant_of-self c =
    let inside = c.self.inside in
    let groups = inside.groups.items in
    let p = c.args.p in
    let within : p < length inside.pages.items = subst (λ (l : List Bool). p < length l) (sym c.self.view_is) c.requires.page in
    let first : c.index.result.now ≡ slice_index groups (p / 32) = get_or_read groups (p / 32) c.index.result.now (omega (arith, c.self.invariant.0.least)) c.index.ensures 0 in
    let clean : slice_index_or inside.pages.items p true ≡ false = subst (λ (l : List Bool). slice_index_or l p true ≡ false) (sym c.self.view_is) c.requires.clean in (
      dirty_more inside.all inside.listed.items _ groups inside.pages.items p (p / 32) c.max.result c.self.invariant.0 within clean refl (omega (arith, first, c.max.ensures)) c.push_reserved.ensures.items,
      (
        ap (λ n. n + 1) c.self.invariant.1.0 ∙ sym (one_dirty inside.pages.items p within clean),
        omega (arith, length-set inside.pages.items p true, c.self.invariant.1.1, c.push_reserved.ensures.capacity),
      ),
    )
