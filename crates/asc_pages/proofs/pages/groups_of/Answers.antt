use Rattle.std.proofs.Common.{◌⊎◌, ◌+◌, ◌-◌, ◌/◌, ◌<◌, ◌≤◌, ℕ, List, length, slice_index, subst, inl, inr, arith}
use Rattle.asc_pages.proofs.Copies.{groups_made}
use Rattle.asc_pages.proofs.pages.groups_of.Goals as goal

pub returns : goal.returns
returns c =
    let low = c.without_pages-low.result.0 in
    let end = c.without_pages-low.result.1 in
    let so = c.loop-k.invariant in
    let order = c.without_pages-low.ensures.order in
    let within = c.without_pages-low.ensures.within in
    let free = c.free_run-free.ensures.within in
    let limit = c.blank_run-blank.ensures.most in
    groups_made c.args.changed.now c.args.bytes.now c.args.base.now c.loop-k.list.items low (end - low)
    c.requires.dirty c.requires.kept (λ p least most inside. c.free_run-free.ensures.free p (omega arith) (omega arith) inside)
    (subst (λ (l : List ℕ). (j : ℕ) → j < length l → (slice_index l j / 32 < low) ⊎ (low + (end - low) ≤ slice_index l j / 32)) c.list.ensures.numbers
    (λ j below. elim (c.without_pages-low.ensures.other j below) [ inl lower ↦ inl lower | inr higher ↦ inr (omega arith) ]))
    (λ g least below. c.blank_run-blank.ensures.blank g (omega arith) (omega arith))
    (omega (arith, so.size))
    (omega (arith, so.size, order, limit, c.div_ceil-count.ensures, c.len.ensures))
    (λ k below. so.low k (omega (arith, so.size)))
    (λ k below. so.high k (omega (arith, so.size)))
