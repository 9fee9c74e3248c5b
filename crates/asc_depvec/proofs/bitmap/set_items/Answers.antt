use Rattle.std.proofs.Common.{◌≡◌, ℕ, ◌+◌, ◌*◌, ◌/◌, ◌<◌, ◌^◌, ◌∙◌, length, slice_index_or, arith}
use Rattle.std.proofs.lemmas.List.Folds.{list_any-append}
use Rattle.asc_depvec.proofs.Items.{All-item, places_of-take}
use Rattle.asc_depvec.proofs.Listed.{first_low}
use Rattle.asc_depvec.proofs.bitmap.set_items.Goals as goal

pub set_item-requires-clause-within : goal.set_item-requires-clause-within
set_item-requires-clause-within c =
    All-item (λ place. place / 256 < length c.loop-at.blocks) c.args.items.now c.loop-at.at 0
    (rw c.loop-at.auto.blocks c.requires.within) c.loop-at-test.true

pub set_item-requires-clause-low : goal.set_item-requires-clause-low
set_item-requires-clause-low c = All-item (λ place. place < 2 ^ 30) c.args.items.now c.loop-at.at 0 c.requires.low c.loop-at-test.true

pub set_bits-requires-clause-within : goal.set_bits-requires-clause-within
set_bits-requires-clause-within c = λ some.
    let item = slice_index_or c.args.items.now c.loop-at.at 0 in
    let P = λ (place : ℕ). place / 256 < length c.args.blocks.now in
    omega (arith, first_low P item (All-item P c.args.items.now c.loop-at.at 0 c.requires.within c.loop-at-test.true), c.loop-at.auto.blocks, c.set_item.auto.blocks)

pub loop-at-preserved : goal.loop-at-preserved
loop-at-preserved c =
    let items = c.args.items.now in
    let at = c.loop-at.at in
    let item = slice_index_or items at 0 in
    let block : (item / 512 * 512 + 1) / 512 ≡ item / 512 = omega arith in
    record {
      most = c.bits_of-bits.ensures.most;
      bits = λ word.
          rw (c.set_bits.ensures.bits word, c.set_item.ensures.bits word, c.loop-at.invariant.bits word, c.bits_of-bits.ensures.bits word, block, places_of-take items at 0 c.loop-at-test.true, list_any-append);
      noted = c.set_bits.ensures.noted;
      capacity = c.set_bits.ensures.capacity ∙ c.set_item.ensures.capacity ∙ c.loop-at.invariant.capacity;
    }
