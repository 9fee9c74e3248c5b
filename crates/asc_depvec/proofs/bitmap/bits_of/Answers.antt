use Rattle.std.proofs.Common.{◌≡◌, ◌+◌, ◌-◌, ◌*◌, ◌/◌, ◌%◌, ◌^◌, slice_index_or, refl, arith}
use Rattle.std.proofs.Math.Bool.{or_assoc, or-false}
use Rattle.std.proofs.lemmas.List.Folds.{list_any-append}
use Rattle.std.proofs.lemmas.Nat.{one_shl}
use Rattle.asc_depvec.proofs.Bits.{bit_of-more, bit_of-none, item_bit, rotated}
use Rattle.asc_depvec.proofs.Items.{places_of-take}
use Rattle.asc_depvec.proofs.bitmap.bits_of.Goals as goal

pub loop-at-init : goal.loop-at-init
loop-at-init c = record {
  least = omega arith;
  most = c.requires.from;
  bits = λ word.
      rw (bit_of-none (c.args.first / 512) 0 word refl, or-false);
}

pub loop-at-preserved : goal.loop-at-preserved
loop-at-preserved c =
    let items = c.args.items.now in
    let at = c.loop-at.at in
    let item = slice_index_or items at 0 in
    let first = c.args.first in
    let bits = c.loop-at.bits in
    let behind = (item + (2 ^ 32 - first)) % 2 ^ 32 in
    let bit = c.rotate_right-word.result in
    let low = c.if-word-ge64.false in
    let is = rotated behind bit (omega arith) c.rotate_right-word.ensures (omega (arith, low)) in
    let sum : item ≡ first + behind = omega (arith, is.0, is.1, low, c.requires.first, c.type_inv.items at, c.ranges.first) in
    let whole : item % 8 ≡ 1 = omega (arith, sum, is.0, c.requires.first) in
    let here : 64 * (first / 512) + bit ≡ item / 8 = omega (arith, sum, is.0, is.1, low, c.requires.first) in
    record {
      least = omega (arith, c.loop-at.invariant.least);
      most = omega (arith, c.loop-at-test.true);
      bits = λ word.
          let more = bit_of-more (first / 512) bits bit (1 * 2 ^ bit % 2 ^ 64) word (omega (arith, low)) (one_shl bit 64 (omega (arith, low))) in
          rw (places_of-take items at 0 c.loop-at-test.true, list_any-append, c.loop-at.invariant.bits word, item_bit item word whole, ← here, or_assoc, more);
    }
