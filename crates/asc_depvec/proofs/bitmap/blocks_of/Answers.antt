use Rattle.std.proofs.Common.{ℕ, ◌+◌, ◌*◌, ◌∙◌, map, slice_index, ap, arith}
use Rattle.std.specs.Prelude.{filter, vec_capacity, vec_len, count_ones}
use Rattle.std.proofs.lemmas.List.{map-append}
use Rattle.std.proofs.lemmas.List.Sums.{sum_by-take-le, sum_by_more}
use Rattle.asc_model.specs.Places.{places_from}
use Rattle.asc_depvec.specs.Bits.{block_at, has_word}
use Rattle.asc_depvec.proofs.Bits.{left-more, words-all, words-more}
use Rattle.asc_depvec.proofs.bitmap.blocks_of.Goals as goal
use Rattle.asc_depvec.proofs.bitmap.blocks_of.Goals.{then-group-next, else-group-next}

pub push_blocks-requires-clause-room : goal.push_blocks-requires-clause-room
push_blocks-requires-clause-room c =
    let ones = λ (g : ℕ). count_ones (slice_index c.args.groups.now g) in
    let used = c.args.used.now in
    let i = c.loop-group.group-index in
    omega (arith, sum_by_more ones used i 0 c.loop-group-test.true, sum_by-take-le ones used (i + 1), c.loop-group.invariant.few, c.loop-group.invariant.capacity)

pub loop-group-preserved : goal.loop-group-preserved
loop-group-preserved c =
    let groups = c.args.groups.now in
    let used = c.args.used.now in
    let at = map (block_at c.args.blocks.now) in
    let i = c.loop-group.group-index in
    let inv = c.loop-group.invariant in
    let ones = λ (g : ℕ). count_ones (slice_index groups g) in
    let more = sum_by_more ones used i 0 c.loop-group-test.true in
    let before = filter (has_word groups) (places_from 0 (64 * c.loop-group.next)) in
    elim c.if-group-next.branch [
      | then-group-next w ↦ record {
        next = omega (arith, w.next-is, c.requires.used i 0 c.loop-group-test.true);
        found = rw (w.found-is, w.push_blocks.ensures.blocks, inv.found, ← map-append (block_at c.args.blocks.now) before, w.next-is)
            (ap at (words-more groups used c.loop-group.next i 0 inv.left c.requires.rising c.loop-group-test.true w.if-group-next.true));
        left = left-more groups used c.loop-group.next i 0 c.if-group-next.next inv.left c.loop-group-test.true (omega (arith, w.next-is, w.if-group-next.true)) (omega (arith, w.next-is));
        few = omega (arith, ap (λ v. vec_len v) w.found-is, w.push_blocks.ensures.few, inv.few, more);
        capacity = omega (arith, ap (λ v. vec_capacity v) w.found-is, w.push_blocks.ensures.capacity, inv.capacity);
      }
      | else-group-next w ↦ record {
        next = omega (arith, w.next-is, inv.next);
        found = rw (w.found-is, w.next-is) inv.found;
        left = left-more groups used c.loop-group.next i 0 c.if-group-next.next inv.left c.loop-group-test.true (omega (arith, w.next-is)) (omega (arith, w.next-is, w.if-group-next.false));
        few = omega (arith, ap (λ v. vec_len v) w.found-is, inv.few, more);
        capacity = omega (arith, ap (λ v. vec_capacity v) w.found-is, inv.capacity);
      }
    ]

pub returns : goal.returns
returns c =
    c.loop-group.invariant.found
    ∙ ap (map (block_at c.args.blocks.now)) (words-all c.args.groups.now c.args.used.now c.loop-group.next c.loop-group.group-index c.loop-group.invariant.left c.loop-group-test.false c.loop-group.invariant.next)
