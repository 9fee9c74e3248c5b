use Rattle.std.proofs.Common.{ℕ, ◌+◌, ◌++◌, ◌∙◌, List, [], ◌∷◌, length, length-append, map, refl, ap, arith}
use Rattle.std.specs.Prelude.{filter}
use Rattle.asc_model.specs.Places.{places_from}
use Rattle.std.specs.Int.{trailing_zeros, w64}
use Rattle.asc_depvec.specs.Bits.{block_at, has_bit}
use Rattle.asc_depvec.proofs.Bits.{block-more, block-room, next_bit, rest-more, tail-words, word-more, words_count}
use Rattle.asc_depvec.proofs.bitmap.push_blocks.Goals as goal

pub overflow_mul-block : goal.overflow_mul-block
overflow_mul-block c =
    let next = next_bit c.args.group c.loop-rest.rest c.loop-rest.at (omega (arith, c.ranges.group)) c.loop-rest.invariant.rest c.loop-rest-test.true in
    omega (arith, next.within, c.requires.within, c.requires.low)

pub bounds-blocks-block : goal.bounds-blocks-block
bounds-blocks-block c =
    let next = next_bit c.args.group c.loop-rest.rest c.loop-rest.at (omega (arith, c.ranges.group)) c.loop-rest.invariant.rest c.loop-rest-test.true in
    omega (arith, next.within, c.requires.within)

pub push_reserved-requires : goal.push_reserved-requires
push_reserved-requires c =
    let skip = trailing_zeros w64 c.loop-rest.rest in
    let next = next_bit c.args.group c.loop-rest.rest c.loop-rest.at (omega (arith, c.ranges.group)) c.loop-rest.invariant.rest c.loop-rest-test.true in
    omega (arith, block-room c.args.group c.args.from c.loop-rest.at skip (omega (arith, c.ranges.group)) next, c.requires.room, c.loop-rest.invariant.few, c.loop-rest.invariant.capacity)

pub returns-clause-few : goal.returns-clause-few
returns-clause-few c =
    let all = tail-words c.args.group c.args.from c.loop-rest.at c.loop-rest.invariant.most (omega (arith, c.loop-rest.invariant.rest, c.loop-rest-test.false)) in
    omega (arith, ap (λ (list : List ℕ). length list) all, words_count 64 c.args.group c.args.from (omega (arith, c.ranges.group)), c.loop-rest.invariant.few)

pub loop-rest-preserved : goal.loop-rest-preserved
loop-rest-preserved c =
    let skip = trailing_zeros w64 c.loop-rest.rest in
    let next = next_bit c.args.group c.loop-rest.rest c.loop-rest.at (omega (arith, c.ranges.group)) c.loop-rest.invariant.rest c.loop-rest-test.true in
    let before = filter (has_bit c.args.group c.args.from) (places_from c.args.from c.loop-rest.at) in
    let longer = ap (λ (list : List ℕ). length list) (word-more c.args.group c.args.from c.loop-rest.at skip [] before next refl) in
    let first = length-append before ((c.args.from + (c.loop-rest.at + skip)) ∷ []) in
    record {
      most = omega (arith, next.within);
      rest = rest-more c.args.group c.loop-rest.rest c.loop-rest.at skip c.loop-rest.invariant.rest;
      found = c.push_reserved.ensures.items ∙ block-more c.args.blocks.now c.args.group c.args.from c.loop-rest.at skip c.args.found.now.items c.loop-rest.found.items next c.loop-rest.invariant.found;
      few = omega (arith, c.push_reserved.ensures.len, c.loop-rest.invariant.few, longer, first);
      capacity = c.push_reserved.ensures.capacity ∙ c.loop-rest.invariant.capacity;
    }

pub returns-clause-blocks : goal.returns-clause-blocks
returns-clause-blocks c =
    c.loop-rest.invariant.found
    ∙ ap (λ (list : List ℕ). c.args.found.now.items ++ map (block_at c.args.blocks.now) list)
    (tail-words c.args.group c.args.from c.loop-rest.at c.loop-rest.invariant.most (omega (arith, c.loop-rest.invariant.rest, c.loop-rest-test.false)))
