use Rattle.std.proofs.Common.{◌≡◌, ℕ, ◌+◌, ◌-◌, ◌*◌, ◌<◌, ◌≤◌, ◌^◌, ◌∙◌, List, ◌∷◌, [], length, append-nil, length-append, refl, sym, ap, subst, arith}
use Rattle.std.specs.Int.{trailing_zeros, w64}
use Rattle.std.specs.Int.Bits.{bit_and}
use Rattle.std.proofs.lemmas.Nat.{and_le_l}
use Rattle.std.proofs.lemmas.Bool.Decides.{nat_tests}
use Rattle.std.proofs.lemmas.Grind.{common_steps}
use Rattle.asc_model.specs.Places.{places_from}
use Rattle.asc_model.specs.Shape.{length_of}
use Rattle.asc_depvec.specs.Bits.{words_in}
use Rattle.asc_traj.specs.Inside.{HasGrown, HasSplit, places_of_words}
use Rattle.asc_traj.specs.Parts.{all_cells}
use Rattle.asc_traj.proofs.Splits.{HasGrown-more, HasSplit-more, IsRest, IsWord, all-rest, all_words, block_of, places-one, rest-later, rest-less, rest-low, rest-word, word-holds, word-room, words_until}
use Rattle.asc_traj.proofs.entry.split_block.Goals.{After-loop-rest, In-loop-rest}
use Rattle.asc_traj.proofs.entry.split_block.Goals as goal

pub loop-rest-init : goal.loop-rest-init
loop-rest-init c = grind (arith, common_steps, nat_tests, all-rest)

-- the word that a turn takes
next : (c : In-loop-rest) → let k = trailing_zeros w64 c.loop-rest.rest in IsWord (block_of c.args.first c.args.bits) c.loop-rest.invariant.at (c.args.first + k) (k + 1)
next c =
    rest-word (block_of c.args.first c.args.bits) c.loop-rest.rest c.loop-rest.invariant.at _ c.loop-rest.invariant.rest (omega (arith, c.loop-rest.auto.rest-fits)) c.loop-rest-test.true refl

-- and what it leaves
left : (c : In-loop-rest) → let rest = c.loop-rest.rest in IsRest c.args.bits (bit_and rest (rest - 1)) (trailing_zeros w64 rest + 1)
left c = rest-less c.args.bits c.loop-rest.rest c.loop-rest.invariant.at _ c.loop-rest.invariant.rest (omega (arith, c.loop-rest.auto.rest-fits)) c.loop-rest-test.true refl

pub split_word-requires-clause-place : goal.split_word-requires-clause-place
split_word-requires-clause-place c =
    word-holds (λ w. 4 * w + 4 ≤ length_of c.args.tracer.now.state.shape) _ _ _ _ (next (goal.at.split_word-requires-clause-place c).In-loop-rest) c.requires.words

pub split_word-requires-clause-reads : goal.split_word-requires-clause-reads
split_word-requires-clause-reads c =
    let grown = c.loop-rest.invariant.grown in
    omega (arith, word-room _ _ _ _ (next (goal.at.split_word-requires-clause-reads c).In-loop-rest), c.requires.reads, grown.few_reads, grown.room_reads)

pub split_word-requires-clause-writes : goal.split_word-requires-clause-writes
split_word-requires-clause-writes c =
    let grown = c.loop-rest.invariant.grown in
    omega (arith, word-room _ _ _ _ (next (goal.at.split_word-requires-clause-writes c).In-loop-rest), c.requires.writes, grown.few_writes, grown.room_writes)

pub loop-rest-smaller : goal.loop-rest-smaller
loop-rest-smaller c =
    let rest = c.loop-rest.rest in
    let small : rest < 2 ^ 64 = omega (arith, c.loop-rest.auto.rest-fits) in
    let left = left (goal.at.loop-rest-smaller c).In-loop-rest in
    omega (arith, rest-low rest small c.loop-rest-test.true, rest-later c.args.bits _ _ left (omega (arith, small, and_le_l rest (rest - 1))))

pub loop-rest-preserved : goal.loop-rest-preserved
loop-rest-preserved c =
    let here = (goal.at.loop-rest-preserved c).In-loop-rest in
    let inv = c.loop-rest.invariant in
    let word = c.args.first + trailing_zeros w64 c.loop-rest.rest in
    let is = next here in
    let before = words_until (block_of c.args.first c.args.bits) inv.at in
    record {
      at = trailing_zeros w64 c.loop-rest.rest + 1;
      rest = left here;
      halves = c.split_word.ensures.halves;
      grown = HasGrown-more (length before) 1 _ c.args.halves.now c.loop-rest.halves c.split_word.new.halves
          (sym (ap (λ (list : List ℕ). length list) is.more ∙ length-append before (word ∷ []))) inv.grown c.split_word.ensures.grown;
      split = subst (λ (list : List ℕ). HasSplit c.args.tracer.now list c.args.halves.now c.split_word.new.halves) (sym (ap places_of_words is.more ∙ places-one before word))
          (HasSplit-more c.args.tracer.now (places_of_words before) (places_from (4 * word) 4) c.args.halves.now c.loop-rest.halves c.split_word.new.halves inv.split c.split_word.ensures.split);
    }

-- where no bit is left its words are all
all : (c : After-loop-rest) → words_until (block_of c.args.first c.args.bits) c.loop-rest.invariant.at ≡ words_in (block_of c.args.first c.args.bits)
all c = all_words (block_of c.args.first c.args.bits) c.loop-rest.invariant.at (subst (λ (n : ℕ). IsRest c.args.bits n c.loop-rest.invariant.at) c.loop-rest-test.false c.loop-rest.invariant.rest)

pub returns-clause-grown : goal.returns-clause-grown
returns-clause-grown c =
    subst (λ (list : List ℕ). HasGrown (length list) c.args.halves.now c.loop-rest.halves) (all (goal.at.returns-clause-grown c).After-loop-rest) c.loop-rest.invariant.grown

pub returns-clause-split : goal.returns-clause-split
returns-clause-split c =
    subst (λ (list : List ℕ). HasSplit c.args.tracer.now (places_of_words list) c.args.halves.now c.loop-rest.halves) (all (goal.at.returns-clause-split c).After-loop-rest) c.loop-rest.invariant.split
