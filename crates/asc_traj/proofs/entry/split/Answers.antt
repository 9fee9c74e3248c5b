use Rattle.std.proofs.Common.{ℕ, ◌+◌, ◌*◌, ◌≤◌, ◌++◌, ◌∙◌, List, length, length-append, take, get_or, sym, ap, arith}
use Rattle.std.proofs.lemmas.List.Folds.{length-flat_map-take}
use Rattle.std.proofs.lemmas.Bool.Decides.{nat_tests}
use Rattle.std.proofs.lemmas.Grind.{common_steps}
use Rattle.asc_model.specs.Shape.{length_of}
use Rattle.asc_depvec.specs.Bits.{words_in, words_of_blocks}
use Rattle.asc_traj.specs.Inside.{places_of_words, read_first, started, written}
use Rattle.asc_traj.proofs.Splits.{block-holds, blocks-take, none, places-append, read_first-append, written-append}
use Rattle.asc_traj.proofs.entry.split.Goals as goal

pub split_block-requires-clause-words : goal.split_block-requires-clause-words
split_block-requires-clause-words c =
    block-holds (λ word. 4 * word + 4 ≤ length_of c.args.tracer.now.state.shape) c.args.blocks.now c.loop-block.block-index none c.loop-block-test.true c.requires.words

pub split_block-requires-clause-reads : goal.split_block-requires-clause-reads
split_block-requires-clause-reads c =
    omega (arith, length-flat_map-take words_in c.args.blocks.now c.loop-block.block-index none c.loop-block-test.true, c.loop-block.invariant.few_reads, c.loop-block.invariant.room_reads)

pub split_block-requires-clause-writes : goal.split_block-requires-clause-writes
split_block-requires-clause-writes c =
    omega (arith, length-flat_map-take words_in c.args.blocks.now c.loop-block.block-index none c.loop-block-test.true, c.loop-block.invariant.few_writes, c.loop-block.invariant.room_writes)

pub loop-block-preserved : goal.loop-block-preserved
loop-block-preserved c = grind (arith, common_steps, nat_tests, blocks-take, none, places-append, read_first-append, written-append)
