use Rattle.std.proofs.Common.{arith}
use Rattle.std.proofs.lemmas.List.Folds.{length-flat_map-take}
use Rattle.std.proofs.lemmas.Bool.Decides.{nat_tests}
use Rattle.std.proofs.lemmas.Grind.{common_steps}
use Rattle.asc_depvec.specs.Bits.{words_in}
use Rattle.asc_traj.proofs.Splits.{blocks-take, none}
use Rattle.asc_traj.proofs.entry.count_words.Goals as goal

pub overflow_add-words : goal.overflow_add-words
overflow_add-words c =
    omega (arith, length-flat_map-take words_in c.args.blocks.now c.loop-block.block-index none c.loop-block-test.true, c.loop-block.invariant, c.word_count-words.ensures, c.requires)

pub loop-block-preserved : goal.loop-block-preserved
loop-block-preserved c = grind (arith, common_steps, nat_tests, blocks-take, none)
