-- The words of so many blocks are counted.
use Rattle.std.proofs.Common.{◌≡◌, length, take}
use Rattle.asc_depvec.specs.Bits.{words_of_blocks}
use Rattle.asc_traj.proofs.entry.count_words.Given as goal

abbrev pub invariant-loop-block : goal.invariant-loop-block
invariant-loop-block l = l.words ≡ length (words_of_blocks (take l.block-index l.fn.blocks))
