-- The parts of the words of so many bits are listed, and the rest of the block has the others.
use Rattle.std.proofs.Common.{ℕ, ◌-◌, length}
use Rattle.std.specs.Int.{trailing_zeros, w64}
use Rattle.asc_traj.specs.Inside.{AreHalves, HasGrown, HasSplit, places_of_words}
use Rattle.asc_traj.proofs.Splits.{IsRest, block_of, words_until}
use Rattle.asc_traj.proofs.entry.split_block.Given as goal

abbrev pub invariant-loop-rest : goal.invariant-loop-rest
invariant-loop-rest l = record {
  at : ℕ;
  rest : IsRest l.fn.bits l.rest at;
  halves : AreHalves l.halves;
  grown : HasGrown (length (words_until (block_of l.fn.first l.fn.bits) at)) l.fn.halves l.halves;
  split : HasSplit l.fn.tracer (places_of_words (words_until (block_of l.fn.first l.fn.bits) at)) l.fn.halves l.halves;
}

abbrev pub decreases-loop-rest : goal.decreases-loop-rest
decreases-loop-rest l = 64 - trailing_zeros w64 l.rest
