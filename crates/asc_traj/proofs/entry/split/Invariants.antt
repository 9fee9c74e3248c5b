-- The parts of the words of so many blocks are listed.
use Rattle.std.proofs.Common.{◌≡◌, ◌≤◌, length, take}
use Rattle.std.specs.Prelude.{vec_capacity, vec_len}
use Rattle.asc_depvec.specs.Bits.{words_of_blocks}
use Rattle.asc_traj.specs.Inside.{AreHalves, places_of_words, read_first, started, written}
use Rattle.asc_traj.specs.Parts.{all_cells}
use Rattle.asc_traj.proofs.entry.split.Given as goal

abbrev pub invariant-loop-block : goal.invariant-loop-block
invariant-loop-block l = record {
  halves : AreHalves l.halves;
  reads : all_cells l.halves.reads.items ≡ read_first l.fn.tracer (started l.fn.tracer (places_of_words (words_of_blocks (take l.block-index l.fn.blocks))));
  writes : all_cells l.halves.writes.items ≡ written l.fn.tracer (started l.fn.tracer (places_of_words (words_of_blocks (take l.block-index l.fn.blocks))));
  few_reads : vec_len l.halves.reads ≤ length (words_of_blocks (take l.block-index l.fn.blocks));
  few_writes : vec_len l.halves.writes ≤ length (words_of_blocks (take l.block-index l.fn.blocks));
  room_reads : length (words_of_blocks l.fn.blocks) ≤ vec_capacity l.halves.reads;
  room_writes : length (words_of_blocks l.fn.blocks) ≤ vec_capacity l.halves.writes;
}
