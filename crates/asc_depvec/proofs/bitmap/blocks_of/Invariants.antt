-- The blocks of the groups before one are listed, and the others are still to come.
use Rattle.std.proofs.Common.{◌≡◌, ◌*◌, ◌≤◌, length, map, slice_index, take}
use Rattle.std.specs.Prelude.{filter, sum_by, vec_capacity, vec_len, count_ones}
use Rattle.asc_model.specs.Places.{places_from}
use Rattle.asc_depvec.specs.Bits.{block_at, has_word}
use Rattle.asc_depvec.proofs.Bits.{AreLeft}
use Rattle.asc_depvec.proofs.bitmap.blocks_of.Given as goal

abbrev pub invariant-loop-group : goal.invariant-loop-group
invariant-loop-group l = record {
  next : l.next ≤ length l.fn.groups;
  found : l.found.items ≡ map (block_at l.fn.blocks) (filter (has_word l.fn.groups) (places_from 0 (64 * l.next)));
  left : AreLeft l.fn.groups l.fn.used l.next l.group-index;
  few : vec_len l.found ≤ sum_by (λ group. count_ones (slice_index l.fn.groups group)) (take l.group-index l.fn.used);
  capacity : sum_by (λ group. count_ones (slice_index l.fn.groups group)) l.fn.used ≤ vec_capacity l.found;
}
