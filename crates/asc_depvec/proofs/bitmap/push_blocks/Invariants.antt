-- The blocks of so many bits are listed, and the rest of the group has the others.
use Rattle.std.proofs.Common.{◌≡◌, ◌+◌, ◌-◌, ◌/◌, ◌^◌, ◌≤◌, ◌++◌, length, map}
use Rattle.std.specs.Prelude.{filter, vec_capacity, vec_len}
use Rattle.asc_model.specs.Places.{places_from}
use Rattle.asc_depvec.specs.Bits.{block_at, has_bit}
use Rattle.asc_depvec.proofs.bitmap.push_blocks.Given as goal

abbrev pub invariant-loop-rest : goal.invariant-loop-rest
invariant-loop-rest l = record {
  most : l.at ≤ 64;
  rest : l.rest ≡ l.fn.group / 2 ^ l.at;
  found : l.found.items ≡ l.fn.found.items ++ map (block_at l.fn.blocks) (filter (has_bit l.fn.group l.fn.from) (places_from l.fn.from l.at));
  few : vec_len l.found ≡ vec_len l.fn.found + length (filter (has_bit l.fn.group l.fn.from) (places_from l.fn.from l.at));
  capacity : vec_capacity l.found ≡ vec_capacity l.fn.found;
}

abbrev pub decreases-loop-rest : goal.decreases-loop-rest
decreases-loop-rest l = 64 - l.at
