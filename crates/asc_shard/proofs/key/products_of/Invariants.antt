-- So many products are made.
use Rattle.std.proofs.Common.{◌≡◌, ◌*◌, ◌%◌, ◌^◌, ◌<◌, ℕ, length, slice_index}
use Rattle.asc_model.specs.Number.{word_at}
use Rattle.asc_shard.specs.Fingerprints.{factor}
use Rattle.asc_shard.proofs.key.products_of.Given as goal

abbrev pub invariant-loop-i : goal.invariant-loop-i
invariant-loop-i l = record {
  size : length l.products ≡ 32;
  counts : (word : ℕ) → word < l.i → slice_index l.products word ≡ word_at l.state.bytes (word * 4) * factor word % 2 ^ 64;
}
