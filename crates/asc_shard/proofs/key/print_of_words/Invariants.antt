-- The fingerprint of so many words.
use Rattle.std.proofs.Common.{◌≡◌, ◌%◌, ◌^◌, slice_index, take}
use Rattle.std.specs.Prelude.{sum_by}
use Rattle.asc_shard.proofs.key.print_of_words.Given as goal

abbrev pub invariant-loop-word : goal.invariant-loop-word
invariant-loop-word l = l.print ≡ sum_by (slice_index l.products) (take l.word-index l.words) % 2 ^ 64
