-- The fingerprint of so many words.
use Rattle.std.proofs.Common.{◌≡◌, ◌*◌, ◌%◌, ◌^◌, take}
use Rattle.std.specs.Prelude.{sum_by}
use Rattle.asc_model.specs.Number.{word_at}
use Rattle.asc_shard.specs.Fingerprints.{factor}
use Rattle.asc_shard.proofs.key.print_of_state.Given as goal

abbrev pub invariant-loop-word : goal.invariant-loop-word
invariant-loop-word l = l.print ≡ sum_by (λ w. word_at l.state.bytes (w * 4) * factor w) (take l.word-index l.words) % 2 ^ 64
