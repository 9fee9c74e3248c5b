-- So many parts are whole words.
use Rattle.std.proofs.Common.{◌≡◌, ◌-◌, ◌<◌, ◌≤◌, length, take}
use Rattle.std.specs.Prelude.{All}
use Rattle.asc_traj.specs.Parts.{all_cells}
use Rattle.asc_shard.specs.Inside.{places_of, word_places}
use Rattle.asc_shard.proofs.heads.words_of.Given as goal

abbrev pub invariant-loop-len : goal.invariant-loop-len
invariant-loop-len l = record {
  room : length l.words ≡ 32;
  most : l.len ≤ length l.parts;
  fit : l.len ≤ 32;
  low : All (λ word. word < 32) (take l.len l.words);
  places : places_of (all_cells (take l.len l.parts)) ≡ word_places (take l.len l.words);
}

abbrev pub decreases-loop-len : goal.decreases-loop-len
decreases-loop-len l = length l.parts - l.len
