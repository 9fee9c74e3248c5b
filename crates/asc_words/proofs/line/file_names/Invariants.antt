use Rattle.std.proofs.Common.{◌≡◌, map, take}
use Rattle.asc_words.proofs.line.file_names.Given as goal

abbrev pub invariant-loop-text : goal.invariant-loop-text
invariant-loop-text l = l.names.items ≡ map (λ s. s.now) (take l.text-index l.texts)
