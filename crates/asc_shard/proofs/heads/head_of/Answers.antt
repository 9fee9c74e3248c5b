use Rattle.std.proofs.Common.{◌∙◌, sym, ap}
use Rattle.asc_shard.specs.Inside.{places_of}
use Rattle.asc_shard.proofs.Keying.{same-places}
use Rattle.asc_shard.proofs.heads.head_of.Goals as goal

pub returns-clause-head : goal.returns-clause-head
returns-clause-head c = record {
  fit = c.words_of-len.ensures.fit;
  low = c.words_of-len.ensures.low;
  places = λ some e true_e same.
      same-places e c.args.entry.now true_e c.truth.ensures (same ∙ c.requires) ∙ ap places_of (sym c.first_parts.ensures.first) ∙ c.words_of-len.ensures.places some;
}
