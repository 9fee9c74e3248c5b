-- Readers that were lent, and the writers that they meet.
use Rattle.std.proofs.Common.{ℕ, ◌<◌, List, [], ◌∷◌, length, get_or, ◌∙◌, arith}
use Rattle.asc_cache.proofs.Fronts.{prefix_trans}
use Rattle.asc_cache.specs.Cache.{AreLater, IsLater, ShardReader, ShardWriter}
use Rattle.asc_live.specs.Crew.{HasMet}
use Rattle.asc_live.proofs.Opening.{stays_own}

-- readers that have learnt twice have learnt
pub later_twice : (one two three : List ShardReader) → AreLater one two → AreLater two three → AreLater one three
later_twice one two three first then = record {
  count = then.count ∙ first.count;
  each = λ i d l.
      let a : IsLater (get_or one i d) (get_or two i d) = first.each i d l in
      let b : IsLater (get_or two i d) (get_or three i d) = then.each i d (omega (arith, l, first.count)) in record {
        shard = b.shard ∙ a.shard;
        capacity = b.capacity ∙ a.capacity;
        seen = prefix_trans (get_or one i d).seen (get_or two i d).seen (get_or three i d).seen a.seen b.seen;
      };
}

-- a reader that has met its writer has met it still, once the readers have learnt more
pub stays_met : (old new : List ShardReader) → AreLater old new → (w : ShardWriter) → HasMet old w → HasMet new w
stays_met old new later w met = record {
  own = stays_own old new later w met.own;
  seen = λ d. prefix_trans w.stored (get_or old w.index d).seen (get_or new w.index d).seen (met.seen d) (later.each w.index d met.own.there).seen;
}

-- a list that is so long has an element
pub one_of : {X : Type 0} (xs : List X) (i : ℕ) → i < length xs → X
one_of [] i l = absurd (omega (arith, l))
one_of (x ∷ xs) i l = x
