-- A table without heads.
use Rattle.std.proofs.Common.{◌≡◌, ℕ, zero, suc, length, Option, Some, None, refl, sym, ap, ◌∙◌}
use Rattle.std.specs.Prelude.{List, Vec, replicate, slice_index_or}
use Rattle.std.proofs.lemmas.List.{length-replicate, with_items_is}
use Rattle.std.specs.Vec.{with_items}
use Rattle.asc_seek.specs.declared.heads.Head.{Head}
use Rattle.asc_seek.specs.Heads.{AreEarlier, no_heads, table_slots}
use Rattle.asc_seek.specs.Inside.{AreMetSeldom}

-- nothing stands in it
none_at : (n k : ℕ) → slice_index_or (replicate {A = Option Head} n None) k None ≡ None
none_at zero k = refl
none_at (suc n) zero = refl
none_at (suc n) (suc k) = none_at n k

nothing_at : (n : ℕ) (table : List (Option Head)) → table ≡ replicate n None → (k : ℕ) (h : Head) {P : Type 0}
    → slice_index_or table k None ≡ Some h → P
nothing_at n table e k h is =
    let f : slice_index_or table k None ≡ slice_index_or (replicate n None) k None = ap (λ t. slice_index_or t k None) e in
    let g = none_at n k in
    absurd (cc)

pub record IsEmpty (table : List (Option Head)) : Type 0 where
  pub slots : length table ≡ table_slots
  pub seldom : AreMetSeldom table
  pub early : (count : ℕ) → AreEarlier count table

empty_of : (n : ℕ) (table : List (Option Head)) → table ≡ replicate n None → n ≡ table_slots → IsEmpty table
empty_of n table e is = record {
  slots = ap length e ∙ length-replicate n None ∙ is;
  seldom = λ k h there. nothing_at n table e k h there;
  early = λ count k h there. nothing_at n table e k h there;
}

pub empty : (table : List (Option Head)) → table ≡ no_heads → IsEmpty table
empty table e = empty_of table_slots table e refl

-- a vector that was lent, and came back without heads
pub emptied : {Z : Type 0} (lent : Vec (Option Head) Z) (table : List (Option Head)) → table ≡ no_heads
    → length lent.items ≡ table_slots → (with_items lent table).items ≡ no_heads
emptied lent table none slots =
    let own : length lent.items ≡ lent.len = sym lent.ok.0 in
    let len : length table ≡ lent.len = (empty table none).slots ∙ sym slots ∙ own in
    with_items_is lent table len ∙ none
