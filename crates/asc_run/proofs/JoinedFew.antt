-- The join of two entries is an entry, and has no more reads than both have together, and no more writes.
use Rattle.std.proofs.Common.{◌≡◌, ℕ, zero, suc, ◌+◌, ◌^◌, ◌<◌, ◌≤◌, Bool, true, false, ◌||◌, ◌==◌, ◌⊎◌, inl, inr, List, [], ◌∷◌, length, Option, Some, None, if◌then◌else◌, refl, sym, ap, subst, ◌∙◌, arith}
use Rattle.std.specs.Prelude.{count_by}
use Rattle.std.specs.Option.{is_some, option_or}
use Rattle.std.proofs.lemmas.Bool.{cases_eq, eq-eqb, ne_eqb}
use Rattle.std.proofs.lemmas.List.{length-map}
use Rattle.std.proofs.lemmas.List.Sums.{length-filter, sum_by-cons}
use Rattle.asc_model.specs.Shape.{Shape, length_of}
use Rattle.asc_model.specs.Places.{places_from}
use Rattle.asc_model.specs.Entry.{Entry, IsListing, IsEntry}
use Rattle.asc_model.specs.Join.{byte_in, known_after, read_by_both, left_by_both, cells_by}
use Rattle.asc_model.proofs.Listings.{RisesFrom, RisesFrom-filter, increasing-RisesFrom}
use Rattle.asc_model.proofs.Joins.{places_of, byte_in-behind, all_cells, places-cells_from, cells_from-each, joined}
use Rattle.asc_shape.proofs.Faces.{count_by-le-count_by}

-- ---- counts of places

-- one place more
count-more : (f : ℕ → Bool) (b : Bool) (p : ℕ) (places : List ℕ) → f p ≡ b → count_by f (p ∷ places) ≡ (if b then 1 else 0) + count_by f places
count-more f b p places e = sum_by-cons (λ q. if f q then 1 else 0) p places ∙ ap (λ (c : Bool). (if c then 1 else 0) + count_by f places) e

-- no later place is an earlier one
none-later : (q place n : ℕ) → q < place → count_by (λ p. q == p) (places_from place n) ≡ 0
none-later q place zero lt = refl
none-later q place (suc n) lt =
    let here = count-more (λ p. q == p) false place (places_from (place + 1) n) (ne_eqb q place (λ e. omega arith)) in
    let later = none-later q (place + 1) n (omega arith) in
    omega (arith, here, later)

-- a place stands among them once at most
once : (q place n : ℕ) → count_by (λ p. q == p) (places_from place n) ≤ 1
once q place zero = omega arith
once q place (suc n) = elim (cases_eq q place) [
  | inl same ↦
      let here = count-more (λ p. q == p) true place (places_from (place + 1) n) (eq-eqb q place same) in
      let later = none-later q (place + 1) n (omega (arith, same)) in
      omega (arith, here, later)
  | inr apart ↦
      let here = count-more (λ p. q == p) false place (places_from (place + 1) n) (ne_eqb q place apart) in
      let later = once q (place + 1) n in
      omega (arith, here, later)
]

-- of one test or another there are no more than of both together
one_of : (x y : Bool) → (if x || y then 1 else 0) ≤ (if x then 1 else 0) + (if y then 1 else 0)
one_of true true = omega arith
one_of true false = omega arith
one_of false true = omega arith
one_of false false = omega arith

either-few : (f g : ℕ → Bool) (places : List ℕ) → count_by (λ p. f p || g p) places ≤ count_by f places + count_by g places
either-few f g [] = omega arith
either-few f g (p ∷ places) =
    let both = count-more (λ p. f p || g p) (f p || g p) p places refl in
    let first = count-more f (f p) p places refl in
    let second = count-more g (g p) p places refl in
    let here = one_of (f p) (g p) in
    let rest = either-few f g places in
    omega (arith, both, first, second, here, rest)

none-few : (places : List ℕ) → count_by (λ p. false) places ≡ 0
none-few [] = refl
none-few (p ∷ places) = let here = count-more (λ p. false) false p places refl in let rest = none-few places in omega (arith, here, rest)

-- ---- cells as a map

-- whether cells have a place
abbrev has : List (ℕ × ℕ) → ℕ → Bool
has cells place = is_some (byte_in cells place)

has-cell : (cell : ℕ × ℕ) (cells : List (ℕ × ℕ)) (p : ℕ) → has (cell ∷ cells) p ≡ true → ((cell.0 == p) || has cells p) ≡ true
has-cell cell cells p h = elim (cases_eq cell.0 p) [
  | inl same ↦ ap (λ b. b || has cells p) (eq-eqb cell.0 p same)
  | inr apart ↦ ap (λ b. b || has cells p) (ne_eqb cell.0 p apart) ∙ sym (ap is_some (byte_in-behind cell cells p apart)) ∙ h
]

-- places have no more bytes than there are cells
has-few : (cells : List (ℕ × ℕ)) (place n : ℕ) → count_by (has cells) (places_from place n) ≤ length cells
has-few [] place n = let none = none-few (places_from place n) in omega (arith, none)
has-few (cell ∷ cells) place n =
    let all = places_from place n in
    let split = count_by-le-count_by (has (cell ∷ cells)) (λ p. (cell.0 == p) || has cells p) (has-cell cell cells) all in
    let parts = either-few (λ p. cell.0 == p) (has cells) all in
    omega (arith, split, parts, once cell.0 place n, has-few cells place n)

-- ---- a map of which each byte is one that these cells have, or those

module _ (shape : Shape) (R : ℕ → Option ℕ) (these those : List (ℕ × ℕ))
    (from : (p byte : ℕ) → R p ≡ Some byte → (byte_in these p ≡ Some byte) ⊎ (byte_in those p ≡ Some byte)) where
  has-either : (p : ℕ) → is_some (R p) ≡ true → (has these p || has those p) ≡ true
  has-either p = by (R p) refl
    where
      by : (o : Option ℕ) → R p ≡ o → is_some o ≡ true → (has these p || has those p) ≡ true
      by None e some = absurd (cc)
      by (Some byte) e some = elim (from p byte e) [
        | inl is ↦ ap (λ (o : Option ℕ). is_some o || has those p) is
        | inr is ↦ ap (λ (o : Option ℕ). has these p || is_some o) is ∙ or_true (has these p)
      ]
        where
          or_true : (b : Bool) → b || true ≡ true
          or_true true = refl
          or_true false = refl

  -- the map has no more cells than both together
  cells-few : length (cells_by shape R) ≤ length these + length those
  cells-few =
      let n = length_of shape in
      let all = places_from 0 n in
      let count : length (cells_by shape R) ≡ count_by (λ p. is_some (R p)) all =
      sym (length-map (cells_by shape R) (λ cell. cell.0)) ∙ ap length (places-cells_from R 0 n) ∙ length-filter (λ p. is_some (R p)) all in
      let split = count_by-le-count_by (λ p. is_some (R p)) (λ p. has these p || has those p) has-either all in
      let parts = either-few (has these) (has those) all in
      omega (arith, count, split, parts, has-few these 0 n, has-few those 0 n)

  -- and they are a listing, where both are
  cells-IsListing : IsListing shape these → IsListing shape those → IsListing shape (cells_by shape R)
  cells-IsListing first second =
      let n = length_of shape in
      record {
        rise = increasing-RisesFrom 0 (places_of (cells_by shape R)) (subst (RisesFrom 0) (sym (places-cells_from R 0 n)) (RisesFrom-filter (λ p. is_some (R p)) 0 n));
        places = cells_from-each (λ cell. cell.0 < length_of shape) R 0 n (λ p byte lt is. omega arith);
        bytes = cells_from-each (λ cell. cell.1 < 2 ^ 8) R 0 n (λ p byte lt is. elim (from p byte is) [
          | inl h ↦ all_cells (λ cell. cell.1 < 2 ^ 8) these first.bytes p byte h
          | inr h ↦ all_cells (λ cell. cell.1 < 2 ^ 8) those second.bytes p byte h
        ]);
      }

-- ---- the join of two entries

read-from : (told : Bool) (x y : Option ℕ) (byte : ℕ) → (if told then x else y) ≡ Some byte → (x ≡ Some byte) ⊎ (y ≡ Some byte)
read-from true x y byte e = inl e
read-from false x y byte e = inr e

left-from : (x y : Option ℕ) (byte : ℕ) → option_or x y ≡ Some byte → (x ≡ Some byte) ⊎ (y ≡ Some byte)
left-from None y byte e = inr e
left-from (Some other) y byte e = inl e

module _ (a b : Entry) where
  reads-from : (p byte : ℕ) → read_by_both a b p ≡ Some byte → (byte_in a.reads p ≡ Some byte) ⊎ (byte_in b.reads p ≡ Some byte)
  reads-from p = read-from (is_some (known_after a p)) (byte_in a.reads p) (byte_in b.reads p)

  writes-from : (p byte : ℕ) → left_by_both a b p ≡ Some byte → (byte_in b.writes p ≡ Some byte) ⊎ (byte_in a.writes p ≡ Some byte)
  writes-from p = left-from (byte_in b.writes p) (byte_in a.writes p)

  pub reads-few : length (joined a b).reads ≤ length a.reads + length b.reads
  reads-few = cells-few a.shape (read_by_both a b) a.reads b.reads reads-from

  pub writes-few : length (joined a b).writes ≤ length b.writes + length a.writes
  writes-few = cells-few a.shape (left_by_both a b) b.writes a.writes writes-from

  pub joined-IsEntry : IsEntry a → IsEntry b → b.shape ≡ a.shape → IsEntry (joined a b)
  joined-IsEntry first second same = record {
    shape = first.shape;
    reads = cells-IsListing a.shape (read_by_both a b) a.reads b.reads reads-from first.reads (subst (λ shape. IsListing shape b.reads) same second.reads);
    writes = cells-IsListing a.shape (left_by_both a b) b.writes a.writes writes-from (subst (λ shape. IsListing shape b.writes) same second.writes) first.writes;
    steps = let some = first.steps in omega (arith, some);
  }
