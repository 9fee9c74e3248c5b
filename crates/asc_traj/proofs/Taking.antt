-- Parts of one word taken off the front of parts, and the bytes of cells that parts have.
use Rattle.std.proofs.Common.{◌≡◌, ℕ, zero, suc, ◌+◌, ◌*◌, ◌/◌, ◌%◌, ◌^◌, ◌<◌, ◌≤◌, ◌==◌, Bool, true, false, cond, List, [], ◌∷◌, ◌++◌, length, Option, Some, None, if◌then◌else◌, refl, sym, ap, subst, ◌∙◌, inl, inr, arith}
use Rattle.std.specs.Prelude.{All}
use Rattle.std.specs.List.{slice_get}
use Rattle.std.specs.List.Sorted.{IsStrictlyIncreasing}
use Rattle.std.specs.Option.{option_or}
use Rattle.std.proofs.Math.Nat.{pow-suc}
use Rattle.std.proofs.lemmas.Bool.{cases_eq, eq-eqb, ne_eqb}
use Rattle.std.proofs.lemmas.List.Elements.{All-head, All-tail}
use Rattle.std.proofs.lemmas.Nat.Bits.{bit_at-zero}
use Rattle.std.proofs.lemmas.Option.{none-some, same_Some}
use Rattle.std.proofs.lemmas.Bool.Decides.{nat_tests}
use Rattle.asc_model.specs.Shape.{Shape, IsShape, length_of}
use Rattle.asc_model.specs.Entry.{IsListing}
use Rattle.asc_model.specs.Join.{byte_in}
use Rattle.asc_model.proofs.Listings.{RisesFrom, RisesFrom-increasing, RisesFrom-lower, increasing-RisesFrom}
use Rattle.asc_model.proofs.Joins.{byte_in-first, byte_in-behind, byte_in-below}
use Rattle.asc_depvec.proofs.Insides.{low_shape}
use Rattle.asc_traj.specs.declared.part.Part.{Part}
use Rattle.asc_traj.specs.declared.join.WordBytes.{WordBytes}
use Rattle.asc_traj.specs.Parts.{IsPart, all_cells, masked, part_cells, word_place}
use Rattle.asc_traj.specs.Joining.{HasTaken, Rises, byte_of, first_of}
use Rattle.asc_traj.proofs.Parts.{div-one, here, masked-zero}
use Rattle.asc_traj.proofs.Places.{places_of}
use Rattle.asc_traj.proofs.Masks.{word_bytes, shift-down}

-- ---- how many cells

masked-count : (n mask place word : ℕ) → length (masked (suc n) mask place word) ≡ mask % 2 + length (masked n (mask / 2) (place + 1) (word / 2 ^ 8))
unfolding masked
masked-count n mask place word = grind (arith, nat_tests, here)

-- a part has a cell for each bit of its mask
pub part-count : (p : Part) → let m = p.at % 16 in length (part_cells p) ≡ m % 2 + m / 2 % 2 + m / 4 % 2 + m / 8 % 2
unfolding part_cells
part-count p = grind (arith, nat_tests, masked-count, masked-zero)

-- ---- bytes of cells

first_or : (b : Bool) (v : ℕ) (o p q : Option ℕ) → o ≡ option_or p q → cond b (Some v) o ≡ option_or (cond b (Some v) p) q
first_or b v o p q e = grind arith

byte_in-append : (xs ys : List (ℕ × ℕ)) (place : ℕ) → byte_in (xs ++ ys) place ≡ option_or (byte_in xs place) (byte_in ys place)
byte_in-append [] ys place = refl
byte_in-append (cell ∷ xs) ys place = first_or (cell.0 == place) cell.1 (byte_in (xs ++ ys) place) (byte_in xs place) (byte_in ys place) (byte_in-append xs ys place)

or-none : (o : Option ℕ) → option_or o None ≡ o
or-none o = grind arith

or-assoc : (o p q : Option ℕ) → option_or (option_or o p) q ≡ option_or o (option_or p q)
or-assoc o p q = grind arith

here-at : (b : Bool) (place byte at : ℕ) → place ≡ at → byte_in (here b (place, byte)) at ≡ (if b then Some byte else None)
here-at true place byte at same = byte_in-first (place, byte) [] at same
here-at false place byte at same = refl

here-off : (b : Bool) (place byte at : ℕ) → (place ≡ at → ⊥) → byte_in (here b (place, byte)) at ≡ None
here-off true place byte at apart = byte_in-behind (place, byte) [] at apart
here-off false place byte at apart = refl

masked-byte : (n mask place word at : ℕ) → byte_in (masked (suc n) mask place word) at
    ≡ option_or (byte_in (here (mask % 2 == 1) (place, word % 2 ^ 8)) at) (byte_in (masked n (mask / 2) (place + 1) (word / 2 ^ 8)) at)
unfolding masked
masked-byte n mask place word at = byte_in-append (here (mask % 2 == 1) (place, word % 2 ^ 8)) (masked n (mask / 2) (place + 1) (word / 2 ^ 8)) at

-- no byte of a mask is elsewhere
masked-off : (n mask place word at : ℕ) → ((k : ℕ) → k < n → at ≡ place + k → ⊥) → byte_in (masked n mask place word) at ≡ None
masked-off zero mask place word at off = ap (λ (list : List (ℕ × ℕ)). byte_in list at) (masked-zero mask place word)
masked-off (suc n) mask place word at off =
    let first = here-off (mask % 2 == 1) place (word % 2 ^ 8) at (λ same. off 0 (omega arith) (omega (arith, same))) in
    let later = masked-off n (mask / 2) (place + 1) (word / 2 ^ 8) at (λ k lt is. off (suc k) (omega (arith, lt)) (omega (arith, is))) in
    masked-byte n mask place word at ∙ λ i. option_or (first i) (later i)

-- each byte of a mask
pub masked-at : (n mask place word k at : ℕ) → k < n → at ≡ place + k
    → byte_in (masked n mask place word) at ≡ (if mask / 2 ^ k % 2 == 1 then Some (word / 256 ^ k % 256) else None)
masked-at zero mask place word k at lt is = absurd (omega arith)
masked-at (suc n) mask place word zero at lt is = grind (arith, nat_tests, div-one, here-at, masked-byte, masked-off, or-none)
masked-at (suc n) mask place word (suc k) at lt is = grind (arith, nat_tests, here-off, masked-byte, shift-down, masked-at n (mask / 2) (place + 1) (word / 2 ^ 8) k at (omega arith) (omega arith))

-- what a part has
abbrev pub of_part : Part → WordBytes
of_part p = word_bytes (p.at % 16) p.word

part-at : (p : Part) (k at : ℕ) → k < 4 → at ≡ word_place p + k → byte_in (part_cells p) at ≡ byte_of (of_part p) k
unfolding part_cells
part-at p k at lt is = masked-at 4 (p.at % 16) (word_place p) p.word k at lt is

part-off : (p : Part) (at : ℕ) → ((k : ℕ) → k < 4 → at ≡ word_place p + k → ⊥) → byte_in (part_cells p) at ≡ None
unfolding part_cells
part-off p at off = masked-off 4 (p.at % 16) (word_place p) p.word at off

-- ---- parts whose cells rise

rises-from : (parts : List Part) → Rises parts → RisesFrom 0 (places_of (all_cells parts))
rises-from parts h = RisesFrom-increasing 0 (places_of (all_cells parts)) h.rise (λ lt. omega arith)

-- what is known behind the bytes of a mask, and of their first one
record Behind (low place n : ℕ) (rest : List (ℕ × ℕ)) : Type 0 where
  rise : RisesFrom (place + 1) (places_of rest)
  least : low < place + n

behind-cells : (low : ℕ) (xs ys : List (ℕ × ℕ)) → RisesFrom low (places_of (xs ++ ys)) → RisesFrom low (places_of ys)
behind-cells low [] ys rise = rise
behind-cells low (cell ∷ xs) ys rise = RisesFrom-lower low (cell.0 + 1) (places_of ys) (omega (arith, rise.0)) (behind-cells (cell.0 + 1) xs ys rise.1)

behind-masked : (n mask place word low : ℕ) (rest : List (ℕ × ℕ)) → 0 < mask → mask < 2 ^ n → RisesFrom low (places_of (masked n mask place word ++ rest)) → Behind low place n rest
unfolding masked
behind-masked zero mask place word low rest some few rise = absurd (let none : mask < 1 = few in omega arith)
behind-masked (suc n) mask place word low rest some few rise =
    let later = masked n (mask / 2) (place + 1) (word / 2 ^ 8) in
    let all = λ (b : Bool). RisesFrom low (places_of (here b (place, word % 2 ^ 8) ++ later ++ rest)) in
    elim (cases_eq (mask % 2) 1) [
      | inl odd ↦
          let one = subst all (eq-eqb (mask % 2) 1 odd) rise in
          record { rise = behind-cells (place + 1) later rest one.1; least = omega (arith, one.0) }
      | inr even ↦
          let none = subst all (ne_eqb (mask % 2) 1 even) rise in
          let next = behind-masked n (mask / 2) (place + 1) (word / 2 ^ 8) low rest (omega (arith, even)) (omega (arith, few, pow-suc 2 n)) none in
          record { rise = RisesFrom-lower (place + 1) (place + 1 + 1) (places_of rest) (omega arith) next.rise; least = omega (arith, next.least) }
    ]

behind-part : (low : ℕ) (p : Part) (parts : List Part) → IsPart p → RisesFrom low (places_of (all_cells (p ∷ parts))) → Behind low (word_place p) 4 (all_cells parts)
unfolding part_cells
behind-part low p parts is rise = grind (arith, nat_tests, behind-masked)

Rises-behind : (p : Part) (parts : List Part) → Rises (p ∷ parts) → Rises parts
Rises-behind p parts h = record {
  rise = increasing-RisesFrom 0 (places_of (all_cells parts)) (RisesFrom-lower 0 (word_place p + 1) (places_of (all_cells parts)) (omega arith) (behind-part 0 p parts (All-head IsPart p parts h.are) (rises-from (p ∷ parts) h)).rise);
  are = All-tail IsPart p parts h.are;
}

-- the part behind one is of its word or of a later one
first-behind : (index : ℕ) (p : Part) (parts : List Part) → Rises (p ∷ parts) → p.at / 16 ≡ index → index < 2 ^ 28 → index ≤ first_of parts
first-behind index p [] h is low = omega arith
first-behind index p (q ∷ parts) h is low =
    let behind = behind-part 0 p (q ∷ parts) (All-head IsPart p (q ∷ parts) h.are) (rises-from (p ∷ q ∷ parts) h) in
    let next = behind-part (word_place p + 1) q parts (All-head IsPart q parts (All-tail IsPart p (q ∷ parts) h.are)) behind.rise in
    let lt : word_place p + 1 < word_place q + 4 = next.least in
    omega (arith, lt, is)

-- no byte is below the first one's word
pub none-before : (parts : List Part) (at : ℕ) → Rises parts → at < 4 * first_of parts → byte_in (all_cells parts) at ≡ None
none-before [] at h lt = refl
none-before (p ∷ parts) at h lt =
    let behind = behind-part 0 p parts (All-head IsPart p parts h.are) (rises-from (p ∷ parts) h) in
    let before : at < word_place p = omega (arith, lt) in
    byte_in-append (part_cells p) (all_cells parts) at ∙ ap (λ (o : Option ℕ). option_or o (byte_in (all_cells parts) at)) (part-off p at (λ k few same. omega (arith, before, same)))
    ∙ byte_in-below (word_place p + 1) (all_cells parts) at behind.rise (omega (arith, before))

-- ---- parts taken

-- those of a word that are taken so far, and what is left
pub record IsTaking (index : ℕ) (parts : List Part) (found : WordBytes) (rest : List Part) : Type 0 where
  pub low : found.mask < 16
  pub bytes : (k : ℕ) → k < 4 → option_or (byte_of found k) (byte_in (all_cells rest) (4 * index + k)) ≡ byte_in (all_cells parts) (4 * index + k)
  pub others : (place : ℕ) → 4 * index + 4 ≤ place → byte_in (all_cells rest) place ≡ byte_in (all_cells parts) place
  pub first : index ≤ first_of rest
  pub rises : Rises rest
  pub fewer : length rest ≤ length parts
  pub none : length rest ≡ length parts → found.mask ≡ 0

no-byte : (k : ℕ) → byte_of (word_bytes 0 0) k ≡ None
no-byte k = ap (λ (m : ℕ). if m == 1 then Some (0 / 256 ^ k % 256) else None) (bit_at-zero k)

pub takes-none : (index : ℕ) (parts : List Part) → index ≤ first_of parts → Rises parts → IsTaking index parts (word_bytes 0 0) parts
takes-none index parts first rises = record {
  low = omega arith;
  bytes = λ k lt. ap (λ (o : Option ℕ). option_or o (byte_in (all_cells parts) (4 * index + k))) (no-byte k);
  others = λ place le. refl;
  first = first;
  rises = rises;
  fewer = omega arith;
  none = λ same. refl;
}

pub takes-more : (index : ℕ) (parts : List Part) (found more : WordBytes) (p : Part) (rest : List Part) → IsTaking index parts found (p ∷ rest) → index < 2 ^ 28 → p.at / 16 ≡ index
    → more.mask < 16 → ((k : ℕ) → k < 4 → byte_of more k ≡ option_or (byte_of found k) (byte_of (of_part p) k)) → IsTaking index parts more rest
takes-more index parts found more p rest h small is low bytes = record {
  low = low;
  bytes = λ k lt.
      let at = 4 * index + k in
      let there : at ≡ word_place p + k = omega (arith, is) in
      ap (λ (o : Option ℕ). option_or o (byte_in (all_cells rest) at)) (bytes k lt) ∙ or-assoc (byte_of found k) (byte_of (of_part p) k) (byte_in (all_cells rest) at)
      ∙ ap (λ (o : Option ℕ). option_or (byte_of found k) (option_or o (byte_in (all_cells rest) at))) (sym (part-at p k at lt there))
      ∙ ap (option_or (byte_of found k)) (sym (byte_in-append (part_cells p) (all_cells rest) at)) ∙ h.bytes k lt;
  others = λ place le.
      sym (ap (λ (o : Option ℕ). option_or o (byte_in (all_cells rest) place)) (part-off p place (λ k few same. omega (arith, is, le, few, same)))) ∙ sym (byte_in-append (part_cells p) (all_cells rest) place)
      ∙ h.others place le;
  first = first-behind index p rest h.rises is small;
  rises = Rises-behind p rest h.rises;
  fewer = omega (arith, h.fewer);
  none = λ same. absurd (omega (arith, h.fewer, same));
}

pub takes-all : (index : ℕ) (parts : List Part) (found : WordBytes) (rest : List Part) → IsTaking index parts found rest → index < first_of rest → HasTaken index parts found rest
takes-all index parts found rest h later = record {
  low = h.low;
  bytes = λ k lt.
      sym (or-none (byte_of found k)) ∙ ap (option_or (byte_of found k)) (sym (none-before rest (4 * index + k) h.rises (omega (arith, lt, later)))) ∙ h.bytes k lt;
  others = h.others;
  later = later;
  rises = h.rises;
  fewer = h.fewer;
  none = h.none;
}

-- ---- ends of the parts taken

pub later-first : (index : ℕ) (rest : List Part) (p : Part) (behind : List Part) → rest ≡ p ∷ behind → index ≤ first_of rest → (p.at / 16 ≡ index → ⊥) → index < first_of rest
later-first index rest p behind is le apart = grind (arith, nat_tests)

pub later-none : (index : ℕ) (rest : List Part) → length rest ≡ 0 → index < 2 ^ 28 → index < first_of rest
later-none index [] none small = small
later-none index (p ∷ rest) none small = absurd (omega (arith, none))

pub first-some : (parts : List Part) (p : Part) → slice_get parts 0 ≡ Some p → p.at / 16 ≡ first_of parts
first-some [] p e = absurd (none-some p e)
first-some (q ∷ parts) p e = ap (λ (x : Part). x.at / 16) (sym (same_Some q p e))

pub first-none : (parts : List Part) → slice_get parts 0 ≡ None → 2 ^ 28 ≡ first_of parts
first-none [] e = refl
first-none (q ∷ parts) e = absurd (none-some q (sym e))

-- ---- how many cells a shape has

rising-few : (low most : ℕ) (cells : List (ℕ × ℕ)) → RisesFrom low (places_of cells) → All (λ cell. cell.0 < most) cells → low ≤ most → length cells + low ≤ most
rising-few low most [] rise below le = omega (arith, le)
rising-few low most (cell ∷ cells) rise below le =
    let first = All-head (λ (c : ℕ × ℕ). c.0 < most) cell cells below in
    let rest = rising-few (cell.0 + 1) most cells rise.1 (All-tail (λ (c : ℕ × ℕ). c.0 < most) cell cells below) (omega (arith, first)) in
    omega (arith, rest, rise.0)

pub cells-few : (shape : Shape) (cells : List (ℕ × ℕ)) → IsShape shape → IsListing shape cells → length cells ≤ 2 ^ 30
cells-few shape cells good listing =
    let few = rising-few 0 (length_of shape) cells (RisesFrom-increasing 0 (places_of cells) listing.rise (λ lt. omega arith)) listing.places (omega arith) in
    omega (arith, few, low_shape shape good)

-- parts of an entry rise
pub Rises-of : (shape : Shape) (cells : List (ℕ × ℕ)) (parts : List Part) → IsListing shape cells → all_cells parts ≡ cells → All IsPart parts → Rises parts
Rises-of shape cells parts listing is are = record { rise = subst (λ (list : List (ℕ × ℕ)). IsStrictlyIncreasing (places_of list)) (sym is) listing.rise; are = are }
