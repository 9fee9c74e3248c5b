-- Parts of words: their cells, and what their bytes are in a state.
use Rattle.std.proofs.Common.{◌≡◌, ℕ, zero, suc, ◌+◌, ◌*◌, ◌/◌, ◌%◌, ◌^◌, ◌<◌, ◌≤◌, ◌==◌, ◌&&◌, Bool, true, false, List, [], ◌∷◌, ◌++◌, length, take, drop, get_or, slice_index, if◌then◌else◌, refl, sym, ap, subst, ◌∙◌, inl, inr, arith, append_assoc, append-nil}
use Rattle.std.specs.Prelude.{All, bit_and}
use Rattle.std.specs.List.{list_all}
use Rattle.std.proofs.Math.Nat.{div-div-eq-div-mul, pow-suc}
use Rattle.std.proofs.lemmas.Bool.{agree_below_at, cases_eq, eq-eqb, eqb-true, ne_eqb}
use Rattle.std.proofs.lemmas.Bool.Decides.{nat_tests}
use Rattle.std.proofs.lemmas.List.Elements.{All-cons, All-head, All-nil, All-tail}
use Rattle.std.proofs.lemmas.List.Concat.{flat_map-append}
use Rattle.std.proofs.lemmas.List.{drop_all, drop_more, take-append-drop}
use Rattle.std.proofs.lemmas.List.Folds.{list_all-append}
use Rattle.std.proofs.lemmas.Nat.{and_block, and_comm, and_mask}
use Rattle.asc_model.specs.Number.{AreBytes, bytes_of, number_at, word_at}
use Rattle.asc_model.specs.Places.{bytes_after, cells}
use Rattle.asc_model.proofs.Numbers.{bytes_after-append, number_at-suc}
use Rattle.asc_depvec.proofs.Items.{All-behind, All-first}
use Rattle.asc_traj.specs.declared.part.Part.{Part}
use Rattle.asc_traj.specs.Parts.{IsPart, all_cells, cells_from, first_from, has_byte, kept, masked, part_cells, part_from, spread, word_place}

-- ---- masks, one byte after another

abbrev pub here : Bool → ℕ × ℕ → List (ℕ × ℕ)
here b cell = if b then cell ∷ [] else []

pub masked-suc : (n mask place word : ℕ) → masked (suc n) mask place word ≡ here (mask % 2 == 1) (place, word % 2 ^ 8) ++ masked n (mask / 2) (place + 1) (word / 2 ^ 8)
unfolding masked
masked-suc n mask place word = refl

pub masked-zero : (mask place word : ℕ) → masked 0 mask place word ≡ []
unfolding masked
masked-zero mask place word = refl

pub kept-suc : (n mask word : ℕ) → kept (suc n) mask word ≡ (if mask % 2 == 1 then word % 2 ^ 8 else 0) + 2 ^ 8 * kept n (mask / 2) (word / 2 ^ 8)
unfolding kept
kept-suc n mask word = refl

pub kept-zero : (mask word : ℕ) → kept 0 mask word ≡ 0
unfolding kept
kept-zero mask word = refl

pub masked-none : (n place word : ℕ) → masked n 0 place word ≡ []
unfolding masked
masked-none zero place word = refl
masked-none (suc n) place word = masked-none n (place + 1) (word / 2 ^ 8)

-- ---- what is kept

-- what is kept is kept again
first_again : (b : Bool) (x m : ℕ) → (if b then ((if b then x % 2 ^ 8 else 0) + 2 ^ 8 * m) % 2 ^ 8 else 0) ≡ (if b then x % 2 ^ 8 else 0)
first_again true x m = omega arith
first_again false x m = refl

other_bytes : (b : Bool) (x m : ℕ) → ((if b then x % 2 ^ 8 else 0) + 2 ^ 8 * m) / 2 ^ 8 ≡ m
other_bytes b x m = grind arith

here_again : (b : Bool) (place x m : ℕ) → here b (place, ((if b then x % 2 ^ 8 else 0) + 2 ^ 8 * m) % 2 ^ 8) ≡ here b (place, x % 2 ^ 8)
here_again true place x m = ap (λ (byte : ℕ). (place, byte) ∷ []) (first_again true x m)
here_again false place x m = refl

kept-again : (n mask word : ℕ) → kept n mask (kept n mask word) ≡ kept n mask word
unfolding kept
kept-again zero mask word = refl
kept-again (suc n) mask word = grind (arith, nat_tests, first_again, other_bytes, kept-again n (mask / 2) (word / 2 ^ 8))

masked-kept : (n mask place word : ℕ) → masked n mask place (kept n mask word) ≡ masked n mask place word
unfolding kept masked
masked-kept zero mask place word = refl
masked-kept (suc n) mask place word = grind (arith, nat_tests, here_again, other_bytes, masked-kept n (mask / 2) (place + 1) (word / 2 ^ 8))

-- ---- parts

pub part_cells-is : (p : Part) → part_cells p ≡ masked 4 (p.at % 16) (word_place p) p.word
unfolding part_cells
part_cells-is p = refl

abbrev pub part : ℕ → ℕ → Part
part at word = record { at = at; word = word }

-- a mask of all four
pub masked-whole : (place word : ℕ) → masked 4 15 place word ≡ cells place (bytes_of 4 word)
unfolding masked
masked-whole place word = refl

at_mask : (index mask : ℕ) → mask < 16 → (16 * index + mask) % 16 ≡ mask
at_mask index mask low = omega arith

-- the part of those bytes of a word that a mask has
pub part-cells : (index mask word kept_word : ℕ) → mask < 16 → kept_word ≡ kept 4 mask word → part_cells (part (16 * index + mask) kept_word) ≡ masked 4 mask (4 * index) word
unfolding part_cells
part-cells index mask word kept_word low is = grind (arith, nat_tests, at_mask, masked-kept)

pub part-is : (index mask word kept_word : ℕ) → mask < 16 → 0 < mask → kept_word ≡ kept 4 mask word → IsPart (part (16 * index + mask) kept_word)
part-is index mask word kept_word low some is = record {
  some = omega (arith, at_mask index mask low);
  kept = (λ i. kept 4 (at_mask index mask low i) (is i)) ∙ kept-again 4 mask word ∙ sym is;
}

-- ---- the bytes of a part in a state

number_low : (b m : ℕ) → b < 256 → (b + 256 * m) % 256 ≡ b
number_low b m l = omega arith

number_high : (b m : ℕ) → b < 256 → (b + 256 * m) / 256 ≡ m
number_high b m l = omega arith

digits-eq : (b v x y : ℕ) → b < 256 → v < 256 → (b + 256 * x == v + 256 * y) ≡ ((b == v) && (x == y))
digits-eq b v x y lb lv = grind (arith, nat_tests)

pub digits : (t : Bool) (b v x y : ℕ) → b < 256 → v < 256 → ((if t then b else 0) + 256 * x == (if t then v else 0) + 256 * y) ≡ ((if t then (b == v) else true) && (x == y))
digits true b v x y lb lv = digits-eq b v x y lb lv
digits false b v x y lb lv = digits-eq 0 0 x y (omega arith) (omega arith)

all-here : (f : ℕ × ℕ → Bool) (t : Bool) (cell : ℕ × ℕ) (rest : List (ℕ × ℕ)) → list_all f (here t cell ++ rest) ≡ ((if t then f cell else true) && list_all f rest)
all-here f t cell rest = grind arith

-- what is kept of a number in a state is what is kept of another where the bytes are the same
kept-same : (n mask place value : ℕ) (bytes : List ℕ) → AreBytes bytes
    → (kept n mask (number_at n bytes place) == kept n mask value) ≡ list_all (λ cell. slice_index bytes cell.0 == cell.1) (masked n mask place value)
unfolding kept masked
kept-same zero mask place value bytes fine = refl
kept-same (suc n) mask place value bytes fine = grind (arith, nat_tests, all-here, digits, number_at-suc, number_high, number_low, kept-same n (mask / 2) (place + 1) (value / 256) bytes fine)

pub part-same : (p : Part) (bytes : List ℕ) → IsPart p → AreBytes bytes
    → (kept 4 (p.at % 16) (word_at bytes (word_place p)) == p.word) ≡ list_all (λ cell. slice_index bytes cell.0 == cell.1) (part_cells p)
unfolding part_cells
part-same p bytes is fine =
    ap (λ (w : ℕ). kept 4 (p.at % 16) (word_at bytes (word_place p)) == w) (sym is.kept) ∙ kept-same 4 (p.at % 16) (word_place p) p.word bytes fine

-- ---- masks as bits

byte-and : (t : Bool) (b : ℕ) → b < 256 → bit_and b (if t then 255 else 0) ≡ (if t then b else 0)
byte-and true b fits = and_mask b 8 ∙ omega arith
byte-and false b fits = and_comm b 0

and-spread : (n mask word : ℕ) → bit_and word (spread n mask) ≡ kept n mask word
unfolding spread kept
and-spread zero mask word = and_comm word 0
and-spread (suc n) mask word =
    let t = mask % 2 == 1 in
    let low : ℕ = if t then 255 else 0 in
    let s = spread n (mask / 2) in
    let split : word ≡ word / 256 * 256 + word % 256 = omega arith in
    let turn : low + 256 * s ≡ s * 256 + low = omega arith in
    let first = byte-and t (word % 256) (omega arith) in
    (λ i. bit_and (split i) (turn i)) ∙ and_block 8 (word / 256) s (word % 256) low (omega arith) (grind arith)
    ∙ (λ i. and-spread n (mask / 2) (word / 256) i * 256 + first i) ∙ omega arith
  where
    small : (t : Bool) → (if t then 255 else 0) < 2 ^ 8
    small true = omega arith
    small false = omega arith

-- ---- lists of parts

-- Where the first n of a list pass a test, the list passes it if the others do.
pub list_all-drop : {X : Type 0} (f : X → Bool) (n : ℕ) (xs : List X) → list_all f (take n xs) ≡ true → list_all f xs ≡ list_all f (drop n xs)
list_all-drop f n xs h = ap (list_all f) (sym (take-append-drop n xs)) ∙ list_all-append f (take n xs) (drop n xs) ∙ ap (λ (t : Bool). t && list_all f (drop n xs)) h

pub list_all-cells : (f : ℕ × ℕ → Bool) (parts : List Part) → list_all (λ part. list_all f (part_cells part)) parts ≡ list_all f (all_cells parts)
list_all-cells f [] = refl
list_all-cells f (p ∷ parts) = ap (λ (t : Bool). list_all f (part_cells p) && t) (list_all-cells f parts) ∙ sym (list_all-append f (part_cells p) (all_cells parts))

-- a word that has a byte of a state of so many bytes is within it
masked-within : (k m mask place word : ℕ) → 0 < mask → mask < 2 ^ k → All (λ cell. cell.0 < m) (masked k mask place word) → place < m
unfolding masked
masked-within zero m mask place word some low all = absurd (let few : mask < 1 = low in omega arith)
masked-within (suc k) m mask place word some low all =
    let rest = masked k (mask / 2) (place + 1) (word / 256) in
    elim (cases_eq (mask % 2) 1) [
      | inl odd ↦ All-head (λ cell. cell.0 < m) (place, word % 256) rest
          (subst (λ (t : Bool). All (λ cell. cell.0 < m) (here t (place, word % 256) ++ rest)) (eq-eqb (mask % 2) 1 odd) all)
      | inr even ↦
          let next = masked-within k m (mask / 2) (place + 1) (word / 256) (omega (arith, even)) (omega (arith, pow-suc 2 k))
          (subst (λ (t : Bool). All (λ cell. cell.0 < m) (here t (place, word % 256) ++ rest)) (ne_eqb (mask % 2) 1 even) all) in
          omega (arith, next)
    ]

part-within : (m : ℕ) (p : Part) → m % 4 ≡ 0 → IsPart p → All (λ cell. cell.0 < m) (part_cells p) → word_place p + 4 ≤ m
unfolding part_cells
part-within m p whole is all =
    let first = masked-within 4 m (p.at % 16) (word_place p) p.word is.some (let lt : p.at % 16 < 16 = omega arith in lt) all in
    omega (arith, first)

pub parts-within : (m : ℕ) (parts : List Part) → m % 4 ≡ 0 → All IsPart parts → All (λ cell. cell.0 < m) (all_cells parts) → All (λ p. word_place p + 4 ≤ m) parts
parts-within m [] whole are all = All-nil (λ p. word_place p + 4 ≤ m)
parts-within m (p ∷ parts) whole are all =
    All-cons (λ p. word_place p + 4 ≤ m) p parts
    (part-within m p whole (All-head IsPart p parts are) (All-first (λ cell. cell.0 < m) (part_cells p) (all_cells parts) all))
    (parts-within m parts whole (All-tail IsPart p parts are) (All-behind (λ cell. cell.0 < m) (part_cells p) (all_cells parts) all))

-- ---- cells, one after another

div-again : (x d k : ℕ) → x / d ^ k / d ≡ x / d ^ suc k
div-again x d k = div-div-eq-div-mul x (d ^ k) d ∙ ap (λ (m : ℕ). x / m) (sym (pow-suc d k))

part-next : (p : Part) (k : ℕ) → k < 4 → part_from k p ≡ here (has_byte p k) (word_place p + k, p.word / 256 ^ k % 256) ++ part_from (suc k) p
unfolding part_from masked
part-next p k lt = grind (arith, nat_tests, div-again)

pub div-one : (x : ℕ) → x / 1 ≡ x
div-one x = omega arith

part-first : (p : Part) → part_from 0 p ≡ part_cells p
unfolding part_from part_cells
part-first p = grind (arith, nat_tests, div-one)

first-all : (parts : List Part) → first_from 0 parts ≡ all_cells parts
first-all [] = refl
first-all (p ∷ parts) = ap (λ (list : List (ℕ × ℕ)). list ++ all_cells parts) (part-first p)

pub cells-is : (parts : List Part) (from : ℕ) → cells_from parts from ≡ first_from (from % 4) (drop (from / 4) parts)
unfolding cells_from
cells-is parts from = refl

pub cells-all : (parts : List Part) → cells_from parts 0 ≡ all_cells parts
cells-all parts = cells-is parts 0 ∙ first-all parts

pub cells-end : (parts : List Part) (from : ℕ) → 4 * length parts ≤ from → cells_from parts from ≡ []
cells-end parts from done = cells-is parts from ∙ ap (first_from (from % 4)) (drop_all (from / 4) parts (omega arith))

pub cells-next : (parts : List Part) (from : ℕ) (d : Part) → from < 4 * length parts
    → cells_from parts from ≡ here (has_byte (get_or parts (from / 4) d) (from % 4)) (word_place (get_or parts (from / 4) d) + from % 4, (get_or parts (from / 4) d).word / 256 ^ (from % 4) % 256)
    ++ cells_from parts (from + 1)
unfolding cells_from part_from masked
cells-next parts from d lt =
    let i = from / 4 in
    let k = from % 4 in
    let p = get_or parts i d in
    let rest = drop (i + 1) parts in
    let front = here (has_byte p k) (word_place p + k, p.word / 256 ^ k % 256) in
    let split : drop i parts ≡ p ∷ rest = drop_more parts i d (omega arith) in
    ap (first_from k) split ∙ ap (λ (list : List (ℕ × ℕ)). list ++ all_cells rest) (part-next p k (omega arith))
    ∙ append_assoc front (part_from (suc k) p) (all_cells rest)
    ∙ ap (λ (list : List (ℕ × ℕ)). front ++ list) (elim (cases_eq k 3) [
      | inl last ↦
          let none : suc k ≡ 4 = omega (arith, last) in
          let next : i + 1 ≡ (from + 1) / 4 = omega (arith, last) in
          let next_k : 0 ≡ (from + 1) % 4 = omega (arith, last) in
          ap (λ (n : ℕ). part_from n p ++ all_cells rest) none ∙ sym (first-all rest) ∙ λ j. first_from (next_k j) (drop (next j) parts)
      | inr more ↦
          let next : i ≡ (from + 1) / 4 = omega (arith, more) in
          let next_k : suc k ≡ (from + 1) % 4 = omega (arith, more) in
          ap (first_from (suc k)) (sym split) ∙ λ j. first_from (next_k j) (drop (next j) parts)
    ])

-- ---- the table of masks

abbrev table : List ℕ
table = 0 ∷ 255 ∷ 65280 ∷ 65535 ∷ 16711680 ∷ 16711935 ∷ 16776960 ∷ 16777215 ∷ 4278190080 ∷ 4278190335 ∷ 4278255360 ∷ 4278255615 ∷ 4294901760 ∷ 4294902015 ∷ 4294967040 ∷ 4294967295 ∷ []

table-is : (m : ℕ) → m < 16 → get_or table m 0 ≡ spread 4 m
unfolding spread
table-is m lt = eqb-true (get_or table m 0) (spread 4 m) (agree_below_at (λ k. get_or table k 0 == spread 4 k) (λ k. true) 16 m refl lt)

pub table-and : (mask word : ℕ) → mask < 16 → bit_and word (get_or table mask 0) ≡ kept 4 mask word
table-and mask word lt = ap (bit_and word) (table-is mask lt) ∙ and-spread 4 mask word

-- ---- bytes put one after another

pub put-more : (n m mask place next word : ℕ) (bytes : List ℕ) → n ≡ suc m → next ≡ place + 1
    → bytes_after bytes (masked n mask place word) ≡ bytes_after (bytes_after bytes (here (mask % 2 == 1) (place, word % 256))) (masked m (mask / 2) next (word / 256))
unfolding masked
put-more n m mask place next word bytes count there = grind (arith, nat_tests, bytes_after-append)

-- ---- parts put behind others

pub cells-push : (xs : List Part) (p : Part) → all_cells (xs ++ p ∷ []) ≡ all_cells xs ++ part_cells p
cells-push xs p = flat_map-append part_cells xs (p ∷ []) ∙ ap (λ (list : List (ℕ × ℕ)). all_cells xs ++ list) (append-nil (part_cells p))
