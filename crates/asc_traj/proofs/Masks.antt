-- Some of the bytes of a word: laid over one another, left out, and compared.
use Rattle.std.proofs.Common.{◌≡◌, ℕ, zero, suc, ◌+◌, ◌-◌, ◌*◌, ◌/◌, ◌%◌, ◌^◌, ◌<◌, ◌==◌, ◌&&◌, Bool, true, false, Some, None, min, max, if◌then◌else◌, refl, sym, ap, ◌∙◌, arith}
use Rattle.std.specs.Prelude.{bit_and, bit_or}
use Rattle.std.specs.Int.{bit_not, w32}
use Rattle.std.specs.Option.{is_some, option_or}
use Rattle.std.proofs.Math.Nat.{div-div-eq-div-mul, mul_comm, pow-suc}
use Rattle.std.proofs.lemmas.Bool.{eqb-true, ne_eqb}
use Rattle.std.proofs.lemmas.Bool.Decides.{nat_tests}
use Rattle.std.proofs.lemmas.Nat.Bits.{bit_at-lt, bit_at_and, bit_at_not, bit_at_or}
use Rattle.asc_traj.specs.declared.join.WordBytes.{WordBytes}
use Rattle.asc_traj.specs.Parts.{kept}
use Rattle.asc_traj.specs.Joining.{byte_of, meets, meets_all}
use Rattle.asc_traj.proofs.Parts.{digits, div-one, kept-zero}

-- ---- bytes and bits, one after another

pub shift-down : (x d k : ℕ) → x / d / d ^ k ≡ x / d ^ suc k
shift-down x d k = div-div-eq-div-mul x d (d ^ k) ∙ ap (λ (m : ℕ). x / m) (mul_comm d (d ^ k) ∙ sym (pow-suc d k))

-- of the n lowest bytes none is in both masks
abbrev pub Apart : (n m o : ℕ) → Type 0
Apart n m o = (k : ℕ) → k < n → (m / 2 ^ k % 2 == 1) ≡ true → (o / 2 ^ k % 2 == 1) ≡ false

apart-first : (n m o : ℕ) → Apart (suc n) m o → (m % 2 == 1) ≡ true → (o % 2 == 1) ≡ false
apart-first n m o apart e = ap (λ (x : ℕ). x % 2 == 1) (sym (div-one o)) ∙ apart 0 (omega arith) (ap (λ (x : ℕ). x % 2 == 1) (div-one m) ∙ e)

apart-later : (n m o : ℕ) → Apart (suc n) m o → Apart n (m / 2) (o / 2)
apart-later n m o apart k lt e = grind (arith, nat_tests, shift-down)

-- ---- the sum of what is kept by masks that are apart

first-sum : (b c : Bool) (x y r q : ℕ) → x < 256 → y < 256 → (b ≡ true → c ≡ false) → let s = (if b then x else 0) + 256 * r + ((if c then y else 0) + 256 * q) in
    (s % 256 ≡ (if b then x else (if c then y else 0))) × (s / 256 ≡ r + q)
first-sum b c x y r q lx ly apart = (grind arith, grind arith)

-- the first byte of the sum, and the later ones
sum-suc : (n m o x y : ℕ) → Apart (suc n) m o → let s = kept (suc n) m x + kept (suc n) o y in
    (s % 256 ≡ (if m % 2 == 1 then x % 256 else (if o % 2 == 1 then y % 256 else 0))) × (s / 256 ≡ kept n (m / 2) (x / 256) + kept n (o / 2) (y / 256))
unfolding kept
sum-suc n m o x y apart = grind (arith, nat_tests, apart-first, first-sum)

-- each byte of the sum is that of one of them
sum-byte : (n k m o x y : ℕ) → k < n → Apart n m o
    → (kept n m x + kept n o y) / 256 ^ k % 256 ≡ (if m / 2 ^ k % 2 == 1 then x / 256 ^ k % 256 else (if o / 2 ^ k % 2 == 1 then y / 256 ^ k % 256 else 0))
sum-byte zero k m o x y lt apart = absurd (omega arith)
sum-byte (suc n) zero m o x y lt apart = grind (arith, nat_tests, div-one, sum-suc)
sum-byte (suc n) (suc k) m o x y lt apart =
    sym (ap (λ (s : ℕ). s % 256) (shift-down (kept (suc n) m x + kept (suc n) o y) 256 k))
    ∙ ap (λ (s : ℕ). s / 256 ^ k % 256) (sum-suc n m o x y apart).1
    ∙ sum-byte n k (m / 2) (o / 2) (x / 256) (y / 256) (omega arith) (apart-later n m o apart)
    ∙ λ i. if shift-down m 2 k i % 2 == 1 then shift-down x 256 k i % 256 else (if shift-down o 2 k i % 2 == 1 then shift-down y 256 k i % 256 else 0)

pub sum-low : (n m o x y : ℕ) → Apart n m o → kept n m x + kept n o y < 256 ^ n
sum-low zero m o x y apart = omega (arith, kept-zero m x, kept-zero o y)
sum-low (suc n) m o x y apart =
    omega (arith, (sum-suc n m o x y apart).1, sum-low n (m / 2) (o / 2) (x / 256) (y / 256) (apart-later n m o apart), pow-suc 256 n)

-- ---- bits of masks

-- the bytes of a mask that are not in another
abbrev pub rest_of : (mask other : ℕ) → ℕ
rest_of mask other = bit_and mask (bit_not w32 other)

rest-bit : (mask other k : ℕ) → other < 16 → k < 4 → rest_of mask other / 2 ^ k % 2 ≡ min (mask / 2 ^ k % 2) (1 - other / 2 ^ k % 2)
rest-bit mask other k low lt = bit_at_and mask (bit_not w32 other) k ∙ ap (min (mask / 2 ^ k % 2)) (bit_at_not w32 other k (omega arith) (omega arith))

pub rest-apart : (mask other : ℕ) → other < 16 → Apart 4 other (rest_of mask other)
rest-apart mask other low k lt e = ne_eqb (rest_of mask other / 2 ^ k % 2) 1 (λ same. omega (arith, same, rest-bit mask other k low lt, eqb-true (other / 2 ^ k % 2) 1 e))

-- ---- one byte

over_under : (o u x y : ℕ) → o < 2 → u < 2
    → (if max o u == 1 then Some (if o == 1 then x else (if min u (1 - o) == 1 then y else 0)) else None) ≡ option_or (if o == 1 then Some x else None) (if u == 1 then Some y else None)
over_under o u x y lo lu = grind (arith, nat_tests)

left_out : (b o x z : ℕ) → b < 2 → o < 2
    → (if min b (1 - o) == 1 then Some x else None) ≡ (if is_some (if o == 1 then Some z else None) then None else (if b == 1 then Some x else None))
left_out b o x z lb lo = grind (arith, nat_tests)

met : (t r x y : ℕ) → t < 2 → r < 2
    → (if min t r == 1 then (x == y) else true) ≡ meets (if t == 1 then Some x else None) (if r == 1 then Some y else None)
met t r x y lt lr = grind (arith, nat_tests)

-- ---- words

abbrev pub word_bytes : (mask word : ℕ) → WordBytes
word_bytes mask word = record { mask = mask; word = word }

-- those of the first, and of the second where the first has none
pub overlay-byte : (over under : WordBytes) (k : ℕ) → over.mask < 16 → k < 4
    → byte_of (word_bytes (bit_or over.mask under.mask) (kept 4 over.mask over.word + kept 4 (rest_of under.mask over.mask) under.word)) k ≡ option_or (byte_of over k) (byte_of under k)
overlay-byte over under k low lt = grind (arith, nat_tests, bit_at-lt, bit_at_or, over_under, rest-apart, rest-bit, sum-byte)

pub without-byte : (bytes other : WordBytes) (k : ℕ) → other.mask < 16 → k < 4
    → byte_of (word_bytes (rest_of bytes.mask other.mask) bytes.word) k ≡ (if is_some (byte_of other k) then None else byte_of bytes k)
without-byte bytes other k low lt = grind (arith, nat_tests, bit_at-lt, left_out, rest-bit)

-- ---- comparisons

-- whether n bytes of a mask are the same in two words
abbrev same_bytes : (n mask x y : ℕ) → Bool
same_bytes zero mask x y = true
same_bytes (suc n) mask x y = (if mask % 2 == 1 then (x % 256 == y % 256) else true) && same_bytes n (mask / 2) (x / 256) (y / 256)

kept-equal : (n mask x y : ℕ) → (kept n mask x == kept n mask y) ≡ same_bytes n mask x y
unfolding kept
kept-equal zero mask x y = refl
kept-equal (suc n) mask x y = grind (arith, nat_tests, digits, kept-equal n (mask / 2) (x / 256) (y / 256))

regroup : (a b c d : Bool) → (a && (b && (c && (d && true)))) ≡ (a && b && c && d)
regroup a b c d = grind arith

module _ (told read : WordBytes) where
  abbrev both : ℕ
  both = bit_and told.mask read.mask

  meet_at : (k mask x y : ℕ) → mask ≡ both / 2 ^ k → x ≡ told.word / 256 ^ k → y ≡ read.word / 256 ^ k
      → (if mask % 2 == 1 then (x % 256 == y % 256) else true) ≡ meets (byte_of told k) (byte_of read k)
  meet_at k mask x y p q s = grind (arith, nat_tests, bit_at-lt, bit_at_and, met)

  pub meets-is : (kept 4 both told.word == kept 4 both read.word) ≡ meets_all told read
  meets-is =
      let a = meet_at 0 both told.word read.word (sym (div-one both)) (sym (div-one told.word)) (sym (div-one read.word)) in
      let b = meet_at 1 (both / 2) (told.word / 256) (read.word / 256) refl refl refl in
      let c = meet_at 2 (both / 2 / 2) (told.word / 256 / 256) (read.word / 256 / 256) (omega arith) (omega arith) (omega arith) in
      let d = meet_at 3 (both / 2 / 2 / 2) (told.word / 256 / 256 / 256) (read.word / 256 / 256 / 256) (omega arith) (omega arith) (omega arith) in
      kept-equal 4 both told.word read.word ∙ (λ i. a i && (b i && (c i && (d i && true))))
      ∙ regroup (meets (byte_of told 0) (byte_of read 0)) (meets (byte_of told 1) (byte_of read 1)) (meets (byte_of told 2) (byte_of read 2)) (meets (byte_of told 3) (byte_of read 3))
