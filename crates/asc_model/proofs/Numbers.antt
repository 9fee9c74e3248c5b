-- Lemmas on numbers as bytes, and on writes to a list of bytes.
use Rattle.std.proofs.Common.{◌≡◌, ℕ, zero, suc, ◌+◌, ◌*◌, ◌/◌, ◌%◌, ◌^◌, ◌<◌, ◌≤◌, List, [], ◌∷◌, ◌++◌, length, get_or, take, drop, slice_index, slice_set, refl, subst, add-zero, suc-add, append-nil, sym, ap, ◌∙◌, arith, append_assoc, take-append-drop, length-set}
use Rattle.std.specs.Int.{w32, from_le_bytes, to_le_bytes}
use Rattle.std.proofs.lemmas.List.{get_or-drop, take_more_set, drop-set-lt}
use Rattle.std.proofs.lemmas.Nat.{div_below}
use Rattle.std.proofs.Math.Seq.{drop-nil, take-nil}
use Rattle.std.proofs.Math.Nat.{div-div-eq-div-mul, pow-suc, pow-zero}
use Rattle.asc_model.specs.Number.{AreBytes, number_of, number_at, bytes_of, word_at}
use Rattle.asc_model.specs.Machine.{splice}
use Rattle.asc_model.specs.Places.{cells, bytes_after}

-- the number in the first four elements, also where there are fewer
pub number_of-take_4 : (xs : List ℕ) → number_of (take 4 xs) ≡ from_le_bytes w32 (get_or xs 0 0 ∷ get_or xs 1 0 ∷ get_or xs 2 0 ∷ get_or xs 3 0 ∷ [])
number_of-take_4 [] = omega arith
number_of-take_4 (a ∷ []) = omega arith
number_of-take_4 (a ∷ b ∷ []) = omega arith
number_of-take_4 (a ∷ b ∷ c ∷ []) = omega arith
number_of-take_4 (a ∷ b ∷ c ∷ d ∷ xs) = omega arith

-- no byte makes 0
number_at-nil : (n place : ℕ) → number_at n [] place ≡ 0
number_at-nil n place = ap (λ (l : List ℕ). number_of (take n l)) (drop-nil place) ∙ ap number_of (take-nil n)

-- a number by its first byte
pub number_at-suc : (n : ℕ) (bytes : List ℕ) (place : ℕ) → number_at (suc n) bytes place ≡ slice_index bytes place + 2 ^ 8 * number_at n bytes (place + 1)
number_at-suc n [] place =
    number_at-nil (suc n) place ∙ ap (λ x. 0 + 2 ^ 8 * x) (sym (number_at-nil n (place + 1)))
number_at-suc n (byte ∷ bytes) zero = refl
number_at-suc n (byte ∷ bytes) (suc place) =
    number_at-suc n bytes place ∙ ap (λ k. slice_index bytes place + 2 ^ 8 * number_at n (byte ∷ bytes) k) (sym (suc-add place 1))

-- a word as std's
pub word_at-from_le_bytes : (bytes : List ℕ) (place : ℕ) → word_at bytes place ≡ from_le_bytes w32 (get_or bytes place 0 ∷ get_or bytes (place + 1) 0 ∷ get_or bytes (place + 2) 0 ∷ get_or bytes (place + 3) 0 ∷ [])
word_at-from_le_bytes bytes place =
    number_of-take_4 (drop place bytes) ∙ omega (arith, get_or-drop place bytes 0 0 ∙ ap (λ n. get_or bytes n 0) (add-zero place), get_or-drop place bytes 1 0, get_or-drop place bytes 2 0, get_or-drop place bytes 3 0)

-- four bytes as std's
pub bytes_of-to_le_bytes : (v : ℕ) → bytes_of 4 v ≡ to_le_bytes w32 v
bytes_of-to_le_bytes v =
    let c : v / 256 / 256 % 256 ≡ v / 65536 % 256 = ap (λ x. x % 256) (div-div-eq-div-mul v 256 256) in
    let d : v / 256 / 256 / 256 % 256 ≡ v / 16777216 % 256 = ap (λ x. x / 256 % 256) (div-div-eq-div-mul v 256 256) ∙ ap (λ x. x % 256) (div-div-eq-div-mul v 65536 256) in
    λ i. v % 256 ∷ v / 256 % 256 ∷ c i ∷ d i ∷ []

-- the bytes of a number that fits spell it
pub number_of-bytes_of : (n v : ℕ) → v < (2 ^ 8) ^ n → number_of (bytes_of n v) ≡ v
number_of-bytes_of zero v h = omega (arith, pow-zero 256)
number_of-bytes_of (suc n) v h =
    let e : 256 ^ suc n ≡ 256 ^ n * 256 = pow-suc 256 n in
    let ih : number_of (bytes_of n (v / 256)) ≡ v / 256 = number_of-bytes_of n (v / 256) (div_below v 256 (256 ^ n) (omega arith) (omega arith)) in
    omega arith

-- the same for a word
pub number_of-bytes_of_4 : (v : ℕ) → v < 2 ^ 32 → number_of (bytes_of 4 v) ≡ v
number_of-bytes_of_4 v h = number_of-bytes_of 4 v h

-- the first byte, and the rest
number_of-cons_mod : (byte rest : ℕ) → byte < 256 → (byte + 256 * rest) % 256 ≡ byte
number_of-cons_mod byte rest h = omega arith

number_of-cons_div : (byte rest : ℕ) → byte < 256 → (byte + 256 * rest) / 256 ≡ rest
number_of-cons_div byte rest h = omega arith

-- the bytes of the number that bytes spell are those bytes
pub bytes_of-number_of : (bytes : List ℕ) → AreBytes bytes → bytes_of (length bytes) (number_of bytes) ≡ bytes
bytes_of-number_of [] h = refl
bytes_of-number_of (byte ∷ bytes) h =
    let first = number_of-cons_mod byte (number_of bytes) (h 0) in
    let rest : bytes_of (length bytes) ((byte + 256 * number_of bytes) / 256) ≡ bytes =
    ap (bytes_of (length bytes)) (number_of-cons_div byte (number_of bytes) (h 0)) ∙ bytes_of-number_of bytes (λ i. h (suc i)) in
    λ i. first i ∷ rest i

-- n bytes spell a number below (2 ^ 8) ^ n
pub number_of-below : (bytes : List ℕ) → AreBytes bytes → number_of bytes < (2 ^ 8) ^ length bytes
number_of-below [] h = omega (arith, pow-zero 256)
number_of-below (byte ∷ bytes) h =
    let e : 256 ^ suc (length bytes) ≡ 256 ^ length bytes * 256 = pow-suc 256 (length bytes) in
    let ih : number_of bytes < 256 ^ length bytes = number_of-below bytes (λ i. h (suc i)) in
    let b : byte < 256 = h 0 in
    omega arith

-- a word fits 32 bits
pub word_at-below : (bytes : List ℕ) (place : ℕ) → AreBytes bytes → word_at bytes place < 2 ^ 32
word_at-below bytes place h =
    subst (λ v. v < 2 ^ 32) (sym (word_at-from_le_bytes bytes place)) (omega (arith, h place, h (place + 1), h (place + 2), h (place + 3)))

pub length-bytes_of : (n v : ℕ) → length (bytes_of n v) ≡ n
length-bytes_of zero v = refl
length-bytes_of (suc n) v = ap suc (length-bytes_of n (v / 2 ^ 8))

pub AreBytes-bytes_of : (n v : ℕ) → AreBytes (bytes_of n v)
AreBytes-bytes_of zero v i = omega arith
AreBytes-bytes_of (suc n) v zero = omega arith
AreBytes-bytes_of (suc n) v (suc i) = AreBytes-bytes_of n (v / 2 ^ 8) i

-- ---- lists of bytes

pub AreBytes-take : (n : ℕ) (bytes : List ℕ) → AreBytes bytes → AreBytes (take n bytes)
AreBytes-take zero bytes h i = omega arith
AreBytes-take (suc n) [] h i = omega arith
AreBytes-take (suc n) (byte ∷ bytes) h zero = h 0
AreBytes-take (suc n) (byte ∷ bytes) h (suc i) = AreBytes-take n bytes (λ k. h (suc k)) i

pub AreBytes-drop : (n : ℕ) (bytes : List ℕ) → AreBytes bytes → AreBytes (drop n bytes)
AreBytes-drop n bytes h i = subst (λ v. v < 2 ^ 8) (sym (get_or-drop n bytes i 0)) (h (n + i))

pub AreBytes-append : (a b : List ℕ) → AreBytes a → AreBytes b → AreBytes (a ++ b)
AreBytes-append [] b p q i = q i
AreBytes-append (byte ∷ a) b p q zero = p 0
AreBytes-append (byte ∷ a) b p q (suc i) = AreBytes-append a b (λ k. p (suc k)) q i

-- ---- writes

pub length-bytes_after : (bytes : List ℕ) (list : List (ℕ × ℕ)) → length (bytes_after bytes list) ≡ length bytes
length-bytes_after bytes [] = refl
length-bytes_after bytes (cell ∷ rest) = length-bytes_after (slice_set bytes cell.0 cell.1) rest ∙ length-set bytes cell.0 cell.1

pub bytes_after-append : (bytes : List ℕ) (a b : List (ℕ × ℕ)) → bytes_after bytes (a ++ b) ≡ bytes_after (bytes_after bytes a) b
bytes_after-append bytes [] b = refl
bytes_after-append bytes (cell ∷ a) b = bytes_after-append (slice_set bytes cell.0 cell.1) a b

-- writes in a row are one splice
pub bytes_after-cells : (bytes : List ℕ) (place : ℕ) (new : List ℕ) → place + length new ≤ length bytes → bytes_after bytes (cells place new) ≡ splice bytes place new
bytes_after-cells bytes place [] h = sym (ap (λ n. take place bytes ++ [] ++ drop n bytes) (add-zero place) ∙ ap (λ l. l ++ drop place bytes) (append-nil (take place bytes)) ∙ take-append-drop place bytes)
bytes_after-cells bytes place (byte ∷ new) h =
    let l : place < length bytes = omega arith in
    let fits : place + 1 + length new ≤ length (slice_set bytes place byte) = omega (arith, length-set bytes place byte) in
    let n : place + 1 + length new ≡ place + suc (length new) = omega arith in
    bytes_after-cells (slice_set bytes place byte) (place + 1) new fits
    ∙ ap (λ a. a ++ new ++ drop (place + 1 + length new) (slice_set bytes place byte)) (take_more_set bytes place byte l)
    ∙ ap (λ b. take place bytes ++ byte ∷ [] ++ new ++ b) (drop-set-lt (place + 1 + length new) bytes place byte (omega arith))
    ∙ ap (λ k. take place bytes ++ byte ∷ [] ++ new ++ drop k bytes) n
    ∙ ap (λ a. a ++ drop (place + suc (length new)) bytes) (append_assoc (take place bytes) (byte ∷ []) new)
