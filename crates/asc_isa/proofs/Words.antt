-- Lemmas on the fields of a word.
use Rattle.std.proofs.Common.{◌≡◌, ℕ, suc, ◌+◌, ◌-◌, ◌*◌, ◌/◌, ◌%◌, ◌^◌, ◌<◌, ◌≤◌, bit_and, w32, arith, ap, ◌∙◌, ℤ, negsuc, inl, inr, sym}
use Rattle.std.specs.Prelude.{nat_lt, if◌then◌else◌}
use Rattle.std.proofs.lemmas.Nat.{and_mask, one_shl, pow_pos, pow-add, shl-shr, shl_whole, div-mul-add}
use Rattle.std.proofs.lemmas.Bool.{cases_lt, lt-ltb, le-ltb, cond-true, cond-false}
use Rattle.std.proofs.lemmas.Bool.Decides.{nat_tests}
use Rattle.std.proofs.lemmas.Int.{of_z-to_z, to_z_pos}
use Rattle.std.proofs.Math.Nat.{mul-lt-mul_of_pos_right, pow-suc}
use Rattle.std.specs.Int.{cast_signed, cast_unsigned}
use lib.Signed.{shr_z}
use Rattle.asc_model.specs.Number.{bits, sign_extend}

-- the code's form of bits of a word
pub and-shr : (word low n : ℕ) → n < 32 → bit_and (word / 2 ^ low) (1 * 2 ^ n % 2 ^ 32 - 1) ≡ bits word low n
and-shr word low n h = rw (one_shl n 32 h) (and_mask (word / 2 ^ low) n)

-- ---- a number of n bits that is moved to the top of a word and back, with its sign. half is 2 ^ (n - 1)

-- the number is positive
shr-positive : (number k half : ℕ) → 2 ^ k * (2 * half) ≡ 2 ^ 32 → number < half → cast_unsigned w32 (shr_z (cast_signed w32 (number * 2 ^ k)) (2 ^ k)) ≡ number
shr-positive number k half e h =
    let less : number * 2 ^ k < half * 2 ^ k = mul-lt-mul_of_pos_right h (pow_pos k) in
    let below : number * 2 ^ k < 2 ^ 31 = omega arith in
    rw (to_z_pos w32 (number * 2 ^ k) below) (shl-shr number k)

-- a word whose top bit is set
cast_signed-negative : (word : ℕ) → 2 ^ 31 ≤ word → cast_signed w32 word ≡ negsuc (2 ^ 32 - suc word)
cast_signed-negative word h = rw (le-ltb word (2 ^ 31) h)

-- what is missing to 2 ^ 32, moved back
shr-missing : (number k missing : ℕ) → (number + suc missing) * 2 ^ k ≡ 2 ^ 32 → (2 ^ 32 - suc (number * 2 ^ k)) / 2 ^ k ≡ missing
shr-missing number k missing e =
    let p : 0 < 2 ^ k = pow_pos k in
    let split : 2 ^ 32 - suc (number * 2 ^ k) ≡ missing * 2 ^ k + (2 ^ k - 1) = omega arith in
    rw split (div-mul-add missing (2 ^ k) (2 ^ k - 1) (omega arith))

-- the number is negative
shr-negative : (number k half missing : ℕ) → 2 ^ k * (2 * half) ≡ 2 ^ 32 → half ≤ number → number + suc missing ≡ 2 * half → cast_unsigned w32 (shr_z (cast_signed w32 (number * 2 ^ k)) (2 ^ k)) ≡ number + (2 ^ 32 - 2 * half)
shr-negative number k half missing e h m =
    let p : 0 < 2 ^ k = pow_pos k in
    let more : 2 ^ k * half ≤ 2 ^ k * number = grind arith in
    let above : 2 ^ 31 ≤ number * 2 ^ k = omega arith in
    let all : (number + suc missing) * 2 ^ k ≡ 2 ^ 32 = ap (λ n. n * 2 ^ k) m ∙ (omega arith) in
    let fits : 2 * half ≤ 2 ^ 32 = grind arith in
    rw (cast_signed-negative (number * 2 ^ k) above) (rw (shr-missing number k missing all) (omega arith))

-- either
shr-extended : (number k half : ℕ) → 2 ^ k * (2 * half) ≡ 2 ^ 32 → number < 2 * half → cast_unsigned w32 (shr_z (cast_signed w32 (number * 2 ^ k)) (2 ^ k)) ≡ (if nat_lt number half then number else number + (2 ^ 32 - 2 * half))
shr-extended number k half e l = elim (cases_lt number half) [
  | inl h ↦ shr-positive number k half e h ∙ sym (cond-true _ _ _ (lt-ltb number half h))
  | inr h ↦ shr-negative number k half (2 * half - suc number) e h (omega arith) ∙ sym (cond-false _ _ _ (le-ltb number half h))
]

-- an extended number is a word
extended_below : (number half : ℕ) → number < 2 * half → 2 * half ≤ 2 ^ 32 → (if nat_lt number half then number else number + (2 ^ 32 - 2 * half)) < 2 ^ 32
extended_below number half h l = grind (arith, nat_tests)

-- the code's form of a number that is extended by its sign
pub sign_extend-code : (number n : ℕ) (z : ℤ) → number < 2 ^ n → 0 < n → n ≤ 32 → z ≡ cast_signed w32 (number * 2 ^ (32 - n) % 2 ^ 32) →
    cast_unsigned w32 (cast_signed w32 (cast_unsigned w32 (shr_z (cast_signed w32 (cast_unsigned w32 z)) (2 ^ (32 - n))))) ≡ sign_extend n number
sign_extend-code number n z l p q e =
    let k : ℕ = 32 - n in
    let half : ℕ = 2 ^ (n - 1) in
    let before : n ≡ suc (n - 1) = omega arith in
    let double : 2 ^ n ≡ 2 * half = ap (λ i. 2 ^ i) before ∙ pow-suc 2 (n - 1) ∙ omega arith in
    let sum : 32 ≡ k + n = omega arith in
    let whole : 2 ^ k * (2 * half) ≡ 2 ^ 32 = ap (λ m. 2 ^ k * m) (sym double) ∙ sym (pow-add 2 k n) ∙ ap (λ i. 2 ^ i) (sym sum) in
    let top : cast_unsigned w32 z ≡ number * 2 ^ k =
    ap (cast_unsigned w32) e ∙ of_z-to_z w32 (number * 2 ^ k % 2 ^ 32) (omega arith) ∙ shl_whole number n k 32 l (omega arith) in
    let back = ap (λ a. cast_unsigned w32 (shr_z (cast_signed w32 a) (2 ^ k))) top ∙ shr-extended number k half whole (omega arith) in
    let below = extended_below number half (omega arith) (grind arith) in
    ap (λ a. cast_unsigned w32 (cast_signed w32 a)) back ∙ of_z-to_z w32 _ below
    ∙ ap (λ m. if nat_lt number half then number else number + (2 ^ 32 - m)) (sym double)
