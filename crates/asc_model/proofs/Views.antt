-- What the machine of a state is, read off the state's bytes.
use Rattle.std.proofs.Common.{◌≡◌, ℕ, zero, suc, ◌+◌, ◌-◌, ◌*◌, ◌^◌, ◌<◌, ◌≤◌, false, ◌&&◌, ◌==◌, List, length, get_or, take, drop, slice_index, refl, ap, ◌∙◌, arith}
use Rattle.std.proofs.lemmas.List.{drop-drop, get_or-take, get_or-drop, take-take}
use Rattle.asc_model.specs.Shape.{start_of, place_of}
use Rattle.asc_model.specs.Number.{AreBytes, number_of, number_at, word_at}
use Rattle.asc_model.specs.State.{State, IsState}
use Rattle.asc_model.specs.declared.version.Version.{Version}
use Rattle.asc_model.specs.declared.version.Version.TheVariants.{One, Two}
use Rattle.asc_model.specs.Machine.{register, load, is_reserved, words, view_of}
use Rattle.asc_model.specs.Step.{fetch}
use Rattle.asc_model.proofs.Numbers.{word_at-below, AreBytes-drop}

-- word k of the words of a list of bytes
pub get_or-words : (n k : ℕ) (bytes : List ℕ) → k < n → get_or (words n bytes) k 0 ≡ word_at bytes (4 * k)
unfolding words
get_or-words zero k bytes h = absurd (omega arith)
get_or-words (suc n) zero bytes h = refl
get_or-words (suc n) (suc k) bytes h =
    get_or-words n k (drop 4 bytes) (omega arith)
    ∙ ap (λ l. number_of (take 4 l)) (drop-drop (4 * k) 4 bytes)
    ∙ ap (λ i. word_at bytes i) (let e : 4 + 4 * k ≡ 4 * suc k = omega arith in e)

pub length-words : (n : ℕ) (bytes : List ℕ) → length (words n bytes) ≡ n
unfolding words
length-words zero bytes = refl
length-words (suc n) bytes = ap suc (length-words n (drop 4 bytes))

-- words fit 32 bits, and there is 0 past the last
pub words-below : (n k : ℕ) (bytes : List ℕ) → AreBytes bytes → slice_index (words n bytes) k < 2 ^ 32
unfolding words
words-below zero k bytes h = omega arith
words-below (suc n) zero bytes h = word_at-below bytes 0 h
words-below (suc n) (suc k) bytes h = words-below n k (drop 4 bytes) (AreBytes-drop 4 bytes h)

-- ---- the machine of a state

pub view_of-pc : (s : State) → (view_of s).pc ≡ word_at s.bytes 0
unfolding view_of
view_of-pc s = refl

pub view_of-register_suc : (s : State) (k : ℕ) → k < 31 → register (view_of s) (suc k) ≡ word_at s.bytes (4 * suc k)
unfolding view_of
view_of-register_suc s k h =
    get_or-words 31 k (drop 4 s.bytes) h
    ∙ ap (λ l. number_of (take 4 l)) (drop-drop (4 * k) 4 s.bytes)
    ∙ ap (λ i. word_at s.bytes i) (let e : 4 + 4 * k ≡ 4 * suc k = omega arith in e)

pub view_of-register : (s : State) (k : ℕ) → 1 ≤ k → k ≤ 31 → register (view_of s) k ≡ word_at s.bytes (4 * k)
view_of-register s zero p q = absurd (omega arith)
view_of-register s (suc k) p q = view_of-register_suc s k (omega arith)

-- n bytes of memory from an address on stand in the state from its place on
pub view_of-memory : (s : State) (n address : ℕ) → take n (drop (address - s.shape.base) (view_of s).memory) ≡ take n (drop (place_of s.shape address) s.bytes)
unfolding view_of
view_of-memory s n address = ap (take n) (drop-drop (address - s.shape.base) (start_of s.shape.version) s.bytes)

pub view_of-load : (s : State) (n address : ℕ) → load s.shape (view_of s) n address ≡ number_at n s.bytes (place_of s.shape address)
view_of-load s n address = ap number_of (view_of-memory s n address)

-- the word that a step fetches
pub view_of-fetch : (s : State) → fetch s.shape (view_of s) ≡ word_at s.bytes (place_of s.shape (word_at s.bytes 0))
unfolding view_of
view_of-fetch s = view_of-load s 4 (word_at s.bytes 0)

-- ---- the reservation

-- nothing is reserved in version One
pub view_of-reserved_One : (s : State) (address : ℕ) → s.shape.version ≡ One → is_reserved (view_of s) address ≡ false
unfolding view_of
view_of-reserved_One s address e = ap (λ (v : Version). let r = take (start_of v - 128) (drop 128 s.bytes) in (slice_index r 4 == 1) && (word_at r 0 == address)) e

-- what is reserved in version Two, read off the state's bytes
pub view_of-reserved_Two : (s : State) (address : ℕ) → s.shape.version ≡ Two → is_reserved (view_of s) address ≡ ((slice_index s.bytes 132 == 1) && (word_at s.bytes 128 == address))
unfolding view_of
view_of-reserved_Two s address e =
    let valid : slice_index (take 8 (drop 128 s.bytes)) 4 ≡ slice_index s.bytes 132 = get_or-take 8 (drop 128 s.bytes) 4 0 (omega arith) ∙ get_or-drop 128 s.bytes 4 0 in
    let number : word_at (take 8 (drop 128 s.bytes)) 0 ≡ word_at s.bytes 128 = ap number_of (take-take 4 8 (drop 128 s.bytes) (omega arith)) in
    ap (λ (v : Version). let r = take (start_of v - 128) (drop 128 s.bytes) in (slice_index r 4 == 1) && (word_at r 0 == address)) e
    ∙ ap (λ x. (x == 1) && (word_at (take 8 (drop 128 s.bytes)) 0 == address)) valid ∙ ap (λ x. (slice_index s.bytes 132 == 1) && (x == address)) number
