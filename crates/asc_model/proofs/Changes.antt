-- Machines and the states that stand for them, and what a change of the machine writes into the state.
use Rattle.std.proofs.Common.{◌≡◌, ℕ, zero, suc, ◌+◌, ◌-◌, ◌*◌, ◌^◌, ◌<◌, ◌≤◌, nat_le, List, [], ◌∷◌, ◌++◌, length, take, drop, slice_index, slice_set, IsTrue, refl, sym, ap, ◌∙◌, arith, append_assoc, take-append-drop, length-append, length-take, length-drop, length-set, suc-add}
use Rattle.std.specs.List.{flat_map}
use Rattle.std.proofs.lemmas.List.{drop-take, take_at, drop_at, take-append-le, drop-append-le, take-take, length-take-le}
use Rattle.std.proofs.lemmas.Bool.{and_parts, leb-true}
use Rattle.asc_model.specs.declared.version.Version.{Version}
use Rattle.asc_model.specs.declared.version.Version.TheVariants.{One, Two}
use Rattle.asc_model.specs.Shape.{Shape, start_of, length_of, place_of, holds}
use Rattle.asc_model.specs.Number.{AreBytes, number_of, bytes_of, word_at}
use Rattle.asc_model.specs.State.{State, IsState}
use Rattle.asc_model.specs.Machine.{Machine, IsMachine, Change, Pc, Register, Memory, Reservation, splice, after_change, after_changes, words, view_of, state_of}
use Rattle.asc_model.specs.Places.{cells, cells_of, bytes_after}
use Rattle.asc_model.proofs.Numbers.{word_at-below, bytes_of-number_of, number_of-bytes_of_4, AreBytes-bytes_of, AreBytes-append, AreBytes-take, AreBytes-drop, bytes_after-append, bytes_after-cells}
use Rattle.asc_model.proofs.Views.{length-words, words-below}

-- what a change may be: registers are 0 to 31, values are words, bytes go into memory, and a reservation is in version Two
abbrev pub IsChange : Shape → Change → Type 0
IsChange shape (Pc value) = value < 2 ^ 32
IsChange shape (Register k value) = (k ≤ 31) × (value < 2 ^ 32)
IsChange shape (Memory address bytes) = IsTrue (holds shape address (length bytes)) × AreBytes bytes
IsChange shape (Reservation i bytes) = (shape.version ≡ Two) × (i + length bytes ≤ 8) × AreBytes bytes

-- each change of the list may be
abbrev pub AreChanges : Shape → List Change → Type 0
AreChanges shape [] = Unit {0}
AreChanges shape (first ∷ rest) = IsChange shape first × AreChanges shape rest

-- ---- splices

-- beside its first element
splice-cons : (x : ℕ) (xs : List ℕ) (i : ℕ) (new : List ℕ) → splice (x ∷ xs) (suc i) new ≡ x ∷ splice xs i new
splice-cons x xs i new = ap (λ k. (x ∷ take i xs) ++ new ++ drop k (x ∷ xs)) (suc-add i (length new))

-- a splice into the second of two lists
pub splice-append_right : (xs ys : List ℕ) (i : ℕ) (new : List ℕ) → splice (xs ++ ys) (length xs + i) new ≡ xs ++ splice ys i new
splice-append_right [] ys i new = ap (λ k. splice ys k new) (let e : 0 + i ≡ i = omega arith in e)
splice-append_right (x ∷ xs) ys i new =
    ap (λ k. splice (x ∷ xs ++ ys) k new) (suc-add (length xs) i)
    ∙ splice-cons x (xs ++ ys) (length xs + i) new
    ∙ ap (λ l. x ∷ l) (splice-append_right xs ys i new)

-- a splice into the first of two lists
pub splice-append_left : (xs ys : List ℕ) (i : ℕ) (new : List ℕ) → i + length new ≤ length xs → splice (xs ++ ys) i new ≡ splice xs i new ++ ys
splice-append_left xs ys i new h =
    ap (λ l. l ++ new ++ drop (i + length new) (xs ++ ys)) (take-append-le i xs ys (omega arith))
    ∙ ap (λ l. take i xs ++ new ++ l) (drop-append-le (i + length new) xs ys h)
    ∙ sym (append_assoc (take i xs ++ new) (drop (i + length new) xs) ys)

pub length-splice : (xs : List ℕ) (i : ℕ) (new : List ℕ) → i + length new ≤ length xs → length (splice xs i new) ≡ length xs
length-splice xs i new h =
    omega (arith, length-append (take i xs ++ new) (drop (i + length new) xs), length-append (take i xs) new, length-take i xs, length-drop (i + length new) xs)

pub AreBytes-splice : (xs : List ℕ) (i : ℕ) (new : List ℕ) → AreBytes xs → AreBytes new → AreBytes (splice xs i new)
AreBytes-splice xs i new p q =
    AreBytes-append (take i xs ++ new) (drop (i + length new) xs) (AreBytes-append (take i xs) new (AreBytes-take i xs p) q) (AreBytes-drop (i + length new) xs p)

-- ---- words as bytes

-- the bytes of each word
abbrev pub bytes_of_words : List ℕ → List ℕ
bytes_of_words list = flat_map (bytes_of 4) list

pub length-bytes_of_words : (list : List ℕ) → length (bytes_of_words list) ≡ 4 * length list
length-bytes_of_words [] = refl
length-bytes_of_words (word ∷ list) = let ih = length-bytes_of_words list in omega arith

pub AreBytes-bytes_of_words : (list : List ℕ) → AreBytes (bytes_of_words list)
AreBytes-bytes_of_words [] i = omega arith
AreBytes-bytes_of_words (word ∷ list) i = AreBytes-append (bytes_of 4 word) (bytes_of_words list) (AreBytes-bytes_of 4 word) (AreBytes-bytes_of_words list) i

-- a word set is its bytes put in place
pub bytes_of_words-set : (list : List ℕ) (k v : ℕ) → k < length list → bytes_of_words (slice_set list k v) ≡ splice (bytes_of_words list) (4 * k) (bytes_of 4 v)
bytes_of_words-set [] k v h = absurd (omega arith)
bytes_of_words-set (word ∷ list) zero v h = refl
bytes_of_words-set (word ∷ list) (suc k) v h =
    ap (λ l. bytes_of 4 word ++ l) (bytes_of_words-set list k v (omega arith))
    ∙ sym (splice-append_right (bytes_of 4 word) (bytes_of_words list) (4 * k) (bytes_of 4 v))
    ∙ ap (λ i. splice (bytes_of 4 word ++ bytes_of_words list) i (bytes_of 4 v)) (let e : 4 + 4 * k ≡ 4 * suc k = omega arith in e)

-- the bytes of four bytes' number are those bytes
bytes_of-take_4 : (bytes : List ℕ) → AreBytes bytes → 4 ≤ length bytes → bytes_of 4 (number_of (take 4 bytes)) ≡ take 4 bytes
bytes_of-take_4 bytes h l =
    ap (λ n. bytes_of n (number_of (take 4 bytes))) (sym (length-take-le 4 bytes l)) ∙ bytes_of-number_of (take 4 bytes) (AreBytes-take 4 bytes h)

take-add : (m n : ℕ) (xs : List ℕ) → take m xs ++ take n (drop m xs) ≡ take (m + n) xs
take-add m n xs =
    sym (ap (λ l. take m xs ++ l) (drop-take m n xs)) ∙ ap (λ l. l ++ drop m (take (m + n) xs)) (sym (take-take m (m + n) xs (omega arith))) ∙ take-append-drop m (take (m + n) xs)

-- words read are words written
pub bytes_of_words-words : (n : ℕ) (bytes : List ℕ) → AreBytes bytes → 4 * n ≤ length bytes → bytes_of_words (words n bytes) ≡ take (4 * n) bytes
unfolding words
bytes_of_words-words zero bytes h l = refl
bytes_of_words-words (suc n) bytes h l =
    ap (λ l. l ++ bytes_of_words (words n (drop 4 bytes))) (bytes_of-take_4 bytes h (omega arith))
    ∙ ap (λ l. take 4 bytes ++ l) (bytes_of_words-words n (drop 4 bytes) (AreBytes-drop 4 bytes h) (omega (arith, length-drop 4 bytes)))
    ∙ take-add 4 (4 * n) bytes
    ∙ ap (λ i. take i bytes) (let e : 4 + 4 * n ≡ 4 * suc n = omega arith in e)

-- words written are words read
pub words-bytes_of_words : (list rest : List ℕ) → ((k : ℕ) → slice_index list k < 2 ^ 32) → words (length list) (bytes_of_words list ++ rest) ≡ list
unfolding words
words-bytes_of_words [] rest h = refl
words-bytes_of_words (word ∷ list) rest h =
    let first = number_of-bytes_of_4 word (h 0) in
    let others = words-bytes_of_words list rest (λ k. h (suc k)) in
    λ i. first i ∷ others i

-- ---- shapes

pub start_of-least : (version : Version) → 128 ≤ start_of version
start_of-least One = omega arith
start_of-least Two = omega arith

-- what it says that memory holds bytes
pub holds-parts : (shape : Shape) (address n : ℕ) → IsTrue (holds shape address n) → (shape.base ≤ address) × (address + n ≤ shape.base + shape.size)
holds-parts shape address n h =
    let both = and_parts (nat_le shape.base address) (nat_le (address + n) (shape.base + shape.size)) h in
    (leb-true _ _ both.0, leb-true _ _ both.1)

-- ---- round trips

state-parts : (bytes : List ℕ) (n : ℕ) → AreBytes bytes → 128 ≤ n → n ≤ length bytes → bytes_of 4 (word_at bytes 0) ++ bytes_of_words (words 31 (drop 4 bytes)) ++ take (n - 128) (drop 128 bytes) ++ drop n bytes ≡ bytes
state-parts bytes n h least most =
    let rest = take (n - 128) (drop 128 bytes) in
    ap (λ l. l ++ bytes_of_words (words 31 (drop 4 bytes)) ++ rest ++ drop n bytes) (bytes_of-take_4 bytes h (omega arith))
    ∙ ap (λ l. take 4 bytes ++ l ++ rest ++ drop n bytes) (bytes_of_words-words 31 (drop 4 bytes) (AreBytes-drop 4 bytes h) (omega (arith, length-drop 4 bytes)))
    ∙ ap (λ l. l ++ rest ++ drop n bytes) (take-add 4 124 bytes)
    ∙ ap (λ l. l ++ drop n bytes) (take-add 128 (n - 128) bytes)
    ∙ ap (λ k. take k bytes ++ drop n bytes) (let e : 128 + (n - 128) ≡ n = omega arith in e)
    ∙ take-append-drop n bytes

-- the state of a state's machine is that state
pub state_of-view_of : (s : State) → IsState s → state_of s.shape (view_of s) ≡ s
unfolding view_of state_of
state_of-view_of s good =
    let least = start_of-least s.shape.version in
    let e : (state_of s.shape (view_of s)).bytes ≡ s.bytes =
    state-parts s.bytes (start_of s.shape.version) good.bytes least (omega (arith, good.length)) in
    λ i. record s { bytes = e i }

-- the machine of a state is one of its shape
pub IsMachine-view_of : (s : State) → IsState s → IsMachine s.shape (view_of s)
unfolding view_of
IsMachine-view_of s good =
    let least = start_of-least s.shape.version in
    let n = start_of s.shape.version in
    let all = good.length in
    record {
      good = good.shape;
      pc = word_at-below s.bytes 0 good.bytes;
      registers = length-words 31 (drop 4 s.bytes);
      each_word = λ k. words-below 31 k (drop 4 s.bytes) (AreBytes-drop 4 s.bytes good.bytes);
      reservation = length-take-le (n - 128) (drop 128 s.bytes) (omega (arith, length-drop 128 s.bytes));
      reservation_bytes = AreBytes-take (n - 128) (drop 128 s.bytes) (AreBytes-drop 128 s.bytes good.bytes);
      memory = omega (arith, length-drop n s.bytes);
      memory_bytes = AreBytes-drop n s.bytes good.bytes;
    }

module _ (shape : Shape) (m : Machine) (good : IsMachine shape m) where
  -- the bytes below memory, and those below the reservation
  length-low : length (bytes_of 4 m.pc ++ bytes_of_words m.registers) ≡ 128
  length-low =
      let r = good.registers in
      omega (arith, length-bytes_of_words m.registers)

  length-front : length (bytes_of 4 m.pc ++ bytes_of_words m.registers ++ m.reservation) ≡ start_of shape.version
  length-front =
      let r = good.registers in
      let c = good.reservation in
      omega (arith, length-append (bytes_of 4 m.pc ++ bytes_of_words m.registers) m.reservation, length-low, start_of-least shape.version)

  pub length-state_of : length (state_of shape m).bytes ≡ length_of shape
  unfolding state_of
  length-state_of =
      omega (arith, length-append (bytes_of 4 m.pc ++ bytes_of_words m.registers ++ m.reservation) m.memory, length-front, good.memory)

  -- the state of a machine is a state
  pub IsState-state_of : IsState (state_of shape m)
  unfolding state_of
  IsState-state_of = record {
    shape = good.good;
    length = length-state_of;
    bytes =
        AreBytes-append (bytes_of 4 m.pc ++ bytes_of_words m.registers ++ m.reservation) m.memory
        (AreBytes-append (bytes_of 4 m.pc ++ bytes_of_words m.registers) m.reservation (AreBytes-append (bytes_of 4 m.pc) (bytes_of_words m.registers) (AreBytes-bytes_of 4 m.pc) (AreBytes-bytes_of_words m.registers)) good.reservation_bytes)
        good.memory_bytes;
  }

  -- the machine of a machine's state is that machine
  pub view_of-state_of : view_of (state_of shape m) ≡ m
  unfolding view_of state_of
  view_of-state_of =
      let low = bytes_of 4 m.pc ++ bytes_of_words m.registers in
      let pc : word_at (low ++ m.reservation ++ m.memory) 0 ≡ m.pc = number_of-bytes_of_4 m.pc good.pc in
      let registers : words 31 (bytes_of_words m.registers ++ m.reservation ++ m.memory) ≡ m.registers =
      ap (words 31) (append_assoc (bytes_of_words m.registers) m.reservation m.memory)
      ∙ ap (λ n. words n (bytes_of_words m.registers ++ (m.reservation ++ m.memory))) (sym good.registers)
      ∙ words-bytes_of_words m.registers (m.reservation ++ m.memory) good.each_word in
      let reservation : take (start_of shape.version - 128) (drop 128 (low ++ m.reservation ++ m.memory)) ≡ m.reservation =
      ap (λ l. take (start_of shape.version - 128) (drop 128 l)) (append_assoc low m.reservation m.memory)
      ∙ ap (take (start_of shape.version - 128)) (drop_at low (m.reservation ++ m.memory) 128 length-low)
      ∙ take_at m.reservation m.memory (start_of shape.version - 128) good.reservation in
      let memory : drop (start_of shape.version) (low ++ m.reservation ++ m.memory) ≡ m.memory =
      drop_at (low ++ m.reservation) m.memory (start_of shape.version) length-front in
      λ i. record { pc = pc i; registers = registers i; reservation = reservation i; memory = memory i }

-- ---- one change

-- what holds of each element still holds once one is set
pub below-set : (bound : ℕ) (list : List ℕ) (place v : ℕ) → v < bound → ((k : ℕ) → slice_index list k < bound) → (k : ℕ) → slice_index (slice_set list place v) k < bound
below-set bound [] place v p h k = h k
below-set bound (first ∷ list) zero v p h zero = p
below-set bound (first ∷ list) zero v p h (suc k) = h (suc k)
below-set bound (first ∷ list) (suc place) v p h zero = h 0
below-set bound (first ∷ list) (suc place) v p h (suc k) = below-set bound list place v p (λ j. h (suc j)) k

-- the reservation of version Two has eight bytes
length-reservation : (shape : Shape) (m : Machine) → IsMachine shape m → shape.version ≡ Two → length m.reservation ≡ 8
length-reservation shape m good e = good.reservation ∙ ap (λ (v : Version). start_of v - 128) e

-- a change leaves a machine one of its shape
pub IsMachine-after_change : (shape : Shape) (m : Machine) (c : Change) → IsMachine shape m → IsChange shape c → IsMachine shape (after_change shape m c)
IsMachine-after_change shape m (Pc value) good h = record {
  good = good.good;
  pc = h;
  registers = good.registers;
  each_word = good.each_word;
  reservation = good.reservation;
  reservation_bytes = good.reservation_bytes;
  memory = good.memory;
  memory_bytes = good.memory_bytes;
}
IsMachine-after_change shape m (Register zero value) good h = good
IsMachine-after_change shape m (Register (suc k) value) good h = record {
  good = good.good;
  pc = good.pc;
  registers = length-set m.registers k value ∙ good.registers;
  each_word = below-set (2 ^ 32) m.registers k value h.1 good.each_word;
  reservation = good.reservation;
  reservation_bytes = good.reservation_bytes;
  memory = good.memory;
  memory_bytes = good.memory_bytes;
}
IsMachine-after_change shape m (Memory address bytes) good h =
    let parts = holds-parts shape address (length bytes) h.0 in
    record {
      good = good.good;
      pc = good.pc;
      registers = good.registers;
      each_word = good.each_word;
      reservation = good.reservation;
      reservation_bytes = good.reservation_bytes;
      memory = length-splice m.memory (address - shape.base) bytes (omega (arith, good.memory, parts.0, parts.1)) ∙ good.memory;
      memory_bytes = AreBytes-splice m.memory (address - shape.base) bytes good.memory_bytes h.1;
    }
IsMachine-after_change shape m (Reservation i bytes) good h =
    let eight = length-reservation shape m good h.0 in
    record {
      good = good.good;
      pc = good.pc;
      registers = good.registers;
      each_word = good.each_word;
      reservation = length-splice m.reservation i bytes (omega (arith, eight, h.1)) ∙ good.reservation;
      reservation_bytes = AreBytes-splice m.reservation i bytes good.reservation_bytes h.2;
      memory = good.memory;
      memory_bytes = good.memory_bytes;
    }

-- what a change of the machine writes into the bytes of its state
pub state_of-change_bytes : (shape : Shape) (m : Machine) (c : Change) → IsMachine shape m → IsChange shape c → (state_of shape (after_change shape m c)).bytes ≡ bytes_after (state_of shape m).bytes (cells_of shape c)
unfolding state_of
state_of-change_bytes shape m (Pc value) good h =
    sym (bytes_after-cells (state_of shape m).bytes 0 (bytes_of 4 value) (omega (arith, length-state_of shape m good, start_of-least shape.version)))
state_of-change_bytes shape m (Register zero value) good h = refl
state_of-change_bytes shape m (Register (suc k) value) good h =
    let pc = bytes_of 4 m.pc in
    let registers = bytes_of_words m.registers in
    let new = bytes_of 4 value in
    let place : 4 + 4 * k ≡ 4 * suc k = omega arith in
    let inside : 4 + 4 * k + 4 ≤ length (pc ++ registers) = omega (arith, length-low shape m good, h.0) in
    let inside_front : 4 + 4 * k + 4 ≤ length (pc ++ registers ++ m.reservation) = omega (arith, length-front shape m good, start_of-least shape.version, h.0) in
    let inside_all : 4 + 4 * k + 4 ≤ length (state_of shape m).bytes = omega (arith, length-state_of shape m good, start_of-least shape.version, h.0) in
    ap (λ l. pc ++ l ++ m.reservation ++ m.memory) (bytes_of_words-set m.registers k value (omega (arith, good.registers, h.0)))
    ∙ ap (λ l. l ++ m.reservation ++ m.memory) (sym (splice-append_right pc registers (4 * k) new))
    ∙ ap (λ l. l ++ m.memory) (sym (splice-append_left (pc ++ registers) m.reservation (4 + 4 * k) new inside))
    ∙ sym (splice-append_left (pc ++ registers ++ m.reservation) m.memory (4 + 4 * k) new inside_front)
    ∙ sym (bytes_after-cells (state_of shape m).bytes (4 + 4 * k) new inside_all)
    ∙ ap (λ i. bytes_after (state_of shape m).bytes (cells i new)) place
state_of-change_bytes shape m (Memory address new) good h =
    let parts = holds-parts shape address (length new) h.0 in
    let front = bytes_of 4 m.pc ++ bytes_of_words m.registers ++ m.reservation in
    sym (splice-append_right front m.memory (address - shape.base) new)
    ∙ ap (λ n. splice (front ++ m.memory) (n + (address - shape.base)) new) (length-front shape m good)
    ∙ sym (bytes_after-cells (state_of shape m).bytes (place_of shape address) new (omega (arith, length-state_of shape m good, parts.0, parts.1)))
state_of-change_bytes shape m (Reservation i new) good h =
    let low = bytes_of 4 m.pc ++ bytes_of_words m.registers in
    let eight = length-reservation shape m good h.0 in
    let inside : i + length new ≤ length m.reservation = omega (arith, eight, h.1) in
    let inside_all : 128 + i + length new ≤ length (state_of shape m).bytes =
    omega (arith, length-state_of shape m good, good.reservation, eight, h.1, start_of-least shape.version) in
    ap (λ l. l ++ m.memory) (sym (splice-append_right low m.reservation i new))
    ∙ sym (splice-append_left (low ++ m.reservation) m.memory (length low + i) new (omega (arith, length-append low m.reservation, inside)))
    ∙ ap (λ n. splice (low ++ m.reservation ++ m.memory) (n + i) new) (length-low shape m good)
    ∙ sym (bytes_after-cells (state_of shape m).bytes (128 + i) new inside_all)

-- ---- lists of changes

pub IsMachine-after_changes : (shape : Shape) (m : Machine) (list : List Change) → IsMachine shape m → AreChanges shape list → IsMachine shape (after_changes shape m list)
IsMachine-after_changes shape m [] good h = good
IsMachine-after_changes shape m (first ∷ rest) good h =
    IsMachine-after_changes shape (after_change shape m first) rest (IsMachine-after_change shape m first good h.0) h.1

pub state_of-changes_bytes : (shape : Shape) (m : Machine) (list : List Change) → IsMachine shape m → AreChanges shape list → (state_of shape (after_changes shape m list)).bytes ≡ bytes_after (state_of shape m).bytes (flat_map (cells_of shape) list)
state_of-changes_bytes shape m [] good h = refl
state_of-changes_bytes shape m (first ∷ rest) good h =
    state_of-changes_bytes shape (after_change shape m first) rest (IsMachine-after_change shape m first good h.0) h.1
    ∙ ap (λ b. bytes_after b (flat_map (cells_of shape) rest)) (state_of-change_bytes shape m first good h.0)
    ∙ sym (bytes_after-append (state_of shape m).bytes (cells_of shape first) (flat_map (cells_of shape) rest))

-- the state of a state's machine after a change
pub state_of-after_change : (s : State) (c : Change) → IsState s → IsChange s.shape c → state_of s.shape (after_change s.shape (view_of s) c) ≡ record s { bytes = bytes_after s.bytes (cells_of s.shape c) }
unfolding state_of
state_of-after_change s c good h =
    let e = state_of-change_bytes s.shape (view_of s) c (IsMachine-view_of s good) h in
    let same = state_of-view_of s good in
    let all : (state_of s.shape (after_change s.shape (view_of s) c)).bytes ≡ bytes_after s.bytes (cells_of s.shape c) =
    e ∙ ap (λ (t : State). bytes_after t.bytes (cells_of s.shape c)) same in
    λ i. record s { bytes = all i }

-- the state of a state's machine after changes
pub state_of-after_changes : (s : State) (list : List Change) → IsState s → AreChanges s.shape list → state_of s.shape (after_changes s.shape (view_of s) list) ≡ record s { bytes = bytes_after s.bytes (flat_map (cells_of s.shape) list) }
unfolding state_of
state_of-after_changes s list good h =
    let e = state_of-changes_bytes s.shape (view_of s) list (IsMachine-view_of s good) h in
    let same = state_of-view_of s good in
    let all : (state_of s.shape (after_changes s.shape (view_of s) list)).bytes ≡ bytes_after s.bytes (flat_map (cells_of s.shape) list) =
    e ∙ ap (λ (t : State). bytes_after t.bytes (flat_map (cells_of s.shape) list)) same in
    λ i. record s { bytes = all i }
