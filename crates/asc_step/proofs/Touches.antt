-- Lemmas on the places that registers and effects touch.
use Rattle.std.proofs.Common.{◌≡◌, ℕ, ◌+◌, ◌*◌, ◌<◌, Bool, true, false, ◌&&◌, ◌==◌, List, [], ◌∷◌, ◌++◌, length, slice_index, refl, sym, ap, ◌∙◌, arith}
use Rattle.std.specs.Prelude.{bit_and}
use Rattle.std.proofs.lemmas.Nat.{and_mask}
use Rattle.std.proofs.lemmas.Bool.{eqb-true}
use Rattle.asc_model.specs.declared.instruction.Instr.{Instr}
use Rattle.asc_model.specs.declared.instruction.Op.{Op}
use Rattle.asc_model.specs.Number.{bytes_of, number_at, word_at}
use Rattle.asc_model.specs.State.{State}
use Rattle.asc_model.specs.declared.version.Version.TheVariants.{Two}
use Rattle.asc_model.specs.Machine.{register, is_reserved, view_of}
use Rattle.asc_model.specs.Instruction.{op_of, rd_of, rs1_of, rs2_of, imm_of}
use Rattle.asc_model.specs.Effect.{Effect, effect}
use Rattle.asc_model.specs.Step.{outcome_of, effect_of}
use Rattle.asc_model.specs.Places.{places_from, cells, cells_of_outcome, register_places, data_places}
use Rattle.asc_model.proofs.Numbers.{length-bytes_after, number_at-suc}
use Rattle.asc_model.proofs.Views.{view_of-register, view_of-reserved_Two}
use Rattle.asc_shape.specs.Face.{Face, face_after_read, face_after_put, face_after_reads, face_after_puts}
use Rattle.asc_shape.proofs.Faces.{state-reads, state-puts, face_after_reads-append, face_after_puts-append}

-- no place read
pub face_after_reads-nil : (f : Face) → face_after_reads f [] ≡ f
unfolding face_after_reads
face_after_reads-nil f = refl

pub reads_none : (f : Face) (places : List ℕ) → places ≡ [] → face_after_reads f places ≡ f
reads_none f places e = ap (face_after_reads f) e ∙ face_after_reads-nil f

-- no place written
pub face_after_puts-nil : (f : Face) → face_after_puts f [] ≡ f
unfolding face_after_puts
face_after_puts-nil f = refl

pub puts_none : (f : Face) (list : List (ℕ × ℕ)) → list ≡ [] → face_after_puts f list ≡ f
puts_none f list e = ap (face_after_puts f) e ∙ face_after_puts-nil f

-- the state after reads
pub state_after_reads : (f g : Face) (places : List ℕ) → g ≡ face_after_reads f places → g.state ≡ f.state
state_after_reads f g places e = ap (λ (face : Face). face.state) e ∙ state-reads f places

-- the number of bytes after puts
pub length_after_puts : (f g : Face) (list : List (ℕ × ℕ)) → g ≡ face_after_puts f list → length g.state.bytes ≡ length f.state.bytes
length_after_puts f g list e =
    ap (λ (face : Face). length face.state.bytes) e ∙ ap (λ (s : State). length s.bytes) (state-puts f list) ∙ length-bytes_after f.state.bytes list

-- the value of a register that is not x0
pub register_read : (s : State) (k : ℕ) → (k ≡ 0 → ⊥) → k < 32 → register (view_of s) k ≡ word_at s.bytes (4 * k)
register_read s k h below = view_of-register s k (omega arith) (omega arith)

-- the source registers are read, and the rest follows
execute_face_at : (f0 f1 f2 g : Face) (i : Instr) (e : Effect) → f1 ≡ face_after_reads f0 (register_places (rs1_of i)) → f2 ≡ face_after_reads f1 (register_places (rs2_of i))
    → e ≡ effect_of (view_of f0.state) i
    → g ≡ face_after_puts (face_after_reads f2 (data_places f2.state.shape e)) (cells_of_outcome f2.state.shape (outcome_of f2.state.shape (view_of f2.state) (rd_of i) e))
    → g ≡ face_after_puts (face_after_reads f0 (register_places (rs1_of i) ++ register_places (rs2_of i) ++ data_places f0.state.shape (effect_of (view_of f0.state) i)))
    (cells_of_outcome f0.state.shape (outcome_of f0.state.shape (view_of f0.state) (rd_of i) (effect_of (view_of f0.state) i)))
execute_face_at f0 f1 f2 g i e e1 e2 e3 e4 =
    let a = register_places (rs1_of i) in
    let b = register_places (rs2_of i) in
    let both : f2 ≡ face_after_reads f0 (a ++ b) = e2 ∙ ap (λ (face : Face). face_after_reads face b) e1 ∙ sym (face_after_reads-append f0 a b) in
    let same : f2.state ≡ f0.state = state_after_reads f0 f2 (a ++ b) both in
    let loads = data_places f0.state.shape e in
    let all : face_after_reads f2 loads ≡ face_after_reads f0 (a ++ b ++ loads) = ap (λ (face : Face). face_after_reads face loads) both ∙ sym (face_after_reads-append f0 (a ++ b) loads) in
    e4
    ∙ ap (λ (s : State). face_after_puts (face_after_reads f2 (data_places s.shape e)) (cells_of_outcome s.shape (outcome_of s.shape (view_of s) (rd_of i) e))) same
    ∙ ap (λ (face : Face). face_after_puts face (cells_of_outcome f0.state.shape (outcome_of f0.state.shape (view_of f0.state) (rd_of i) e))) all
    ∙ ap (λ (x : Effect). face_after_puts (face_after_reads f0 (a ++ b ++ data_places f0.state.shape x)) (cells_of_outcome f0.state.shape (outcome_of f0.state.shape (view_of f0.state) (rd_of i) x))) e3

-- the parts of an instruction
pub record AreParts (i : Instr) (o : Op) (d first second imm : ℕ) : Type 0 where
  pub op : o ≡ op_of i
  pub rd : d ≡ rd_of i
  pub rs1 : first ≡ rs1_of i
  pub rs2 : second ≡ rs2_of i
  pub immediate : imm ≡ imm_of i

-- the same with the code's parts of the instruction and values of the registers
pub execute_face : (f0 f1 f2 g : Face) (i : Instr) (e : Effect) (op : Op) (pc a b rd rs1 rs2 immediate : ℕ) → AreParts i op rd rs1 rs2 immediate
    → pc ≡ (view_of f0.state).pc → a ≡ register (view_of f0.state) rs1 → b ≡ register (view_of f1.state) rs2
    → f1 ≡ face_after_reads f0 (register_places rs1) → f2 ≡ face_after_reads f1 (register_places rs2) → e ≡ effect op pc a b immediate
    → g ≡ face_after_puts (face_after_reads f2 (data_places f2.state.shape e)) (cells_of_outcome f2.state.shape (outcome_of f2.state.shape (view_of f2.state) rd e))
    → g ≡ face_after_puts (face_after_reads f0 (register_places (rs1_of i) ++ register_places (rs2_of i) ++ data_places f0.state.shape (effect_of (view_of f0.state) i)))
    (cells_of_outcome f0.state.shape (outcome_of f0.state.shape (view_of f0.state) (rd_of i) (effect_of (view_of f0.state) i)))
execute_face f0 f1 f2 g i e op pc a b rd rs1 rs2 immediate parts p va vb e1 e2 e3 e4 =
    let m = view_of f0.state in
    let same : f1.state ≡ f0.state = state_after_reads f0 f1 _ e1 in
    let first : a ≡ register m (rs1_of i) = va ∙ ap (register m) parts.rs1 in
    let second : b ≡ register m (rs2_of i) = vb ∙ ap (λ (s : State). register (view_of s) rs2) same ∙ ap (register m) parts.rs2 in
    let whole : e ≡ effect_of m i =
    e3 ∙ ap (λ (x : Op). effect x pc a b immediate) parts.op ∙ ap (λ x. effect (op_of i) x a b immediate) p
    ∙ ap (λ x. effect (op_of i) m.pc x b immediate) first ∙ ap (λ x. effect (op_of i) m.pc (register m (rs1_of i)) x immediate) second
    ∙ ap (λ x. effect (op_of i) m.pc (register m (rs1_of i)) (register m (rs2_of i)) x) parts.immediate in
    execute_face_at f0 f1 f2 g i e
    (e1 ∙ ap (λ k. face_after_reads f0 (register_places k)) parts.rs1) (e2 ∙ ap (λ k. face_after_reads f1 (register_places k)) parts.rs2) whole
    (e4 ∙ ap (λ k. face_after_puts (face_after_reads f2 (data_places f2.state.shape e)) (cells_of_outcome f2.state.shape (outcome_of f2.state.shape (view_of f2.state) k e))) parts.rd)

-- ---- one or two bytes

pub reads_one : (f g : Face) (place : ℕ) → g ≡ face_after_read f place → g ≡ face_after_reads f (place ∷ [])
unfolding face_after_reads
reads_one f g place e = e

pub reads_two : (f f1 g : Face) (place : ℕ) → f1 ≡ face_after_read f place → g ≡ face_after_read f1 (place + 1) → g ≡ face_after_reads f (place ∷ (place + 1) ∷ [])
unfolding face_after_reads
reads_two f f1 g place e1 e2 = e2 ∙ ap (λ (x : Face). face_after_read x (place + 1)) e1

pub puts_one_byte : (f g : Face) (place value : ℕ) → g ≡ face_after_put f place value → g ≡ face_after_puts f ((place, value) ∷ [])
unfolding face_after_puts
puts_one_byte f g place value e = e

pub puts_two_bytes : (f f1 g : Face) (place low high : ℕ) → f1 ≡ face_after_put f place low → g ≡ face_after_put f1 (place + 1) high
    → g ≡ face_after_puts f ((place, low) ∷ (place + 1, high) ∷ [])
unfolding face_after_puts
puts_two_bytes f f1 g place low high e1 e2 = e2 ∙ ap (λ (x : Face). face_after_put x (place + 1) high) e1

-- the number in one byte and in two
pub number_at-one : (bytes : List ℕ) (place : ℕ) → number_at 1 bytes place ≡ slice_index bytes place
number_at-one bytes place = number_at-suc 0 bytes place ∙ (let e : number_at 0 bytes (place + 1) ≡ 0 = refl in omega (arith, e))

pub number_at-two : (bytes : List ℕ) (place : ℕ) → number_at 2 bytes place ≡ slice_index bytes place + slice_index bytes (place + 1) * 256
number_at-two bytes place = omega (arith, number_at-suc 1 bytes place, number_at-one bytes (place + 1))

-- the lowest two bytes of a word
pub puts_half : (f f1 g : Face) (place value : ℕ) (list : List ℕ) → list ≡ bytes_of 4 value → f1 ≡ face_after_put f place (slice_index list 0)
    → g ≡ face_after_put f1 (place + 1) (slice_index list 1) → g ≡ face_after_puts f (cells place (bytes_of 2 value))
puts_half f f1 g place value list e e1 e2 =
    puts_two_bytes f f1 g place _ _ (e1 ∙ ap (λ (l : List ℕ). face_after_put f place (slice_index l 0)) e)
    (e2 ∙ ap (λ (l : List ℕ). face_after_put f1 (place + 1) (slice_index l 1)) e)

-- the lowest byte of a word
pub puts_lowest : (f g : Face) (place value : ℕ) → g ≡ face_after_put f place (bit_and value 255) → g ≡ face_after_puts f (cells place (bytes_of 1 value))
puts_lowest f g place value e = puts_one_byte f g place _ (e ∙ ap (face_after_put f place) (and_mask value 8))

-- a word and a byte behind it
pub reads_word_and_byte : (f f1 g : Face) (place : ℕ) → f1 ≡ face_after_reads f (places_from place 4) → g ≡ face_after_read f1 (place + 4) → g ≡ face_after_reads f (places_from place 4 ++ (place + 4) ∷ [])
reads_word_and_byte f f1 g place e1 e2 =
    reads_one f1 g (place + 4) e2 ∙ ap (λ (x : Face). face_after_reads x ((place + 4) ∷ [])) e1 ∙ sym (face_after_reads-append f (places_from place 4) ((place + 4) ∷ []))

pub puts_word_and_byte : (f f1 g : Face) (place word byte : ℕ) → f1 ≡ face_after_puts f (cells place (bytes_of 4 word)) → g ≡ face_after_put f1 (place + 4) byte
    → g ≡ face_after_puts f (cells place (bytes_of 4 word) ++ (place + 4, byte) ∷ [])
puts_word_and_byte f f1 g place word byte e1 e2 =
    puts_one_byte f1 g (place + 4) byte e2 ∙ ap (λ (x : Face). face_after_puts x ((place + 4, byte) ∷ [])) e1
    ∙ sym (face_after_puts-append f (cells place (bytes_of 4 word)) ((place + 4, byte) ∷ []))

-- ---- the reservation

-- the code's test of it, from what it has read
pub reserved_by_bytes : (s s1 : State) (address word valid : ℕ) → s.shape.version ≡ Two → word ≡ word_at s.bytes 128 → s1 ≡ s → valid ≡ slice_index s1.bytes 132
    → (valid == 1) && (word == address) ≡ is_reserved (view_of s) address
reserved_by_bytes s s1 address word valid e w same v =
    ap (λ x. (x == 1) && (word == address)) (v ∙ ap (λ (t : State). slice_index t.bytes 132) same)
    ∙ ap (λ x. (slice_index s.bytes 132 == 1) && (x == address)) w ∙ sym (view_of-reserved_Two s address e)

-- the same where the byte says so, and where it doesn't
pub reserved_if_valid : (valid : ℕ) (x r : Bool) → valid ≡ 1 → (valid == 1) && x ≡ r → x ≡ r
reserved_if_valid valid x r e h = ap (λ v. (v == 1) && x) (sym e) ∙ h

pub reserved_unless_valid : (valid : ℕ) (x r : Bool) → (valid ≡ 1 → ⊥) → (valid == 1) && x ≡ r → (valid == 1) ≡ r
reserved_unless_valid valid x r apart h = by_test (valid == 1) x (λ e. apart (eqb-true valid 1 e)) ∙ h
  where
    by_test : (test x : Bool) → (test ≡ true → ⊥) → test ≡ test && x
    by_test true x other = absurd (other refl)
    by_test false x other = refl
