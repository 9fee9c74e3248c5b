-- What a step comes to, in each of its cases.
use Rattle.std.proofs.Common.{◌≡◌, ℕ, Bool, true, false, not, ◌&&◌, if◌then◌else◌, List, [], ◌++◌, length, Option, Some, None, refl, sym, ap, ◌∙◌}
use Rattle.asc_model.specs.declared.version.Version.{Version}
use Rattle.asc_model.specs.declared.fault.FaultKind.{FaultKind}
use Rattle.asc_model.specs.declared.fault.FaultKind.TheVariants.{Misaligned, FetchOutside, Illegal}
use Rattle.asc_model.specs.declared.instruction.Instr.{Instr}
use Rattle.asc_model.specs.Shape.{Shape, place_of, holds}
use Rattle.asc_model.specs.Number.{word_at}
use Rattle.asc_model.specs.State.{State, IsState}
use Rattle.asc_model.specs.Machine.{Machine, view_of}
use Rattle.asc_model.specs.Instruction.{decode}
use Rattle.asc_model.specs.Step.{Outcome, Went, Call, Faulted, fault_outcome, is_aligned, outcome_of_word, fetch, outcome, Next, next, next_of}
use Rattle.asc_model.specs.Places.{places_from, places_read, operand_places, cells_of_outcome, writes, bytes_after}
use Rattle.asc_model.proofs.Views.{view_of-pc, view_of-fetch}
use Rattle.asc_model.proofs.Steps.{next-goes, next-calls, next-fails, writes-calls, writes-fails}
use Rattle.asc_shape.specs.Face.{Face, FitPlaces, face_after_reads, face_after_puts}
use Rattle.asc_shape.proofs.Faces.{state-reads, state-puts, face_after_reads-append}
use Rattle.asc_step.specs.declared.stepped.Stepped.{Stepped}
use Rattle.asc_step.specs.declared.stepped.Stepped.TheVariants as answers
use Rattle.asc_step.specs.Step.{stepped_of, state_after_step, face_after, Attempts}
use Rattle.asc_step.specs.Execute.{word_fault, answer_of}
use Rattle.asc_step.proofs.Touches.{face_after_reads-nil, face_after_puts-nil, state_after_reads}
use Rattle.asc_step.proofs.Rooms.{room_after_step}

-- why the word at a pc cannot be fetched
abbrev pub fetch_fault : Shape → ℕ → Option FaultKind
fetch_fault shape pc = word_fault shape pc Misaligned FetchOutside

-- the answer of an outcome
stepped_of-next_of : (shape : Shape) (m : Machine) (o : Outcome) → stepped_of (next_of shape m o) ≡ answer_of o
stepped_of-next_of shape m (Went list) = refl
stepped_of-next_of shape m Call = refl
stepped_of-next_of shape m (Faulted fault) = refl

-- the answer of a step
pub stepped_of-next : (s : State) → stepped_of (next s) ≡ answer_of (outcome s.shape (view_of s))
unfolding next
stepped_of-next s = stepped_of-next_of s.shape (view_of s) (outcome s.shape (view_of s))

-- what a step writes makes the state after it, in each outcome
after_outcome : (s : State) (o : Outcome) → IsState s → outcome s.shape (view_of s) ≡ o → state_after_step (next s) s ≡ record s { bytes = bytes_after s.bytes (writes s) }
after_outcome s (Went list) good e = ap (λ (n : Next). state_after_step n s) (next-goes s list good e)
after_outcome s Call good e =
    ap (λ (n : Next). state_after_step n s) (next-calls s e) ∙ ap (λ list. record s { bytes = bytes_after s.bytes list }) (sym (writes-calls s e))
after_outcome s (Faulted fault) good e =
    ap (λ (n : Next). state_after_step n s) (next-fails s fault e) ∙ ap (λ list. record s { bytes = bytes_after s.bytes list }) (sym (writes-fails s fault e))

-- what a step writes makes the state after it
state_after_step-is : (s : State) → IsState s → state_after_step (next s) s ≡ record s { bytes = bytes_after s.bytes (writes s) }
state_after_step-is s good = after_outcome s (outcome s.shape (view_of s)) good refl

-- the face after a step has the state after it
state-face_after : (f : Face) → IsState f.state → (face_after f).state ≡ state_after_step (next f.state) f.state
state-face_after f good =
    state-puts (face_after_reads f (places_read f.state)) (writes f.state)
    ∙ ap (λ (s : State). record s { bytes = bytes_after s.bytes (writes f.state) }) (state-reads f (places_read f.state))
    ∙ sym (state_after_step-is f.state good)

-- a step by its outcome and the places that it reads
conclude : (f g : Face) (answer : Stepped) (places : List ℕ) (o : Outcome) → IsState f.state → FitPlaces (length f.state.bytes) f.marks → outcome f.state.shape (view_of f.state) ≡ o → places_read f.state ≡ places
    → answer ≡ answer_of o → g ≡ face_after_puts (face_after_reads f places) (cells_of_outcome f.state.shape o) → Attempts f g answer
unfolding writes
conclude f g answer places o good fit e p a h =
    let all : g ≡ face_after f =
    h ∙ ap (λ list. face_after_puts (face_after_reads f list) (cells_of_outcome f.state.shape o)) (sym p)
    ∙ ap (λ (x : Outcome). face_after_puts (face_after_reads f (places_read f.state)) (cells_of_outcome f.state.shape x)) (sym e) in
    record {
      answer = a ∙ ap answer_of (sym e) ∙ sym (stepped_of-next f.state);
      state = ap (λ (face : Face). face.state) all ∙ state-face_after f good;
      places = all;
      room = room_after_step f g good fit all;
    }

-- a step whose word cannot be fetched, by the two tests
unfetched : (a h : Bool) (kind : FaultKind) (m : Machine) (o : Outcome) → (if not a then Some Misaligned else (if not h then Some FetchOutside else None)) ≡ Some kind
    → (if not a then fault_outcome m Misaligned m.pc else (if not h then fault_outcome m FetchOutside m.pc else o)) ≡ fault_outcome m kind m.pc
unfetched true true kind m o e = cc
unfetched true false kind m o e = let same : FetchOutside ≡ kind = cc in ap (λ (k : FaultKind). fault_outcome m k m.pc) same
unfetched false h kind m o e = let same : Misaligned ≡ kind = cc in ap (λ (k : FaultKind). fault_outcome m k m.pc) same

unfetched_places : (a h : Bool) (kind : FaultKind) (p q : List ℕ) → (if not a then Some Misaligned else (if not h then Some FetchOutside else None)) ≡ Some kind
    → (if a && h then p else q) ≡ q
unfetched_places true true kind p q e = cc
unfetched_places true false kind p q e = refl
unfetched_places false h kind p q e = refl

-- a step whose word can be fetched
both_tests : (a h : Bool) → (if not a then Some Misaligned else (if not h then Some FetchOutside else None)) ≡ None → (a ≡ true) × (h ≡ true)
both_tests true true e = (refl, refl)
both_tests true false e = cc
both_tests false h e = cc

pub fetched_tests : (shape : Shape) (pc : ℕ) → fetch_fault shape pc ≡ None → (is_aligned pc ≡ true) × (holds shape pc 4 ≡ true)
fetched_tests shape pc e = both_tests (is_aligned pc) (holds shape pc 4) e

pub outcome-fetched : (shape : Shape) (m : Machine) → fetch_fault shape m.pc ≡ None → outcome shape m ≡ outcome_of_word shape m (decode shape.version (fetch shape m))
unfolding outcome
outcome-fetched shape m e = let tests = fetched_tests shape m.pc e in rw (tests.0, tests.1) refl

pub places_read-fetched : (s : State) → fetch_fault s.shape (view_of s).pc ≡ None
    → places_read s ≡ places_from 0 4 ++ places_from (place_of s.shape (view_of s).pc) 4 ++ operand_places s.shape (view_of s) (decode s.shape.version (fetch s.shape (view_of s)))
unfolding places_read
places_read-fetched s e = let tests = fetched_tests s.shape (view_of s).pc e in rw (tests.0, tests.1) refl

pub outcome-unfetched : (shape : Shape) (m : Machine) (kind : FaultKind) → fetch_fault shape m.pc ≡ Some kind → outcome shape m ≡ fault_outcome m kind m.pc
unfolding outcome
outcome-unfetched shape m kind e = unfetched (is_aligned m.pc) (holds shape m.pc 4) kind m _ e

places_read-unfetched : (s : State) (kind : FaultKind) → fetch_fault s.shape (view_of s).pc ≡ Some kind → places_read s ≡ places_from 0 4
unfolding places_read
places_read-unfetched s kind e = unfetched_places (is_aligned (view_of s).pc) (holds s.shape (view_of s).pc 4) kind _ _ e

-- ---- the cases as the code has them

-- the word cannot be fetched
pub step_unfetched : (f g : Face) (answer : Stepped) (shape : Shape) (pc : ℕ) (kind : FaultKind) → IsState f.state → FitPlaces (length f.state.bytes) f.marks → shape ≡ f.state.shape → pc ≡ word_at f.state.bytes 0
    → Some kind ≡ fetch_fault shape pc → answer ≡ answers.Faulted (record { kind = kind; pc = pc; value = pc }) → g ≡ face_after_reads f (places_from 0 4) → Attempts f g answer
step_unfetched f g answer shape pc kind good fit same p k a e =
    let at : pc ≡ (view_of f.state).pc = p ∙ sym (view_of-pc f.state) in
    let failed : fetch_fault f.state.shape (view_of f.state).pc ≡ Some kind =
    ap (fetch_fault f.state.shape) (sym at) ∙ ap (λ (x : Shape). fetch_fault x pc) (sym same) ∙ sym k in
    conclude f g answer (places_from 0 4) (fault_outcome (view_of f.state) kind (view_of f.state).pc) good fit
    (outcome-unfetched f.state.shape (view_of f.state) kind failed) (places_read-unfetched f.state kind failed)
    (a ∙ ap (λ x. answers.Faulted (record { kind = kind; pc = x; value = x })) at)
    (e ∙ sym (face_after_puts-nil (face_after_reads f (places_from 0 4))))

-- what is known once the word is fetched: the face before it, and the instruction
pub record IsFetched (f f1 f2 : Face) (pc word : ℕ) (instruction : Option Instr) : Type 0 where
  pub good : IsState f.state
  pub fit : FitPlaces (length f.state.bytes) f.marks
  pub pc_is : pc ≡ word_at f.state.bytes 0
  pub clear : fetch_fault f.state.shape pc ≡ None
  pub word_is : word ≡ word_at f1.state.bytes (place_of f.state.shape pc)
  pub instruction_is : instruction ≡ decode f.state.shape.version word
  pub first : f1 ≡ face_after_reads f (places_from 0 4)
  pub second : f2 ≡ face_after_reads f1 (places_from (place_of f.state.shape pc) 4)

-- the same as the code comes to it
pub fetched : (f f1 f2 : Face) (shape : Shape) (version : Version) (pc place word : ℕ) (instruction : Option Instr) → IsState f.state → FitPlaces (length f.state.bytes) f.marks → shape ≡ f.state.shape
    → pc ≡ word_at f.state.bytes 0 → f1 ≡ face_after_reads f (places_from 0 4) → None ≡ fetch_fault shape pc
    → place ≡ place_of shape pc → word ≡ word_at f1.state.bytes place → f2 ≡ face_after_reads f1 (places_from place 4)
    → version ≡ shape.version → instruction ≡ decode version word → IsFetched f f1 f2 pc word instruction
fetched f f1 f2 shape version pc place word instruction good fit same p e1 n at w e2 v d =
    let there : place ≡ place_of f.state.shape pc = at ∙ ap (λ (x : Shape). place_of x pc) same in
    record {
      good = good;
      fit = fit;
      pc_is = p;
      clear = ap (λ (x : Shape). fetch_fault x pc) (sym same) ∙ sym n;
      word_is = w ∙ ap (λ x. word_at f1.state.bytes x) there;
      instruction_is = d ∙ ap (λ (x : Version). decode x word) (v ∙ ap (λ (x : Shape). x.version) same);
      first = e1;
      second = e2 ∙ ap (λ x. face_after_reads f1 (places_from x 4)) there;
    }

module _ (f f1 f2 : Face) (pc word : ℕ) (instruction : Option Instr) (h : IsFetched f f1 f2 pc word instruction) where
  is_pc : pc ≡ (view_of f.state).pc
  is_pc = h.pc_is ∙ sym (view_of-pc f.state)

  is_clear : fetch_fault f.state.shape (view_of f.state).pc ≡ None
  is_clear = ap (fetch_fault f.state.shape) (sym is_pc) ∙ h.clear

  -- the state is as it was
  pub fetched_state : f2.state ≡ f.state
  fetched_state = state_after_reads f1 f2 _ h.second ∙ state_after_reads f f1 _ h.first

  -- the word is the one at the pc
  fetched_word : word ≡ fetch f.state.shape (view_of f.state)
  fetched_word =
      h.word_is ∙ ap (λ (s : State). word_at s.bytes (place_of f.state.shape pc)) (state_after_reads f f1 _ h.first)
      ∙ ap (λ x. word_at f.state.bytes (place_of f.state.shape x)) h.pc_is ∙ sym (view_of-fetch f.state)

  -- and at the pc of the state as it is now
  pub word_fetched : word ≡ fetch f2.state.shape (view_of f2.state)
  word_fetched = fetched_word ∙ ap (λ (s : State). fetch s.shape (view_of s)) (sym fetched_state)

  fetched_instruction : instruction ≡ decode f.state.shape.version (fetch f.state.shape (view_of f.state))
  fetched_instruction = h.instruction_is ∙ ap (decode f.state.shape.version) fetched_word

  fetched_outcome : outcome f.state.shape (view_of f.state) ≡ outcome_of_word f.state.shape (view_of f.state) instruction
  fetched_outcome = outcome-fetched f.state.shape (view_of f.state) is_clear ∙ ap (outcome_of_word f.state.shape (view_of f.state)) (sym fetched_instruction)

  fetched_places : places_read f.state ≡ places_from 0 4 ++ places_from (place_of f.state.shape pc) 4 ++ operand_places f.state.shape (view_of f.state) instruction
  fetched_places =
      places_read-fetched f.state is_clear
      ∙ ap (λ (i : Option Instr). places_from 0 4 ++ places_from (place_of f.state.shape (view_of f.state).pc) 4 ++ operand_places f.state.shape (view_of f.state) i) (sym fetched_instruction)
      ∙ ap (λ x. places_from 0 4 ++ places_from (place_of f.state.shape x) 4 ++ operand_places f.state.shape (view_of f.state) instruction) (sym is_pc)

  fetched_reads : (places : List ℕ) → face_after_reads f2 places ≡ face_after_reads f (places_from 0 4 ++ places_from (place_of f.state.shape pc) 4 ++ places)
  fetched_reads places =
      let a = places_from 0 4 in
      let b = places_from (place_of f.state.shape pc) 4 in
      ap (λ (face : Face). face_after_reads face places) (h.second ∙ ap (λ (face : Face). face_after_reads face b) h.first ∙ sym (face_after_reads-append f a b))
      ∙ sym (face_after_reads-append f (a ++ b) places)

  -- the answer and the face that the word's execution leaves are those of the step
  pub step_fetched : (g : Face) (answer : Stepped) → answer ≡ answer_of (outcome_of_word f2.state.shape (view_of f2.state) instruction)
      → g ≡ face_after_puts (face_after_reads f2 (operand_places f2.state.shape (view_of f2.state) instruction)) (cells_of_outcome f2.state.shape (outcome_of_word f2.state.shape (view_of f2.state) instruction))
      → Attempts f g answer
  step_fetched g answer a e =
      let m = view_of f.state in
      let o = outcome_of_word f.state.shape m instruction in
      conclude f g answer (places_from 0 4 ++ places_from (place_of f.state.shape pc) 4 ++ operand_places f.state.shape m instruction) o h.good h.fit fetched_outcome fetched_places
      (a ∙ ap (λ (s : State). answer_of (outcome_of_word s.shape (view_of s) instruction)) fetched_state)
      (e
      ∙ ap (λ (s : State). face_after_puts (face_after_reads f2 (operand_places s.shape (view_of s) instruction)) (cells_of_outcome s.shape (outcome_of_word s.shape (view_of s) instruction))) fetched_state
      ∙ ap (λ (face : Face). face_after_puts face (cells_of_outcome f.state.shape o)) (fetched_reads (operand_places f.state.shape m instruction)))

-- a step whose word is no instruction
pub step_illegal : (f f1 f2 : Face) (pc word : ℕ) → IsFetched f f1 f2 pc word None → (answer : Stepped)
    → answer ≡ answers.Faulted (record { kind = Illegal; pc = pc; value = word }) → Attempts f f2 answer
step_illegal f f1 f2 pc word h answer a =
    let same = sym (fetched_state f f1 f2 pc word None h) in
    let pcs : pc ≡ (view_of f2.state).pc = is_pc f f1 f2 pc word None h ∙ ap (λ (s : State). (view_of s).pc) same in
    let words : word ≡ fetch f2.state.shape (view_of f2.state) = fetched_word f f1 f2 pc word None h ∙ ap (λ (s : State). fetch s.shape (view_of s)) same in
    step_fetched f f1 f2 pc word None h f2 answer
    (a ∙ ap (λ x. answers.Faulted (record { kind = Illegal; pc = x; value = word })) pcs
    ∙ ap (λ x. answers.Faulted (record { kind = Illegal; pc = (view_of f2.state).pc; value = x })) words)
    (sym (face_after_puts-nil (face_after_reads f2 []) ∙ face_after_reads-nil f2))
