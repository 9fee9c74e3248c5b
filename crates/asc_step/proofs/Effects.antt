-- Lemmas on what carrying out an effect reads and puts.
use Rattle.std.proofs.Common.{◌≡◌, ℕ, ◌+◌, ◌<◌, ◌≤◌, Bool, true, false, not, ◌&&◌, List, [], ◌∷◌, ◌++◌, length, Option, Some, None, if◌then◌else◌, refl, sym, ap, ◌∙◌, subst, append-nil, append_assoc, arith}
use Rattle.std.specs.List.{flat_map}
use Rattle.std.specs.Prelude.{All}
use Rattle.std.proofs.lemmas.Bool.{cond-true, cond-false}
use Rattle.std.proofs.lemmas.List.Elements.{All-nil, All-cons}
use Rattle.asc_model.specs.declared.fault.Fault.{Fault}
use Rattle.asc_model.specs.declared.fault.FaultKind.{FaultKind}
use Rattle.asc_model.specs.declared.fault.FaultKind.TheVariants.{Misaligned, LoadOutside, StoreOutside, Break, AtomicMisaligned}
use Rattle.asc_model.specs.declared.version.Version.{Version}
use Rattle.asc_model.specs.declared.instruction.Instr.{Instr}
use Rattle.asc_model.specs.Shape.{Shape, place_of, holds}
use Rattle.asc_model.specs.Number.{bytes_of, number_at, word_at}
use Rattle.asc_model.specs.State.{State, IsState}
use Rattle.asc_model.specs.Machine.{Machine, Change, Pc, Register, Memory, reserve, release, load, is_reserved, view_of}
use Rattle.asc_model.specs.Arithmetic.{◌+w◌, one_if}
use Rattle.asc_model.specs.Effect.{Effect, Set, Load, Store, Jump, LoadReserved, StoreConditional, Modify, GuestCall, Breakpoint}
use Rattle.asc_model.specs.Step.{Outcome, Went, Faulted, fault_outcome, is_aligned, atomic_outcome, loaded_word, effect_of, outcome_of}
use Rattle.asc_model.specs.Instruction.{decode}
use Rattle.asc_model.proofs.Steps.{IsInstruction, IfInstruction, decode-IsInstruction, IsEffect, effect_of-IsEffect}
use Rattle.asc_model.specs.Places.{places_from, reservation_places, cells, cells_of, cells_of_outcome, atomic_places, data_places}
use Rattle.asc_model.proofs.Numbers.{length-bytes_after}
use Rattle.asc_model.proofs.Changes.{start_of-least, holds-parts, IsMachine-view_of}
use Rattle.asc_model.proofs.Views.{view_of-load, view_of-pc}
use Rattle.asc_shape.specs.Face.{Face, FitPlaces, face_after_reads, face_after_puts, untouched_count}
use Rattle.asc_shape.proofs.Faces.{state-reads, state-puts, face_after_puts-append}
use Rattle.asc_shape.proofs.Settled.{have_statuses, touched-reads, untouched_count-reads-le}
use Rattle.asc_step.specs.declared.stepped.Stepped.{Stepped}
use Rattle.asc_step.specs.declared.stepped.Stepped.TheVariants as answers
use Rattle.asc_step.specs.Execute.{Puts, AtInstruction, IsOfVersion, Finishes, word_fault, answer_of}
use Rattle.asc_step.proofs.Touches.{face_after_reads-nil, face_after_puts-nil}

-- ---- places

-- a state has more bytes than the pc, the registers and the reservation
pub length-IsState : (s : State) → IsState s → 136 ≤ length s.bytes
length-IsState s good = omega (arith, good.length, start_of-least s.shape.version, good.shape.size.least)

-- places touched stay so
pub touched_after_reads : (f g : Face) (places list : List ℕ) → g ≡ face_after_reads f places → untouched_count f.marks list ≡ 0 → untouched_count g.marks list ≡ 0
touched_after_reads f g places list e h = ap (λ (x : Face). untouched_count x.marks list) e ∙ omega (arith, untouched_count-reads-le f places list, h)

-- ---- puts

-- the shape stays
shape-puts : (f g : Face) (list : List (ℕ × ℕ)) → g ≡ face_after_puts f list → g.state.shape ≡ f.state.shape
shape-puts f g list e = ap (λ (x : Face). x.state.shape) e ∙ ap (λ (s : State). s.shape) (state-puts f list)

-- one change
pub puts_one : (f g : Face) (c : Change) → g ≡ face_after_puts f (cells_of f.state.shape c) → Puts f g (c ∷ [])
puts_one f g c e = e ∙ ap (face_after_puts f) (sym (append-nil (cells_of f.state.shape c)))

cells-append : (shape : Shape) (a b : List Change) → flat_map (cells_of shape) (a ++ b) ≡ flat_map (cells_of shape) a ++ flat_map (cells_of shape) b
cells-append shape [] b = refl
cells-append shape (c ∷ a) b =
    ap (λ (l : List (ℕ × ℕ)). cells_of shape c ++ l) (cells-append shape a b) ∙ sym (append_assoc (cells_of shape c) (flat_map (cells_of shape) a) (flat_map (cells_of shape) b))

-- changes and then others
pub puts_then : (f g h : Face) (a b : List Change) → Puts f g a → Puts g h b → Puts f h (a ++ b)
puts_then f g h a b p q =
    let first = flat_map (cells_of f.state.shape) a in
    let second = flat_map (cells_of f.state.shape) b in
    q ∙ ap (λ (x : Shape). face_after_puts g (flat_map (cells_of x) b)) (shape-puts f g first p)
    ∙ ap (λ (x : Face). face_after_puts x second) p ∙ sym (face_after_puts-append f first second)
    ∙ ap (face_after_puts f) (sym (cells-append f.state.shape a b))

-- the number of bytes stays
pub length_puts : (f g : Face) (list : List Change) → Puts f g list → length g.state.bytes ≡ length f.state.bytes
length_puts f g list e =
    ap (λ (x : Face). length x.state.bytes) e ∙ ap (λ (s : State). length s.bytes) (state-puts f (flat_map (cells_of f.state.shape) list))
    ∙ length-bytes_after f.state.bytes (flat_map (cells_of f.state.shape) list)

-- ---- effects

-- an effect that goes on
pub finishes_goes : (f f1 g : Face) (rd : ℕ) (e : Effect) (list : List Change) (answer : Stepped) → outcome_of f.state.shape (view_of f.state) rd e ≡ Went list
    → f1 ≡ face_after_reads f (data_places f.state.shape e) → Puts f1 g list → answer ≡ answers.Went → Finishes f g rd e answer
finishes_goes f f1 g rd e list answer o r p a =
    let places = data_places f.state.shape e in
    let same : f1.state.shape ≡ f.state.shape = ap (λ (x : Face). x.state.shape) r ∙ ap (λ (s : State). s.shape) (state-reads f places) in
    record {
      answer = a ∙ ap answer_of (sym o);
      face =
          p ∙ ap (λ (x : Shape). face_after_puts f1 (flat_map (cells_of x) list)) same
          ∙ ap (λ (x : Face). face_after_puts x (flat_map (cells_of f.state.shape) list)) r
          ∙ ap (λ (x : Outcome). face_after_puts (face_after_reads f places) (cells_of_outcome f.state.shape x)) (sym o);
    }

-- an effect that ends in a fault
pub finishes_fails : (f : Face) (rd : ℕ) (e : Effect) (fault : Fault) (answer : Stepped) → outcome_of f.state.shape (view_of f.state) rd e ≡ Faulted fault
    → data_places f.state.shape e ≡ [] → answer ≡ answers.Faulted fault → Finishes f f rd e answer
finishes_fails f rd e fault answer o p a = record {
  answer = a ∙ ap answer_of (sym o);
  face =
      sym (face_after_puts-nil (face_after_reads f []) ∙ face_after_reads-nil f)
      ∙ ap (λ (x : List ℕ). face_after_puts (face_after_reads f x) []) (sym p)
      ∙ ap (λ (x : Outcome). face_after_puts (face_after_reads f (data_places f.state.shape e)) (cells_of_outcome f.state.shape x)) (sym o);
}

-- a guest call
pub finishes_calls : (f : Face) (rd : ℕ) → Finishes f f rd GuestCall answers.Call
finishes_calls f rd = record { answer = refl; face = sym (face_after_puts-nil (face_after_reads f []) ∙ face_after_reads-nil f) }

-- the fault at this pc
abbrev pub fault_at : FaultKind → (pc value : ℕ) → Fault
fault_at kind pc value = record { kind = kind; pc = pc; value = value }

pub fault_outcome-at : (m : Machine) (kind : FaultKind) (pc value : ℕ) → pc ≡ m.pc → fault_outcome m kind value ≡ Faulted (fault_at kind pc value)
fault_outcome-at m kind pc value e = ap (λ x. Faulted (fault_at kind x value)) (sym e)

-- ---- each effect

-- x[rd] = value
pub finishes_set : (f g : Face) (pc rd value : ℕ) (answer : Stepped) → AtInstruction f pc → Puts f g (Pc (pc +w 4) ∷ Register rd value ∷ []) → answer ≡ answers.Went → Finishes f g rd (Set value) answer
finishes_set f g pc rd value answer at p a =
    finishes_goes f f g rd (Set value) (Pc (pc +w 4) ∷ Register rd value ∷ []) answer (ap (λ x. Went (Pc (x +w 4) ∷ Register rd value ∷ [])) (sym at.pc))
    (sym (face_after_reads-nil f)) p a

-- x[rd] = M[address]
module _ (f : Face) (pc rd n : ℕ) (signed : Bool) (address : ℕ) (at : AtInstruction f pc) where
  pub finishes_load : (f1 g : Face) (place number : ℕ) (answer : Stepped) → holds f.state.shape address n ≡ true → place ≡ place_of f.state.shape address
      → number ≡ number_at n f.state.bytes place → f1 ≡ face_after_reads f (places_from place n)
      → Puts f1 g (Pc (pc +w 4) ∷ Register rd (loaded_word n signed number) ∷ []) → answer ≡ answers.Went → Finishes f g rd (Load n signed address) answer
  finishes_load f1 g place number answer h e v r p a =
      let m = view_of f.state in
      let value : number ≡ load f.state.shape m n address = v ∙ ap (number_at n f.state.bytes) e ∙ sym (view_of-load f.state n address) in
      finishes_goes f f1 g rd (Load n signed address) (Pc (pc +w 4) ∷ Register rd (loaded_word n signed number) ∷ []) answer
      (cond-true _ _ _ h
      ∙ ap (λ x. Went (Pc (x +w 4) ∷ Register rd (loaded_word n signed (load f.state.shape m n address)) ∷ [])) (sym at.pc)
      ∙ ap (λ x. Went (Pc (pc +w 4) ∷ Register rd (loaded_word n signed x) ∷ [])) (sym value))
      (r ∙ ap (λ x. face_after_reads f (places_from x n)) e ∙ ap (face_after_reads f) (sym (cond-true _ (places_from (place_of f.state.shape address) n) [] h)))
      p a

  pub fails_load : (answer : Stepped) → holds f.state.shape address n ≡ false → answer ≡ answers.Faulted (fault_at LoadOutside pc address) → Finishes f f rd (Load n signed address) answer
  fails_load answer h a =
      finishes_fails f rd (Load n signed address) (fault_at LoadOutside pc address) answer
      (cond-false _ _ _ h ∙ fault_outcome-at (view_of f.state) LoadOutside pc address at.pc) (cond-false _ _ _ h) a

-- M[address] = value
module _ (f : Face) (pc rd n address value : ℕ) (at : AtInstruction f pc) where
  pub finishes_store : (g : Face) (answer : Stepped) → holds f.state.shape address n ≡ true → Puts f g (Pc (pc +w 4) ∷ Memory address (bytes_of n value) ∷ [])
      → answer ≡ answers.Went → Finishes f g rd (Store n address value) answer
  finishes_store g answer h p a =
      finishes_goes f f g rd (Store n address value) (Pc (pc +w 4) ∷ Memory address (bytes_of n value) ∷ []) answer
      (cond-true _ _ _ h ∙ ap (λ x. Went (Pc (x +w 4) ∷ Memory address (bytes_of n value) ∷ [])) (sym at.pc)) (sym (face_after_reads-nil f)) p a

  pub fails_store : (answer : Stepped) → holds f.state.shape address n ≡ false → answer ≡ answers.Faulted (fault_at StoreOutside pc address) → Finishes f f rd (Store n address value) answer
  fails_store answer h a =
      finishes_fails f rd (Store n address value) (fault_at StoreOutside pc address) answer
      (cond-false _ _ _ h ∙ fault_outcome-at (view_of f.state) StoreOutside pc address at.pc) refl a

-- x[rd] = pc + 4; pc = target
module _ (f : Face) (pc rd target : ℕ) (at : AtInstruction f pc) where
  pub finishes_jump : (g : Face) (answer : Stepped) → is_aligned target ≡ true → Puts f g (Pc target ∷ Register rd (pc +w 4) ∷ []) → answer ≡ answers.Went → Finishes f g rd (Jump target) answer
  finishes_jump g answer h p a =
      finishes_goes f f g rd (Jump target) (Pc target ∷ Register rd (pc +w 4) ∷ []) answer
      (cond-true _ _ _ h ∙ ap (λ x. Went (Pc target ∷ Register rd (x +w 4) ∷ [])) (sym at.pc)) (sym (face_after_reads-nil f)) p a

  pub fails_jump : (answer : Stepped) → is_aligned target ≡ false → answer ≡ answers.Faulted (fault_at Misaligned pc target) → Finishes f f rd (Jump target) answer
  fails_jump answer h a =
      finishes_fails f rd (Jump target) (fault_at Misaligned pc target) answer (cond-false _ _ _ h ∙ fault_outcome-at (view_of f.state) Misaligned pc target at.pc) refl a

-- ---- atomics

-- an atomic's outcome and what it reads, by the code's test of its address
atomic_fails : (x y : Bool) (m : Machine) (outside kind : FaultKind) (address : ℕ) (list : Outcome) (places : List ℕ)
    → (if not x then Some AtomicMisaligned else (if not y then Some outside else None)) ≡ Some kind
    → ((if not x then fault_outcome m AtomicMisaligned address else (if y then list else fault_outcome m outside address)) ≡ fault_outcome m kind address)
    × ((if x && y then places else []) ≡ [])
atomic_fails true true m outside kind address list places e = absurd (cc)
atomic_fails true false m outside kind address list places e = let same : outside ≡ kind = cc in (ap (λ (k : FaultKind). fault_outcome m k address) same, refl)
atomic_fails false y m outside kind address list places e = let same : AtomicMisaligned ≡ kind = cc in (ap (λ (k : FaultKind). fault_outcome m k address) same, refl)

atomic_goes : (x y : Bool) (f h list : Outcome) (outside : FaultKind) (places : List ℕ) → (if not x then Some AtomicMisaligned else (if not y then Some outside else None)) ≡ None
    → ((if not x then f else (if y then list else h)) ≡ list) × ((if x && y then places else []) ≡ places)
atomic_goes true true f h list outside places e = (refl, refl)
atomic_goes true false f h list outside places e = absurd (cc)
atomic_goes false y f h list outside places e = absurd (cc)

-- where the code's test finds no fault memory has the word
pub atomic_holds : (shape : Shape) (outside : FaultKind) (address : ℕ) → None ≡ word_fault shape address AtomicMisaligned outside → holds shape address 4 ≡ true
atomic_holds shape outside address e = by_tests (is_aligned address) (holds shape address 4) e
  where
    by_tests : (x y : Bool) → None ≡ (if not x then Some AtomicMisaligned else (if not y then Some outside else None)) → y ≡ true
    by_tests true true e = refl
    by_tests true false e = absurd (cc)
    by_tests false y e = absurd (cc)

-- an atomic that ends in a fault
pub fails_atomic : (f : Face) (pc rd : ℕ) (e : Effect) (outside kind : FaultKind) (address : ℕ) (list : List Change) (places : List ℕ) (answer : Stepped) → AtInstruction f pc
    → outcome_of f.state.shape (view_of f.state) rd e ≡ atomic_outcome f.state.shape (view_of f.state) outside address list
    → data_places f.state.shape e ≡ atomic_places f.state.shape address places → Some kind ≡ word_fault f.state.shape address AtomicMisaligned outside
    → answer ≡ answers.Faulted (fault_at kind pc address) → Finishes f f rd e answer
fails_atomic f pc rd e outside kind address list places answer at o d k a =
    let both = atomic_fails (is_aligned address) (holds f.state.shape address 4) (view_of f.state) outside kind address (Went list) places (sym k) in
    finishes_fails f rd e (fault_at kind pc address) answer (o ∙ both.0 ∙ fault_outcome-at (view_of f.state) kind pc address at.pc) (d ∙ both.1) a

-- an atomic that goes on
pub finishes_atomic : (f f1 g : Face) (rd : ℕ) (e : Effect) (outside : FaultKind) (address : ℕ) (list new : List Change) (places : List ℕ) (answer : Stepped)
    → outcome_of f.state.shape (view_of f.state) rd e ≡ atomic_outcome f.state.shape (view_of f.state) outside address list
    → data_places f.state.shape e ≡ atomic_places f.state.shape address places → None ≡ word_fault f.state.shape address AtomicMisaligned outside
    → list ≡ new → f1 ≡ face_after_reads f places → Puts f1 g new → answer ≡ answers.Went → Finishes f g rd e answer
finishes_atomic f f1 g rd e outside address list new places answer o d k l r p a =
    let both = atomic_goes (is_aligned address) (holds f.state.shape address 4) (fault_outcome (view_of f.state) AtomicMisaligned address) (fault_outcome (view_of f.state) outside address) (Went list) outside places (sym k) in
    finishes_goes f f1 g rd e new answer (o ∙ both.0 ∙ ap Went l) (r ∙ ap (face_after_reads f) (sym (d ∙ both.1))) p a

-- ---- lengths

-- where memory holds bytes their places are places of the state
pub place-within : (f : Face) (address n place : ℕ) → IsState f.state → holds f.state.shape address n ≡ true → place ≡ place_of f.state.shape address → place + n ≤ length f.state.bytes
place-within f address n place good h e =
    let parts = holds-parts f.state.shape address n h in
    omega (arith, good.length, parts.0, parts.1, e)

-- ---- from what the code has found

-- a test of memory
pub tested : (shape s : Shape) (address n m : ℕ) (r b : Bool) → r ≡ holds shape address n → shape ≡ s → n ≡ m → r ≡ b → holds s address m ≡ b
tested shape s address n m r b h same size e =
    ap (λ (x : Shape). holds x address m) (sym same) ∙ ap (holds shape address) (sym size) ∙ sym h ∙ e

-- the place of an address
pub placed : (shape s : Shape) (place address : ℕ) → place ≡ place_of shape address → shape ≡ s → place ≡ place_of s address
placed shape s place address e same = e ∙ ap (λ (x : Shape). place_of x address) same

-- a test of an atomic's address
pub faulted : (shape s : Shape) (outside : FaultKind) (address : ℕ) (k : Option FaultKind) → k ≡ word_fault shape address AtomicMisaligned outside → shape ≡ s → k ≡ word_fault s address AtomicMisaligned outside
faulted shape s outside address k e same = e ∙ ap (λ (x : Shape). word_fault x address AtomicMisaligned outside) same

-- bytes put into memory
pub puts_memory : (f g : Face) (place address : ℕ) (bytes : List ℕ) → place ≡ place_of f.state.shape address → g ≡ face_after_puts f (cells place bytes) → Puts f g (Memory address bytes ∷ [])
puts_memory f g place address bytes e p = puts_one f g (Memory address bytes) (p ∙ ap (λ x. face_after_puts f (cells x bytes)) e)

-- the shape stays
pub shape_reads : (f g : Face) (places : List ℕ) → g ≡ face_after_reads f places → g.state.shape ≡ f.state.shape
shape_reads f g places e = ap (λ (x : Face). x.state.shape) e ∙ ap (λ (s : State). s.shape) (state-reads f places)

pub shape_puts : (f g : Face) (list : List Change) → Puts f g list → g.state.shape ≡ f.state.shape
shape_puts f g list e = shape-puts f g (flat_map (cells_of f.state.shape) list) e

-- x[rd] = M[address]; the address is reserved
pub finishes_load_reserved : (f f1 g : Face) (pc rd address place old : ℕ) (answer : Stepped) → AtInstruction f pc → None ≡ word_fault f.state.shape address AtomicMisaligned LoadOutside
    → place ≡ place_of f.state.shape address → old ≡ word_at f.state.bytes place → f1 ≡ face_after_reads f (places_from place 4)
    → Puts f1 g (Pc (pc +w 4) ∷ Register rd old ∷ reserve address ∷ []) → answer ≡ answers.Went → Finishes f g rd (LoadReserved address) answer
finishes_load_reserved f f1 g pc rd address place old answer at k e v r p a =
    let m = view_of f.state in
    let value : load f.state.shape m 4 address ≡ old = view_of-load f.state 4 address ∙ sym (v ∙ ap (word_at f.state.bytes) e) in
    finishes_atomic f f1 g rd (LoadReserved address) LoadOutside address (Pc (m.pc +w 4) ∷ Register rd (load f.state.shape m 4 address) ∷ reserve address ∷ [])
    (Pc (pc +w 4) ∷ Register rd old ∷ reserve address ∷ []) (places_from (place_of f.state.shape address) 4) answer refl refl k
    (ap (λ x. Pc (x +w 4) ∷ Register rd (load f.state.shape m 4 address) ∷ reserve address ∷ []) (sym at.pc) ∙ ap (λ x. Pc (pc +w 4) ∷ Register rd x ∷ reserve address ∷ []) value)
    (r ∙ ap (λ x. face_after_reads f (places_from x 4)) e) p a

-- x[rd] = M[address]; M[address] = change of it
pub finishes_modify : (f f1 g : Face) (pc rd address place old : ℕ) (change : ℕ → ℕ) (answer : Stepped) → AtInstruction f pc → None ≡ word_fault f.state.shape address AtomicMisaligned StoreOutside
    → place ≡ place_of f.state.shape address → old ≡ word_at f.state.bytes place → f1 ≡ face_after_reads f (places_from place 4)
    → Puts f1 g (Pc (pc +w 4) ∷ Register rd old ∷ Memory address (bytes_of 4 (change old)) ∷ []) → answer ≡ answers.Went → Finishes f g rd (Modify address change) answer
finishes_modify f f1 g pc rd address place old change answer at k e v r p a =
    let m = view_of f.state in
    let value : load f.state.shape m 4 address ≡ old = view_of-load f.state 4 address ∙ sym (v ∙ ap (word_at f.state.bytes) e) in
    let loaded = load f.state.shape m 4 address in
    finishes_atomic f f1 g rd (Modify address change) StoreOutside address (Pc (m.pc +w 4) ∷ Register rd loaded ∷ Memory address (bytes_of 4 (change loaded)) ∷ [])
    (Pc (pc +w 4) ∷ Register rd old ∷ Memory address (bytes_of 4 (change old)) ∷ []) (places_from (place_of f.state.shape address) 4) answer refl refl k
    (ap (λ x. Pc (x +w 4) ∷ Register rd loaded ∷ Memory address (bytes_of 4 (change loaded)) ∷ []) (sym at.pc) ∙ ap (λ x. Pc (pc +w 4) ∷ Register rd x ∷ Memory address (bytes_of 4 (change x)) ∷ []) value)
    (r ∙ ap (λ x. face_after_reads f (places_from x 4)) e) p a

-- the changes of a conditional store
abbrev pub conditional_changes : (pc rd address value : ℕ) → Bool → List Change
conditional_changes pc rd address value reserved =
    Pc (pc +w 4) ∷ Register rd (one_if (not reserved)) ∷ release ∷ (if reserved then Memory address (bytes_of 4 value) ∷ [] else [])

pub finishes_store_conditional : (f f1 g : Face) (pc rd address value : ℕ) (reserved : Bool) (answer : Stepped) → AtInstruction f pc → None ≡ word_fault f.state.shape address AtomicMisaligned StoreOutside
    → reserved ≡ is_reserved (view_of f.state) address → f1 ≡ face_after_reads f reservation_places → Puts f1 g (conditional_changes pc rd address value reserved)
    → answer ≡ answers.Went → Finishes f g rd (StoreConditional address value) answer
finishes_store_conditional f f1 g pc rd address value reserved answer at k v r p a =
    let m = view_of f.state in
    finishes_atomic f f1 g rd (StoreConditional address value) StoreOutside address (conditional_changes m.pc rd address value (is_reserved m address))
    (conditional_changes pc rd address value reserved) reservation_places answer refl refl k
    (ap (λ x. conditional_changes x rd address value (is_reserved m address)) (sym at.pc) ∙ ap (conditional_changes pc rd address value) (sym v))
    r p a

-- control goes to a debugger
pub finishes_break : (f : Face) (pc rd : ℕ) (answer : Stepped) → AtInstruction f pc → answer ≡ answers.Faulted (fault_at Break pc 0) → Finishes f f rd Breakpoint answer
finishes_break f pc rd answer at a = finishes_fails f rd Breakpoint (fault_at Break pc 0) answer (fault_outcome-at (view_of f.state) Break pc 0 at.pc) refl a

-- ---- the instruction's places

-- the instruction is at hand also after more is read
pub at_after_reads : (f g : Face) (places : List ℕ) (pc : ℕ) → g ≡ face_after_reads f places → AtInstruction f pc → AtInstruction g pc
at_after_reads f g places pc e at =
    let same : g.state ≡ f.state = ap (λ (x : Face). x.state) e ∙ state-reads f places in
    record {
      state = subst IsState (sym same) at.state;
      pc = at.pc ∙ ap (λ (s : State). (view_of s).pc) (sym same);
      touched = touched_after_reads f g places (places_from 0 4) e at.touched;
    }

-- once the pc is read its places are touched
pub touched_by_reads_of_pc : (f : Face) → IsState f.state → FitPlaces (length f.state.bytes) f.marks → untouched_count (face_after_reads f (places_from 0 4)).marks (places_from 0 4) ≡ 0
touched_by_reads_of_pc f good fit =
    let n = length f.state.bytes in
    let long = length-IsState f.state good in
    let bound = λ (x : ℕ). x < n in
    let below : All bound (places_from 0 4) =
    All-cons bound 0 (1 ∷ 2 ∷ 3 ∷ []) (omega arith) (All-cons bound 1 (2 ∷ 3 ∷ []) (omega arith) (All-cons bound 2 (3 ∷ []) (omega arith) (All-cons bound 3 [] (omega arith) (All-nil bound)))) in
    touched-reads n f (places_from 0 4) (have_statuses n f.marks fit) below

-- once the pc and the word are read the instruction is at hand
pub at_fetched : (f f1 f2 : Face) (pc : ℕ) (places : List ℕ) → IsState f.state → FitPlaces (length f.state.bytes) f.marks → pc ≡ word_at f.state.bytes 0
    → f1 ≡ face_after_reads f (places_from 0 4) → f2 ≡ face_after_reads f1 places → AtInstruction f2 pc
at_fetched f f1 f2 pc places good fit p e1 e2 =
    let same : f1.state ≡ f.state = ap (λ (x : Face). x.state) e1 ∙ state-reads f (places_from 0 4) in
    at_after_reads f1 f2 places pc e2 (record {
      state = subst IsState (sym same) good;
      pc = p ∙ sym (view_of-pc f.state) ∙ ap (λ (s : State). (view_of s).pc) (sym same);
      touched = ap (λ (x : Face). untouched_count x.marks (places_from 0 4)) e1 ∙ touched_by_reads_of_pc f good fit;
    })

-- ---- versions

-- an effect that may be in a version is of that version
version_of_effect : (version : Version) (e : Effect) → IsEffect version e → IsOfVersion version e
version_of_effect version (StoreConditional address value) h = h
version_of_effect version (LoadReserved address) h = tt
version_of_effect version (Modify address change) h = tt
version_of_effect version (Set value) h = tt
version_of_effect version (Load n signed address) h = tt
version_of_effect version (Store n address value) h = tt
version_of_effect version (Jump target) h = tt
version_of_effect version GuestCall h = tt
version_of_effect version Breakpoint h = tt

-- the effect of an instruction of a version's table is of that version
pub effect_of_version : (s : State) (version : Version) (word : ℕ) (i : Instr) → IsState s → version ≡ s.shape.version → Some i ≡ decode version word → IsOfVersion s.shape.version (effect_of (view_of s) i)
effect_of_version s version word i good same e =
    let known : IfInstruction version (Some i) = subst (IfInstruction version) (sym e) (decode-IsInstruction version word) in
    version_of_effect s.shape.version (effect_of (view_of s) i)
    (effect_of-IsEffect s.shape (view_of s) i (IsMachine-view_of s good) (subst (λ (v : Version). IsInstruction v i) same known))
