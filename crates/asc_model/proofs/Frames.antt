-- Two states that agree on the places that steps read first take these steps alike.
use Rattle.std.proofs.Common.{◌≡◌, ◌≢◌, ℕ, zero, suc, ◌+◌, ◌*◌, ◌^◌, ◌<◌, ◌≤◌, Bool, true, false, not, ◌&&◌, ◌||◌, ◌==◌, List, [], ◌∷◌, ◌++◌, map, length, slice_index, slice_set, Option, Some, None, if◌then◌else◌, refl, sym, ap, subst, ◌∙◌, inl, inr, arith}
use Rattle.std.specs.Prelude.{All}
use Rattle.std.specs.List.{list_any}
use Rattle.std.proofs.lemmas.Bool.{and_parts, cases_Bool, cases_eq, eqb-true, eq-eqb, false≢true, cond-true, cond-false}
use Rattle.std.proofs.lemmas.List.{get_or-set_same, get_or-set_other, get_or_append_left, get_or-append-add, length-append, length-set}
use Rattle.std.proofs.lemmas.List.Elements.{All-nil, All-cons, All-head, All-tail, All-append, All-filter}
use Rattle.asc_model.specs.declared.version.Version.{Version}
use Rattle.asc_model.specs.declared.version.Version.TheVariants.{One, Two}
use Rattle.asc_model.specs.declared.fault.FaultKind.{FaultKind}
use Rattle.asc_model.specs.declared.fault.FaultKind.TheVariants.{Misaligned, FetchOutside, Illegal, LoadOutside, StoreOutside, Break, AtomicMisaligned}
use Rattle.asc_model.specs.declared.instruction.Instr.{Instr}
use Rattle.asc_model.specs.Shape.{Shape, length_of, place_of, holds}
use Rattle.asc_model.specs.Number.{number_at, bytes_of, word_at}
use Rattle.asc_model.specs.State.{State, IsState}
use Rattle.asc_model.specs.Machine.{Machine, register, load, is_reserved, Change, Pc, Register, Memory, reserve, release, view_of}
use Rattle.asc_model.specs.Arithmetic.{◌+w◌, one_if}
use Rattle.asc_model.specs.Instruction.{decode, op_of, rd_of, rs1_of, rs2_of, imm_of}
use Rattle.asc_model.specs.Effect.{Effect, Set, Load, Store, Jump, LoadReserved, StoreConditional, Modify, GuestCall, Breakpoint, effect}
use Rattle.asc_model.specs.Step.{Outcome, Went, Call, Faulted, fault_outcome, is_aligned, loaded_word, effect_of, outcome_of, fetch, outcome_of_word, outcome, Next, next}
use Rattle.asc_model.specs.Places.{places_from, register_places, reservation_places, data_places, operand_places, places_read, cells_of_outcome, writes, places_written, bytes_after}
use Rattle.asc_model.specs.DependencyVector.{without, first_reads, written_in}
use Rattle.asc_model.specs.Laws.{KeepsOthers, AgreeOn, GoesAlike, StepsAlike, OneStepFrame, ManyStepsFrame}
use Rattle.asc_model.proofs.Numbers.{number_at-suc}
use Rattle.asc_model.proofs.Views.{view_of-reserved_One, view_of-reserved_Two, view_of-pc, view_of-register_suc, view_of-load}
use Rattle.asc_model.proofs.Steps.{IfInstruction, decode-IsInstruction, next-goes, next-calls, next-fails}
use Rattle.asc_model.proofs.Touches.{places_written-AllBelow}
use Rattle.asc_model.proofs.LawsHold.{step_writes_bytes, steps_keep_states}
use Rattle.asc_model.proofs.PlainSteps.{plain-zero, plain-none, plain-first, plain-suc_next}

-- ---- lists

All-append_left : (P : ℕ → Type 0) (xs ys : List ℕ) → All P (xs ++ ys) → All P xs
All-append_left P xs ys h k d lt = subst P (get_or_append_left xs ys d k lt) (h k d (omega (arith, length-append xs ys)))

All-append_right : (P : ℕ → Type 0) (xs ys : List ℕ) → All P (xs ++ ys) → All P ys
All-append_right P xs ys h k d lt = subst P (get_or-append-add xs ys k d) (h (length xs + k) d (omega (arith, length-append xs ys)))

-- what is left of two tests where the first one fails, and where none holds
or_second : (x y : Bool) → x ≡ false → x || y ≡ true → y ≡ true
or_second true y e h = absurd (cc)
or_second false y e h = h

or_neither : (x y : Bool) → x || y ≡ false → (x ≡ false) × (y ≡ false)
or_neither true y h = absurd (cc)
or_neither false y h = (refl, h)

-- one of the list has what all of it have
pub one_of_all : (P : ℕ → Type 0) (places : List ℕ) (place : ℕ) → list_any (λ other. other == place) places ≡ true → All P places → P place
one_of_all P [] place e h = absurd (cc)
one_of_all P (first ∷ places) place e h = elim (cases_Bool (first == place)) [
  | inl same ↦ subst P (eqb-true first place same) (All-head P first places h)
  | inr apart ↦ one_of_all P places place (or_second (first == place) (list_any (λ other. other == place) places) apart e) (All-tail P first places h)
]

-- two numbers are apart where the test says so
apart_by_test : (a b : ℕ) → (a == b) ≡ false → a ≢ b
apart_by_test a b e same = false≢true (sym e ∙ eq-eqb a b same)

-- none of the list is it
pub none_of_all : (places : List ℕ) (place : ℕ) → list_any (λ other. other == place) places ≡ false → All (λ other. other ≢ place) places
none_of_all [] place e = All-nil (λ other. other ≢ place)
none_of_all (first ∷ places) place e =
    let both = or_neither (first == place) (list_any (λ other. other == place) places) e in
    All-cons (λ other. other ≢ place) first places (apart_by_test first place both.0) (none_of_all places place both.1)

-- ---- what agreeing states have

-- the same byte at each of n places makes the same number
agree-number : (n : ℕ) (a b : List ℕ) (place : ℕ) → All (λ p. slice_index a p ≡ slice_index b p) (places_from place n) → number_at n a place ≡ number_at n b place
agree-number zero a b place h = refl
agree-number (suc n) a b place h =
    let same = λ (p : ℕ). slice_index a p ≡ slice_index b p in
    let first : slice_index a place ≡ slice_index b place = All-head same place (places_from (place + 1) n) h in
    let rest : number_at n a (place + 1) ≡ number_at n b (place + 1) = agree-number n a b (place + 1) (All-tail same place (places_from (place + 1) n) h) in
    number_at-suc n a place ∙ ap (λ x. x + 2 ^ 8 * number_at n a (place + 1)) first ∙ ap (λ x. slice_index b place + 2 ^ 8 * x) rest
    ∙ sym (number_at-suc n b place)

-- a step whose word can be fetched comes to what its word does
outcome-fetched : (shape : Shape) (m : Machine) → is_aligned m.pc ≡ true → holds shape m.pc 4 ≡ true → outcome shape m ≡ outcome_of_word shape m (decode shape.version (fetch shape m))
unfolding outcome
outcome-fetched shape m p q = rw (p, q) refl

places_read-fetched : (s : State) → is_aligned (view_of s).pc ≡ true → holds s.shape (view_of s).pc 4 ≡ true
    → places_read s ≡ places_from 0 4 ++ places_from (place_of s.shape (view_of s).pc) 4 ++ operand_places s.shape (view_of s) (decode s.shape.version (fetch s.shape (view_of s)))
unfolding places_read
places_read-fetched s p q = rw (p, q) refl

-- what a pc comes to at which no word can be fetched
abbrev unfetched_outcome : ℕ → Outcome
unfetched_outcome pc = Faulted (record { kind = if not (is_aligned pc) then Misaligned else FetchOutside; pc = pc; value = pc })

-- a step whose word cannot be fetched
unfetched : (x y : Bool) (m : Machine) (o : Outcome) → x && y ≡ false
    → (if not x then fault_outcome m Misaligned m.pc else (if not y then fault_outcome m FetchOutside m.pc else o))
    ≡ Faulted (record { kind = if not x then Misaligned else FetchOutside; pc = m.pc; value = m.pc })
unfetched true true m o e = absurd (cc)
unfetched true false m o e = refl
unfetched false y m o e = refl

outcome-unfetched : (shape : Shape) (m : Machine) → is_aligned m.pc && holds shape m.pc 4 ≡ false → outcome shape m ≡ unfetched_outcome m.pc
unfolding outcome
outcome-unfetched shape m e = unfetched (is_aligned m.pc) (holds shape m.pc 4) m (outcome_of_word shape m (decode shape.version (fetch shape m))) e

places_read-unfetched : (s : State) → is_aligned (view_of s).pc && holds s.shape (view_of s).pc 4 ≡ false → places_read s ≡ places_from 0 4
unfolding places_read
places_read-unfetched s e = cond-false _ _ (places_from 0 4) e

-- the state of a shape with these bytes
abbrev made : Shape → List ℕ → State
made shape bytes = record { shape = shape; bytes = bytes }

module _ (shape : Shape) (a b : List ℕ) where
  -- the two states, and what they agree on
  abbrev s : State
  s = made shape a

  abbrev t : State
  t = made shape b

  abbrev Agree : List ℕ → Type 0
  Agree places = All (λ p. slice_index a p ≡ slice_index b p) places

  agree-pc : Agree (places_from 0 4) → (view_of s).pc ≡ (view_of t).pc
  agree-pc h = view_of-pc s ∙ agree-number 4 a b 0 h ∙ sym (view_of-pc t)

  agree-register : (k : ℕ) → k ≤ 31 → Agree (register_places k) → register (view_of s) k ≡ register (view_of t) k
  agree-register zero most h = refl
  agree-register (suc k) most h = view_of-register_suc s k (omega arith) ∙ agree-number 4 a b (4 * suc k) h ∙ sym (view_of-register_suc t k (omega arith))

  agree-load : (n address : ℕ) → Agree (places_from (place_of shape address) n) → load shape (view_of s) n address ≡ load shape (view_of t) n address
  agree-load n address h = view_of-load s n address ∙ agree-number n a b (place_of shape address) h ∙ sym (view_of-load t n address)

  agree-reserved : (address : ℕ) → Agree reservation_places → is_reserved (view_of s) address ≡ is_reserved (view_of t) address
  agree-reserved address h = by_version shape.version refl
    where
      by_version : (v : Version) → shape.version ≡ v → is_reserved (view_of s) address ≡ is_reserved (view_of t) address
      by_version One e = view_of-reserved_One s address e ∙ sym (view_of-reserved_One t address e)
      by_version Two e =
          let valid : slice_index a 132 ≡ slice_index b 132 = h 4 0 (omega arith) in
          let number : word_at a 128 ≡ word_at b 128 = agree-number 4 a b 128 (All-append_left (λ p. slice_index a p ≡ slice_index b p) (places_from 128 4) (132 ∷ []) h) in
          view_of-reserved_Two s address e ∙ ap (λ x. (x == 1) && (word_at a 128 == address)) valid ∙ ap (λ x. (slice_index b 132 == 1) && (x == address)) number
          ∙ sym (view_of-reserved_Two t address e)

  -- the effect's data is the same in both
  abbrev DataAlike : Effect → Type 0
  DataAlike (Load n signed address) = holds shape address n ≡ true → load shape (view_of s) n address ≡ load shape (view_of t) n address
  DataAlike (LoadReserved address) = is_aligned address && holds shape address 4 ≡ true → load shape (view_of s) 4 address ≡ load shape (view_of t) 4 address
  DataAlike (Modify address change) = is_aligned address && holds shape address 4 ≡ true → load shape (view_of s) 4 address ≡ load shape (view_of t) 4 address
  DataAlike (StoreConditional address value) = is_aligned address && holds shape address 4 ≡ true → is_reserved (view_of s) address ≡ is_reserved (view_of t) address
  DataAlike (Set value) = Unit {0}
  DataAlike (Store n address value) = Unit {0}
  DataAlike (Jump target) = Unit {0}
  DataAlike GuestCall = Unit {0}
  DataAlike Breakpoint = Unit {0}

  -- where a test holds, what it asks for is there
  agree-if : (test : Bool) (places : List ℕ) → Agree (if test then places else []) → test ≡ true → Agree places
  agree-if true places h e = h
  agree-if false places h e = absurd (cc)

  agree-data : (e : Effect) → Agree (data_places shape e) → DataAlike e
  agree-data (Load n signed address) h = λ e. agree-load n address (agree-if (holds shape address n) (places_from (place_of shape address) n) h e)
  agree-data (LoadReserved address) h = λ e. agree-load 4 address (agree-if (is_aligned address && holds shape address 4) (places_from (place_of shape address) 4) h e)
  agree-data (Modify address change) h = λ e. agree-load 4 address (agree-if (is_aligned address && holds shape address 4) (places_from (place_of shape address) 4) h e)
  agree-data (StoreConditional address value) h = λ e. agree-reserved address (agree-if (is_aligned address && holds shape address 4) reservation_places h e)
  agree-data (Set value) h = tt
  agree-data (Store n address value) h = tt
  agree-data (Jump target) h = tt
  agree-data GuestCall h = tt
  agree-data Breakpoint h = tt

  -- ---- outcomes

  fault-alike : (view_of s).pc ≡ (view_of t).pc → (kind : FaultKind) (value : ℕ) → fault_outcome (view_of s) kind value ≡ fault_outcome (view_of t) kind value
  fault-alike p kind value = ap (λ x. Faulted (record { kind = kind; pc = x; value = value })) p

  if-alike : (test : Bool) (x y z w : Outcome) → (test ≡ true → x ≡ z) → y ≡ w → (if test then x else y) ≡ (if test then z else w)
  if-alike true x y z w p q = p refl
  if-alike false x y z w p q = q

  -- where both tests hold an atomic comes to the same
  atomic-alike : (x y : Bool) (f g h k : Outcome) (list other : Outcome) → f ≡ g → h ≡ k → (x && y ≡ true → list ≡ other)
      → (if not x then f else (if y then list else h)) ≡ (if not x then g else (if y then other else k))
  atomic-alike true true f g h k list other p q r = r refl
  atomic-alike true false f g h k list other p q r = q
  atomic-alike false y f g h k list other p q r = p

  outcome_of-alike : (rd : ℕ) (e : Effect) → (view_of s).pc ≡ (view_of t).pc → DataAlike e → outcome_of shape (view_of s) rd e ≡ outcome_of shape (view_of t) rd e
  outcome_of-alike rd (Set value) p h = ap (λ x. Went (Pc (x +w 4) ∷ Register rd value ∷ [])) p
  outcome_of-alike rd (Load n signed address) p h =
      if-alike (holds shape address n) _ _ _ _
      (λ e. ap (λ x. Went (Pc (x +w 4) ∷ Register rd (loaded_word n signed (load shape (view_of s) n address)) ∷ [])) p
      ∙ ap (λ x. Went (Pc ((view_of t).pc +w 4) ∷ Register rd (loaded_word n signed x) ∷ [])) (h e))
      (fault-alike p LoadOutside address)
  outcome_of-alike rd (Store n address value) p h =
      if-alike (holds shape address n) _ _ _ _ (λ e. ap (λ x. Went (Pc (x +w 4) ∷ Memory address (bytes_of n value) ∷ [])) p) (fault-alike p StoreOutside address)
  outcome_of-alike rd (Jump target) p h =
      if-alike (is_aligned target) _ _ _ _ (λ e. ap (λ x. Went (Pc target ∷ Register rd (x +w 4) ∷ [])) p) (fault-alike p Misaligned target)
  outcome_of-alike rd (LoadReserved address) p h =
      atomic-alike (is_aligned address) (holds shape address 4) _ _ _ _ _ _ (fault-alike p AtomicMisaligned address) (fault-alike p LoadOutside address)
      (λ e. ap (λ x. Went (Pc (x +w 4) ∷ Register rd (load shape (view_of s) 4 address) ∷ reserve address ∷ [])) p
      ∙ ap (λ x. Went (Pc ((view_of t).pc +w 4) ∷ Register rd x ∷ reserve address ∷ [])) (h e))
  outcome_of-alike rd (StoreConditional address value) p h =
      atomic-alike (is_aligned address) (holds shape address 4) _ _ _ _ _ _ (fault-alike p AtomicMisaligned address) (fault-alike p StoreOutside address)
      (λ e. ap (λ x. Went (Pc (x +w 4) ∷ Register rd (one_if (not (is_reserved (view_of s) address))) ∷ release
      ∷ (if is_reserved (view_of s) address then Memory address (bytes_of 4 value) ∷ [] else []))) p
      ∙ ap (λ (x : Bool). Went (Pc ((view_of t).pc +w 4) ∷ Register rd (one_if (not x)) ∷ release ∷ (if x then Memory address (bytes_of 4 value) ∷ [] else []))) (h e))
  outcome_of-alike rd (Modify address change) p h =
      atomic-alike (is_aligned address) (holds shape address 4) _ _ _ _ _ _ (fault-alike p AtomicMisaligned address) (fault-alike p StoreOutside address)
      (λ e. ap (λ x. Went (Pc (x +w 4) ∷ Register rd (load shape (view_of s) 4 address) ∷ Memory address (bytes_of 4 (change (load shape (view_of s) 4 address))) ∷ [])) p
      ∙ ap (λ x. Went (Pc ((view_of t).pc +w 4) ∷ Register rd x ∷ Memory address (bytes_of 4 (change x)) ∷ [])) (h e))
  outcome_of-alike rd GuestCall p h = refl
  outcome_of-alike rd Breakpoint p h = fault-alike p Break 0

  -- ---- instructions

  effect_of-alike : (i : Instr) → (view_of s).pc ≡ (view_of t).pc → register (view_of s) (rs1_of i) ≡ register (view_of t) (rs1_of i)
      → register (view_of s) (rs2_of i) ≡ register (view_of t) (rs2_of i) → effect_of (view_of s) i ≡ effect_of (view_of t) i
  effect_of-alike i p x y =
      ap (λ n. effect (op_of i) n (register (view_of s) (rs1_of i)) (register (view_of s) (rs2_of i)) (imm_of i)) p
      ∙ ap (λ n. effect (op_of i) (view_of t).pc n (register (view_of s) (rs2_of i)) (imm_of i)) x
      ∙ ap (λ n. effect (op_of i) (view_of t).pc (register (view_of t) (rs1_of i)) n (imm_of i)) y

  -- what an instruction reads and comes to is the same in both
  record WordAlike (i : Option Instr) : Type 0 where
    outcomes : outcome_of_word shape (view_of s) i ≡ outcome_of_word shape (view_of t) i
    places : operand_places shape (view_of s) i ≡ operand_places shape (view_of t) i

  word-alike : (i : Option Instr) → IfInstruction shape.version i → (view_of s).pc ≡ (view_of t).pc → fetch shape (view_of s) ≡ fetch shape (view_of t)
      → Agree (operand_places shape (view_of s) i) → WordAlike i
  word-alike None h p w agree = record {
    outcomes = ap (λ x. fault_outcome (view_of s) Illegal x) w ∙ fault-alike p Illegal (fetch shape (view_of t));
    places = refl;
  }
  word-alike (Some i) h p w agree =
      let same = λ (q : ℕ). slice_index a q ≡ slice_index b q in
      let first = register_places (rs1_of i) in
      let second = register_places (rs2_of i) in
      let loaded = data_places shape (effect_of (view_of s) i) in
      let registers = All-append_left same (first ++ second) loaded agree in
      let x = agree-register (rs1_of i) h.rs1 (All-append_left same first second registers) in
      let y = agree-register (rs2_of i) h.rs2 (All-append_right same first second registers) in
      let e = effect_of-alike i p x y in
      record {
        outcomes =
            outcome_of-alike (rd_of i) (effect_of (view_of s) i) p (agree-data (effect_of (view_of s) i) (All-append_right same (first ++ second) loaded agree))
            ∙ ap (outcome_of shape (view_of t) (rd_of i)) e;
        places = ap (λ (x : Effect). first ++ second ++ data_places shape x) e;
      }

  -- ---- steps

  -- what a step reads and comes to is the same in both
  record Alike : Type 0 where
    outcomes : outcome shape (view_of s) ≡ outcome shape (view_of t)
    places : places_read s ≡ places_read t

  -- the first places stand in front in either case
  agree-front : (test : Bool) (front code rest : List ℕ) → Agree (if test then front ++ code ++ rest else front) → Agree front
  agree-front true front code rest h =
      let same = λ (p : ℕ). slice_index a p ≡ slice_index b p in
      All-append_left same front code (All-append_left same (front ++ code) rest h)
  agree-front false front code rest h = h

  -- where the test holds all of them stand there
  agree-all : (test : Bool) (front all : List ℕ) → Agree (if test then all else front) → test ≡ true → Agree all
  agree-all true front all h e = h
  agree-all false front all h e = absurd (cc)

  alike-fetched : IfInstruction shape.version (decode shape.version (fetch shape (view_of s))) → (view_of s).pc ≡ (view_of t).pc
      → is_aligned (view_of s).pc ≡ true → holds shape (view_of s).pc 4 ≡ true
      → Agree (places_from 0 4 ++ places_from (place_of shape (view_of s).pc) 4 ++ operand_places shape (view_of s) (decode shape.version (fetch shape (view_of s))))
      → Alike
  alike-fetched h p aligned held agree =
      let same = λ (q : ℕ). slice_index a q ≡ slice_index b q in
      let i = decode shape.version (fetch shape (view_of s)) in
      let front = places_from 0 4 in
      let code = places_from (place_of shape (view_of s).pc) 4 in
      let operands = operand_places shape (view_of s) i in
      let codes = All-append_right same front code (All-append_left same (front ++ code) operands agree) in
      let w : fetch shape (view_of s) ≡ fetch shape (view_of t) =
      agree-load 4 (view_of s).pc codes ∙ ap (load shape (view_of t) 4) p in
      let word = word-alike i h p w (All-append_right same (front ++ code) operands agree) in
      let aligned' : is_aligned (view_of t).pc ≡ true = ap is_aligned (sym p) ∙ aligned in
      let held' : holds shape (view_of t).pc 4 ≡ true = ap (λ x. holds shape x 4) (sym p) ∙ held in
      record {
        outcomes =
            outcome-fetched shape (view_of s) aligned held ∙ word.outcomes
            ∙ ap (λ x. outcome_of_word shape (view_of t) (decode shape.version x)) w
            ∙ sym (outcome-fetched shape (view_of t) aligned' held');
        places =
            places_read-fetched s aligned held
            ∙ ap (λ (l : List ℕ). front ++ code ++ l) word.places
            ∙ ap (λ x. front ++ places_from (place_of shape x) 4 ++ operand_places shape (view_of t) i) p
            ∙ ap (λ x. front ++ places_from (place_of shape (view_of t).pc) 4 ++ operand_places shape (view_of t) (decode shape.version x)) w
            ∙ sym (places_read-fetched t aligned' held');
      }

  alike-unfetched : (view_of s).pc ≡ (view_of t).pc → is_aligned (view_of s).pc && holds shape (view_of s).pc 4 ≡ false → Alike
  alike-unfetched p failed =
      let failed' : is_aligned (view_of t).pc && holds shape (view_of t).pc 4 ≡ false = ap (λ x. is_aligned x && holds shape x 4) (sym p) ∙ failed in
      record {
        outcomes = outcome-unfetched shape (view_of s) failed ∙ ap unfetched_outcome p ∙ sym (outcome-unfetched shape (view_of t) failed');
        places = places_read-unfetched s failed ∙ sym (places_read-unfetched t failed');
      }

  alike : Agree (places_read s) → Alike
  unfolding places_read
  alike agree =
      let pc = (view_of s).pc in
      let test = is_aligned pc && holds shape pc 4 in
      let i = decode shape.version (fetch shape (view_of s)) in
      let front = places_from 0 4 in
      let code = places_from (place_of shape pc) 4 in
      let operands = operand_places shape (view_of s) i in
      let p = agree-pc (agree-front test front code operands agree) in
      elim (cases_Bool test) [
        | inl e ↦ let both = and_parts (is_aligned pc) (holds shape pc 4) e in
            alike-fetched (decode-IsInstruction shape.version (fetch shape (view_of s))) p both.0 both.1 (agree-all test front (front ++ code ++ operands) agree e)
        | inr e ↦ alike-unfetched p e
      ]

-- ---- bytes written

abbrev places_of : List (ℕ × ℕ) → List ℕ
places_of list = map (λ (cell : ℕ × ℕ). cell.0) list

-- a byte set at the same place of two lists that agree at a place
set-same : (a b : List ℕ) (i v place : ℕ) → i < length a → i < length b → slice_index a place ≡ slice_index b place → slice_index (slice_set a i v) place ≡ slice_index (slice_set b i v) place
set-same a b i v place p q h = elim (cases_eq place i) [
  | inl e ↦ ap (slice_index (slice_set a i v)) e ∙ get_or-set_same a i v 0 p ∙ sym (get_or-set_same b i v 0 q) ∙ ap (slice_index (slice_set b i v)) (sym e)
  | inr e ↦ get_or-set_other a i place v 0 e ∙ h ∙ sym (get_or-set_other b i place v 0 e)
]

-- writes keep agreement at a place
after-same : (n : ℕ) (a b : List ℕ) (list : List (ℕ × ℕ)) (place : ℕ) → length a ≡ n → length b ≡ n → All (λ p. p < n) (places_of list)
    → slice_index a place ≡ slice_index b place → slice_index (bytes_after a list) place ≡ slice_index (bytes_after b list) place
after-same n a b [] place p q below h = h
after-same n a b (cell ∷ list) place p q below h =
    let bound = λ (x : ℕ). x < n in
    let first : cell.0 < n = All-head bound cell.0 (places_of list) below in
    after-same n (slice_set a cell.0 cell.1) (slice_set b cell.0 cell.1) list place (length-set a cell.0 cell.1 ∙ p) (length-set b cell.0 cell.1 ∙ q)
    (All-tail bound cell.0 (places_of list) below) (set-same a b cell.0 cell.1 place (omega (arith, p)) (omega (arith, q)) h)

-- writes make agreement at the places written
after-written : (n : ℕ) (a b : List ℕ) (list : List (ℕ × ℕ)) → length a ≡ n → length b ≡ n → All (λ p. p < n) (places_of list)
    → All (λ p. slice_index (bytes_after a list) p ≡ slice_index (bytes_after b list) p) (places_of list)
after-written n a b [] p q below = All-nil (λ x. slice_index a x ≡ slice_index b x)
after-written n a b (cell ∷ list) p q below =
    let bound = λ (x : ℕ). x < n in
    let x = slice_set a cell.0 cell.1 in
    let y = slice_set b cell.0 cell.1 in
    let first : cell.0 < n = All-head bound cell.0 (places_of list) below in
    let rest = All-tail bound cell.0 (places_of list) below in
    let here : slice_index x cell.0 ≡ slice_index y cell.0 =
    get_or-set_same a cell.0 cell.1 0 (omega (arith, p)) ∙ sym (get_or-set_same b cell.0 cell.1 0 (omega (arith, q))) in
    All-cons (λ place. slice_index (bytes_after x list) place ≡ slice_index (bytes_after y list) place) cell.0 (places_of list)
    (after-same n x y list cell.0 (length-set a cell.0 cell.1 ∙ p) (length-set b cell.0 cell.1 ∙ q) rest here)
    (after-written n x y list (length-set a cell.0 cell.1 ∙ p) (length-set b cell.0 cell.1 ∙ q) rest)

-- ---- one step

module _ (shape : Shape) (a b : List ℕ) (good : IsState (made shape a)) (good' : IsState (made shape b)) (agree : AgreeOn (places_read (made shape a)) (made shape a) (made shape b)) where
  -- the two states
  abbrev from : State
  from = made shape a

  abbrev other : State
  other = made shape b

  both_alike : Alike shape a b
  both_alike = alike shape a b agree

  writes-alike : writes other ≡ writes from
  unfolding writes
  writes-alike = ap (cells_of_outcome shape) (sym both_alike.outcomes)

  goes_on : (list : List Change) → outcome shape (view_of from) ≡ Went list → (after : State) → next from ≡ Went after
      → (end : State) × (next other ≡ Went end) × GoesAlike (places_written from) from after other end
  goes_on list e after h =
      let there : next from ≡ Went (made shape (bytes_after a (writes from))) = next-goes from list good e in
      let same : made shape (bytes_after a (writes from)) ≡ after = cc in
      let end = made shape (bytes_after b (writes from)) in
      let reached : next other ≡ Went end = next-goes other list good' (sym both_alike.outcomes ∙ e) ∙ ap (λ (list : List (ℕ × ℕ)). Went (made shape (bytes_after b list))) writes-alike in
      let n = length_of shape in
      let written = after-written n a b (writes from) good.length good'.length (places_written-AllBelow from good) in (
        end,
        reached,
        record {
          agree = subst (λ (x : State). AgreeOn (places_written from) x end) same written;
          kept = (step_writes_bytes from good).others after h;
          other_kept = subst (λ (list : List (ℕ × ℕ)). KeepsOthers (places_of list) other end) writes-alike ((step_writes_bytes other good').others end reached);
        },
      )

  steps-alike : (o : Outcome) → outcome shape (view_of from) ≡ o → StepsAlike from other
  steps-alike (Went list) e =
      let n = next-goes from list good e in
      record {
        read = sym both_alike.places;
        writes = writes-alike;
        goes = goes_on list e;
        calls = λ h. absurd (cc);
        fails = λ fault h. absurd (cc);
      }
  steps-alike Call e =
      let n = next-calls from e in
      record {
        read = sym both_alike.places;
        writes = writes-alike;
        goes = λ after h. absurd (cc);
        calls = λ h. next-calls other (sym both_alike.outcomes ∙ e);
        fails = λ fault h. absurd (cc);
      }
  steps-alike (Faulted fault) e =
      let n = next-fails from fault e in
      record {
        read = sym both_alike.places;
        writes = writes-alike;
        goes = λ after h. absurd (cc);
        calls = λ h. absurd (cc);
        fails = λ kind h. next-fails other fault (sym both_alike.outcomes ∙ e) ∙ sym n ∙ h;
      }

-- states of one shape, as made of it
same_shape : (s t : State) → t.shape ≡ s.shape → made s.shape t.bytes ≡ t
same_shape s t e = λ i. record { shape = sym e i; bytes = t.bytes }

pub one_step_frame : OneStepFrame
one_step_frame s t good good' e agree =
    let same = same_shape s t e in
    subst (StepsAlike s) same
    (steps-alike s.shape s.bytes t.bytes good (subst IsState (sym same) good') agree (outcome s.shape (view_of s)) refl)

-- ---- many steps

pub first_reads-suc : (n : ℕ) (s first : State) → next s ≡ Went first → first_reads (suc n) s ≡ places_read s ++ without (places_written s) (first_reads n first)
unfolding first_reads
first_reads-suc n s first e = ap (λ (x : Next). elim x [
  | Went after ↦ places_read s ++ without (places_written s) (first_reads n after)
  | Call ↦ []
  | Faulted fault ↦ []
]) e

pub written_in-suc : (n : ℕ) (s first : State) → next s ≡ Went first → written_in (suc n) s ≡ places_written s ++ written_in n first
unfolding written_in
written_in-suc n s first e = ap (λ (x : Next). elim x [
  | Went after ↦ places_written s ++ written_in n after
  | Call ↦ []
  | Faulted fault ↦ []
]) e

-- places at which two states agree, but for those that were written, agree after steps that go alike
agree_after : (written : List ℕ) (s after t other : State) → GoesAlike written s after t other → (places : List ℕ)
    → AgreeOn (without written places) s t → AgreeOn places after other
agree_after written s after t other h [] agree = All-nil (λ p. slice_index after.bytes p ≡ slice_index other.bytes p)
agree_after written s after t other h (place ∷ places) agree =
    let same = λ (p : ℕ). slice_index s.bytes p ≡ slice_index t.bytes p in
    let then_same = λ (p : ℕ). slice_index after.bytes p ≡ slice_index other.bytes p in
    let listed = list_any (λ x. x == place) written in
    let rest = without written places in
    elim (cases_Bool listed) [
      | inl e ↦ let fewer : without written (place ∷ places) ≡ rest = cond-false (not listed) (place ∷ rest) rest (ap not e) in
          All-cons then_same place places (one_of_all then_same written place e h.agree)
          (agree_after written s after t other h places (subst (All same) fewer agree))
      | inr e ↦ let kept : without written (place ∷ places) ≡ place ∷ rest = cond-true (not listed) (place ∷ rest) rest (ap not e) in
          let all = subst (All same) kept agree in
          let apart = none_of_all written place e in
          All-cons then_same place places (h.kept place apart ∙ All-head same place rest all ∙ sym (h.other_kept place apart))
          (agree_after written s after t other h places (All-tail same place rest all))
    ]

-- a place kept by steps and by others after them
keeps_both : (first second : List ℕ) (s between after : State) → KeepsOthers first s between → KeepsOthers second between after → KeepsOthers (first ++ second) s after
keeps_both first second s between after p q place apart =
    let other = λ (x : ℕ). x ≢ place in
    q place (All-append_right other first second apart) ∙ p place (All-append_left other first second apart)

-- steps that go alike, and then others
goes_both : (first second : List ℕ) (s between after t between' other : State) → GoesAlike first s between t between' → GoesAlike second between after between' other
    → GoesAlike (first ++ second) s after t other
goes_both first second s between after t between' other p q = record {
  agree =
      All-append (λ x. slice_index after.bytes x ≡ slice_index other.bytes x) first second
      (agree_after second between after between' other q first (All-filter (λ place. not (list_any (λ x. x == place) second)) (λ x. slice_index between.bytes x ≡ slice_index between'.bytes x) first p.agree))
      q.agree;
  kept = keeps_both first second s between after p.kept q.kept;
  other_kept = keeps_both first second t between' other p.other_kept q.other_kept;
}

pub many_steps_frame : ManyStepsFrame
unfolding first_reads written_in
many_steps_frame zero s after t good good' e h agree =
    let same = plain-none s after h in
    record {
      other = t;
      goes = plain-zero t;
      alike = record {
        agree = All-nil (λ p. slice_index after.bytes p ≡ slice_index t.bytes p);
        kept = λ place apart. ap (λ (x : State). slice_index x.bytes place) (sym same);
        other_kept = λ place apart. refl;
      };
      read = refl;
      written = refl;
    }
many_steps_frame (suc n) s after t good good' e h agree =
    let same = λ (p : ℕ). slice_index s.bytes p ≡ slice_index t.bytes p in
    let first = plain-first n s after h in
    let reads : first_reads (suc n) s ≡ places_read s ++ without (places_written s) (first_reads n first.0) = first_reads-suc n s first.0 first.1 in
    let all = subst (All same) reads agree in
    let later = without (places_written s) (first_reads n first.0) in
    let step = one_step_frame s t good good' e (All-append_left same (places_read s) later all) in
    let went = step.goes first.0 first.1 in
    let kept = steps_keep_states s first.0 good first.1 in
    let kept' = steps_keep_states t went.0 good' went.1 in
    let agreed = agree_after (places_written s) s first.0 t went.0 went.2 (first_reads n first.0) (All-append_right same (places_read s) later all) in
    let rest = many_steps_frame n first.0 after went.0 kept.0 kept'.0 (kept'.1 ∙ e ∙ sym kept.1) first.2 agreed in
    let places : places_written t ≡ places_written s = ap places_of step.writes in
    record {
      other = rest.other;
      goes = plain-suc_next n t (Went went.0) went.1 ∙ rest.goes;
      alike = subst (λ (list : List ℕ). GoesAlike list s after t rest.other) (sym (written_in-suc n s first.0 first.1))
          (goes_both (places_written s) (written_in n first.0) s first.0 after t went.0 rest.other went.2 rest.alike);
      read =
          first_reads-suc n t went.0 went.1 ∙ ap (λ (l : List ℕ). l ++ without (places_written t) (first_reads n went.0)) step.read
          ∙ ap (λ (l : List ℕ). places_read s ++ without l (first_reads n went.0)) places ∙ ap (λ (l : List ℕ). places_read s ++ without (places_written s) l) rest.read ∙ sym reads;
      written =
          written_in-suc n t went.0 went.1 ∙ ap (λ (l : List ℕ). l ++ written_in n went.0) places ∙ ap (λ (l : List ℕ). places_written s ++ l) rest.written
          ∙ sym (written_in-suc n s first.0 first.1);
    }
