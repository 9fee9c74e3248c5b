-- A step that goes on reads its source registers and writes the pc and its destination. So the word that it carried out is
-- settled then, where its bytes were only read.
use Rattle.std.proofs.Common.{◌≡◌, ℕ, zero, suc, ◌+◌, ◌%◌, ◌≤◌, Bool, true, not, List, [], ◌∷◌, ◌++◌, length, map, Option, Some, None, if◌then◌else◌, refl, sym, ap, subst, ◌∙◌, arith}
use Rattle.std.specs.List.{flat_map}
use Rattle.std.proofs.lemmas.Bool.{eqb-true}
use Rattle.std.proofs.lemmas.List.{map-append}
use Rattle.asc_model.specs.declared.fault.Fault.{Fault}
use Rattle.asc_model.specs.declared.fault.FaultKind.{FaultKind}
use Rattle.asc_model.specs.declared.fault.FaultKind.TheVariants.{Misaligned, LoadOutside, StoreOutside, AtomicMisaligned}
use Rattle.asc_model.specs.declared.version.Version.{Version}
use Rattle.asc_model.specs.declared.version.Version.TheVariants.{One, Two}
use Rattle.asc_model.specs.declared.instruction.Instr.{Instr}
use Rattle.asc_model.specs.Shape.{Shape, IsShape, length_of, place_of, holds, start_of}
use Rattle.asc_model.specs.Number.{bytes_of, word_at}
use Rattle.asc_model.specs.State.{State, IsState}
use Rattle.asc_model.specs.Machine.{Machine, Change, Pc, Register, Memory, reserve, release, load, is_reserved, view_of}
use Rattle.asc_model.specs.Arithmetic.{◌+w◌, signed, one_if}
use Rattle.asc_model.specs.Effect.{Effect, Set, Load, Store, Jump, LoadReserved, StoreConditional, Modify, GuestCall, Breakpoint}
use Rattle.asc_model.specs.Instruction.{decode, rd_of, rs1_of, rs2_of}
use Rattle.asc_model.specs.Step.{Outcome, Went, Call, Faulted, fault_outcome, is_aligned, atomic_outcome, loaded_word, effect_of, outcome_of, outcome_of_word, fetch, outcome}
use Rattle.asc_model.specs.Places.{places_from, register_places, data_places, operand_places, places_read, cells_of, cells_of_outcome, writes}
use Rattle.asc_model.proofs.Changes.{holds-parts}
use Rattle.asc_model.proofs.Numbers.{length-bytes_after}
use Rattle.asc_model.proofs.Registers.{StoresNone, decoded-StoresNone}
use Rattle.asc_model.proofs.Steps.{by_branch}
use Rattle.asc_model.proofs.Touches.{state-TouchesPlaces}
use Rattle.asc_model.proofs.Views.{view_of-fetch, view_of-pc}
use Rattle.asc_shape.specs.Face.{Face, Marks, FitPlaces, face_after_reads, face_after_puts, untouched_count}
use Rattle.asc_shape.specs.Settled.{AreSettled, IsReadWord, IsSettled, unwritten_count}
use Rattle.asc_shape.proofs.Faces.{state-puts, state-reads, untouched_count-append}
use Rattle.asc_shape.proofs.Settled.{HaveStatuses, have_statuses, reads_touched, settled-reads, statuses-reads, touched-reads, untouched_count-puts-le, untouched_count-reads-le, unwritten_count-append, unwritten_count-nil, unwritten_count-puts-le, unwritten_count-reads-le, word_before_puts, written-puts, written_touched}
use Rattle.asc_step.specs.declared.stepped.Stepped.{Stepped}
use Rattle.asc_step.specs.declared.stepped.Stepped.TheVariants as answers
use Rattle.asc_step.specs.Step.{Attempts, face_after}
use Rattle.asc_step.specs.Execute.{Puts, PutsSettled, RunsSettled, answer_of}
use Rattle.asc_step.proofs.Steps.{fetch_fault, fetched_tests, outcome-fetched, outcome-unfetched, places_read-fetched, stepped_of-next}

-- ---- what an outcome writes

-- where all that it writes is written, the pc and the destination are
abbrev WritesBoth : Shape → ℕ → Outcome → Type 0
WritesBoth shape rd (Went list) = (marks : Marks) → unwritten_count marks (map (λ cell. cell.0) (flat_map (cells_of shape) list)) ≡ 0
    → (unwritten_count marks (places_from 0 4) ≡ 0) × (unwritten_count marks (register_places rd) ≡ 0)
WritesBoth shape rd Call = Unit {0}
WritesBoth shape rd (Faulted fault) = Unit {0}

unwritten-map : (marks : Marks) (a b : List (ℕ × ℕ)) → unwritten_count marks (map (λ cell. cell.0) (a ++ b)) ≡ unwritten_count marks (map (λ cell. cell.0) a) + unwritten_count marks (map (λ cell. cell.0) b)
unwritten-map marks a b = ap (unwritten_count marks) (map-append (λ (cell : ℕ × ℕ). cell.0) a b) ∙ unwritten_count-append marks (map (λ cell. cell.0) a) (map (λ cell. cell.0) b)

unwritten_register : (marks : Marks) (shape : Shape) (rd value : ℕ) → unwritten_count marks (map (λ cell. cell.0) (cells_of shape (Register rd value))) ≡ unwritten_count marks (register_places rd)
unwritten_register marks shape zero value = refl
unwritten_register marks shape (suc k) value = refl

sets-both : (shape : Shape) (pc rd value : ℕ) (list : List Change) → WritesBoth shape rd (Went (Pc pc ∷ Register rd value ∷ list))
sets-both shape pc rd value list marks none =
    let first = cells_of shape (Pc pc) in
    let second = cells_of shape (Register rd value) in
    let rest = flat_map (cells_of shape) list in
    let parts = unwritten-map marks first (second ++ rest) in
    let more = unwritten-map marks second rest in
    let same = unwritten_register marks shape rd value in
    let pcs : unwritten_count marks (map (λ cell. cell.0) first) ≡ unwritten_count marks (places_from 0 4) = refl in
    (omega (arith, none, parts, pcs), omega (arith, none, parts, more, same))

stores-both : (shape : Shape) (pc rd : ℕ) (list : List Change) → rd ≡ 0 → WritesBoth shape rd (Went (Pc pc ∷ list))
stores-both shape pc rd list e marks none =
    let first = cells_of shape (Pc pc) in
    let parts = unwritten-map marks first (flat_map (cells_of shape) list) in
    let pcs : unwritten_count marks (map (λ cell. cell.0) first) ≡ unwritten_count marks (places_from 0 4) = refl in
    (omega (arith, none, parts, pcs), ap (λ k. unwritten_count marks (register_places k)) e ∙ unwritten_none marks)
  where
    unwritten_none : (marks : Marks) → unwritten_count marks [] ≡ 0
    unwritten_none marks = unwritten_count-nil marks

atomic-both : (shape : Shape) (m : Machine) (rd : ℕ) (outside : FaultKind) (address : ℕ) (list : List Change) → WritesBoth shape rd (Went list) → WritesBoth shape rd (atomic_outcome shape m outside address list)
atomic-both shape m rd outside address list h =
    by_branch (WritesBoth shape rd) (not (is_aligned address)) (fault_outcome m AtomicMisaligned address) (if holds shape address 4 then Went list else fault_outcome m outside address) (λ e. tt)
    (λ e. by_branch (WritesBoth shape rd) (holds shape address 4) (Went list) (fault_outcome m outside address) (λ e. h) (λ e. tt))

outcome_of-both : (shape : Shape) (m : Machine) (rd : ℕ) (e : Effect) → StoresNone e rd → WritesBoth shape rd (outcome_of shape m rd e)
outcome_of-both shape m rd (Set value) h = sets-both shape (m.pc +w 4) rd value []
outcome_of-both shape m rd (Load n signed address) h =
    by_branch (WritesBoth shape rd) (holds shape address n) (Went (Pc (m.pc +w 4) ∷ Register rd (loaded_word n signed (load shape m n address)) ∷ [])) (fault_outcome m LoadOutside address)
    (λ e. sets-both shape (m.pc +w 4) rd (loaded_word n signed (load shape m n address)) []) (λ e. tt)
outcome_of-both shape m rd (Store n address value) h =
    by_branch (WritesBoth shape rd) (holds shape address n) (Went (Pc (m.pc +w 4) ∷ Memory address (bytes_of n value) ∷ [])) (fault_outcome m StoreOutside address)
    (λ e. stores-both shape (m.pc +w 4) rd (Memory address (bytes_of n value) ∷ []) h) (λ e. tt)
outcome_of-both shape m rd (Jump target) h =
    by_branch (WritesBoth shape rd) (is_aligned target) (Went (Pc target ∷ Register rd (m.pc +w 4) ∷ [])) (fault_outcome m Misaligned target)
    (λ e. sets-both shape target rd (m.pc +w 4) []) (λ e. tt)
outcome_of-both shape m rd (LoadReserved address) h =
    atomic-both shape m rd LoadOutside address (Pc (m.pc +w 4) ∷ Register rd (load shape m 4 address) ∷ reserve address ∷ [])
    (sets-both shape (m.pc +w 4) rd (load shape m 4 address) (reserve address ∷ []))
outcome_of-both shape m rd (StoreConditional address value) h =
    let reserved = is_reserved m address in
    let rest = release ∷ (if reserved then Memory address (bytes_of 4 value) ∷ [] else []) in
    atomic-both shape m rd StoreOutside address (Pc (m.pc +w 4) ∷ Register rd (one_if (not reserved)) ∷ rest) (sets-both shape (m.pc +w 4) rd (one_if (not reserved)) rest)
outcome_of-both shape m rd (Modify address change) h =
    let old = load shape m 4 address in
    atomic-both shape m rd StoreOutside address (Pc (m.pc +w 4) ∷ Register rd old ∷ Memory address (bytes_of 4 (change old)) ∷ [])
    (sets-both shape (m.pc +w 4) rd old (Memory address (bytes_of 4 (change old)) ∷ []))
outcome_of-both shape m rd GuestCall h = tt
outcome_of-both shape m rd Breakpoint h = tt

-- of a decoded word
decoded-both : (shape : Shape) (m : Machine) (version : Version) (word : ℕ) (i : Instr) → decode version word ≡ Some i → WritesBoth shape (rd_of i) (outcome_of shape m (rd_of i) (effect_of m i))
decoded-both shape m version word i e =
    outcome_of-both shape m (rd_of i) (effect_of m i) (decoded-StoresNone m version word i e)

went≢ : (fault : Fault) → answers.Faulted fault ≡ answers.Went → ⊥
went≢ fault e = absurd (cc)

called≢ : answers.Call ≡ answers.Went → ⊥
called≢ e = absurd (cc)

went-both : (shape : Shape) (rd : ℕ) (o : Outcome) (marks : Marks) → answer_of o ≡ answers.Went → WritesBoth shape rd o → unwritten_count marks (map (λ cell. cell.0) (cells_of_outcome shape o)) ≡ 0
    → (unwritten_count marks (places_from 0 4) ≡ 0) × (unwritten_count marks (register_places rd) ≡ 0)
went-both shape rd (Went list) marks e h none = h marks none
went-both shape rd Call marks e h none = absurd (called≢ e)
went-both shape rd (Faulted fault) marks e h none = absurd (went≢ fault e)

-- ---- a step that goes on

-- its word was fetched
pub went-fetched : (s : State) → answer_of (outcome s.shape (view_of s)) ≡ answers.Went → fetch_fault s.shape (view_of s).pc ≡ None
went-fetched s went = by_fault (fetch_fault s.shape (view_of s).pc) refl
  where
    by_fault : (k : Option FaultKind) → fetch_fault s.shape (view_of s).pc ≡ k → fetch_fault s.shape (view_of s).pc ≡ None
    by_fault None e = e
    by_fault (Some kind) e = absurd (went≢ _ (sym (ap answer_of (outcome-unfetched s.shape (view_of s) kind e)) ∙ went))

-- and is an instruction
went-decoded : (shape : Shape) (m : Machine) (i : Option Instr) → answer_of (outcome_of_word shape m i) ≡ answers.Went → (found : Instr) × (i ≡ Some found)
went-decoded shape m None went = absurd (went≢ _ went)
went-decoded shape m (Some i) went = (i, refl)

-- the parts of a list of which none is untouched
record NoneOf (marks : Marks) (a b c d : List ℕ) : Type 0 where
  first : untouched_count marks a ≡ 0
  second : untouched_count marks b ≡ 0
  third : untouched_count marks c ≡ 0
  fourth : untouched_count marks d ≡ 0

none_of : (marks : Marks) (a b c d e : List ℕ) → untouched_count marks (a ++ b ++ (c ++ d ++ e)) ≡ 0 → NoneOf marks a b c d
none_of marks a b c d e none =
    let one = untouched_count-append marks (a ++ b) (c ++ d ++ e) in
    let two = untouched_count-append marks a b in
    let three = untouched_count-append marks (c ++ d) e in
    let four = untouched_count-append marks c d in
    record { first = omega (arith, none, one, two); second = omega (arith, none, one, two); third = omega (arith, none, one, three, four); fourth = omega (arith, none, one, three, four) }

abbrev IfSettled : Marks → Option Instr → Type 0
IfSettled marks None = Unit {0}
IfSettled marks (Some i) = AreSettled marks i

-- its word is settled, where it is only read
pub settled_after : (f g : Face) → IsState f.state → FitPlaces (length f.state.bytes) f.marks → g ≡ face_after f → answer_of (outcome f.state.shape (view_of f.state)) ≡ answers.Went
    → IsReadWord g.marks (place_of f.state.shape (view_of f.state).pc) → IsSettled g (place_of f.state.shape (view_of f.state).pc)
unfolding writes
settled_after f g good fit is went read =
    let s = f.state in
    let m = view_of s in
    let place = place_of s.shape m.pc in
    let n = length s.bytes in
    let clear = went-fetched s went in
    let run = outcome-fetched s.shape m clear in
    let found = went-decoded s.shape m (decode s.shape.version (fetch s.shape m)) (sym (ap answer_of run) ∙ went) in
    let i = found.0 in
    let touches = state-TouchesPlaces s good in
    let have = have_statuses n f.marks fit in
    let fr = face_after_reads f (places_read s) in
    let there : places_read s ≡ places_from 0 4 ++ places_from place 4 ++ (register_places (rs1_of i) ++ register_places (rs2_of i) ++ data_places s.shape (effect_of m i)) =
    places_read-fetched s clear ∙ ap (λ (x : Option Instr). places_from 0 4 ++ places_from place 4 ++ operand_places s.shape m x) found.1 in
    let after = face_after_puts fr (writes s) in
    let none : untouched_count after.marks (places_read s) ≡ 0 =
    omega (arith, untouched_count-puts-le fr (writes s) (places_read s), touched-reads n f (places_read s) have touches.read) in
    let parts = none_of after.marks (places_from 0 4) (places_from place 4) (register_places (rs1_of i)) (register_places (rs2_of i)) (data_places s.shape (effect_of m i))
    (ap (untouched_count after.marks) (sym there) ∙ none) in
    let written : unwritten_count after.marks (map (λ cell. cell.0) (writes s)) ≡ 0 = written-puts n fr (writes s) (statuses-reads n f (places_read s) have) touches.written in
    let o = outcome_of_word s.shape m (Some i) in
    let whole : outcome s.shape m ≡ o = run ∙ ap (outcome_of_word s.shape m) found.1 in
    let both = went-both s.shape (rd_of i) o after.marks (sym (ap answer_of whole) ∙ went) (decoded-both s.shape m s.shape.version (fetch s.shape m) i found.1)
    (ap (λ (x : Outcome). unwritten_count after.marks (map (λ cell. cell.0) (cells_of_outcome s.shape x))) (sym whole) ∙ written) in
    let ours : AreSettled after.marks i = record { first = parts.third; second = parts.fourth; destination = both.1 } in
    let reads : fr.state ≡ s = state-reads f (places_read s) in
    let word : word_at after.state.bytes place ≡ fetch s.shape m =
    word_before_puts fr (writes s) place (subst (λ (x : State). HaveStatuses (length x.bytes) fr.marks) (sym reads) (statuses-reads n f (places_read s) have))
    (subst (λ (face : Face). IsReadWord face.marks place) is read)
    ∙ ap (λ (x : State). word_at x.bytes place) reads ∙ ap (λ k. word_at s.bytes (place_of s.shape k)) (view_of-pc s) ∙ sym (view_of-fetch s) in
    let shape : after.state.shape ≡ s.shape = ap (λ (x : State). x.shape) (state-puts fr (writes s)) ∙ ap (λ (x : State). x.shape) reads in
    let here : IsSettled after place = record {
      pc = both.0;
      word = parts.second;
      registers = λ other e. subst (IfSettled after.marks)
          (sym found.1 ∙ ap (decode s.shape.version) (sym word) ∙ ap (λ (x : Shape). decode x.version (word_at after.state.bytes place)) (sym shape) ∙ e) ours;
    } in
    subst (λ (face : Face). IsSettled face place) (sym is) here

-- ---- the places of the word

-- an aligned pc in memory leads to an aligned place
start_aligned : (version : Version) → start_of version % 4 ≡ 0
start_aligned One = omega arith
start_aligned Two = omega arith

-- ---- settled forms, passed on

pub puts_settled-reads : (settled : Bool) (f g : Face) (rd : ℕ) (places : List ℕ) → g ≡ face_after_reads f places → PutsSettled settled f.marks rd → PutsSettled settled g.marks rd
puts_settled-reads settled f g rd places is h told =
    let before = h told in
    let less : (list : List ℕ) → unwritten_count g.marks list ≤ unwritten_count f.marks list = λ list. rw is (unwritten_count-reads-le f places list) in
    (omega (arith, less (places_from 0 4), before.0), omega (arith, less (register_places rd), before.1))

pub puts_settled-puts : (settled : Bool) (f g : Face) (rd : ℕ) (list : List Change) → Puts f g list → PutsSettled settled f.marks rd → PutsSettled settled g.marks rd
puts_settled-puts settled f g rd list is h told =
    let before = h told in
    let cells = flat_map (cells_of f.state.shape) list in
    let less : (places : List ℕ) → unwritten_count g.marks places ≤ unwritten_count f.marks places = λ places. rw is (unwritten_count-puts-le f cells places) in
    (omega (arith, less (places_from 0 4), before.0), omega (arith, less (register_places rd), before.1))

-- what is still to be read, and to be put, by an instruction whose first source was read
pub runs_second : (settled : Bool) (f f1 : Face) (i : Instr) (rs1 rs2 : ℕ) → f1 ≡ face_after_reads f (register_places rs1) → rs2 ≡ rs2_of i → RunsSettled settled f.marks i
    → settled ≡ true → untouched_count f1.marks (register_places rs2) ≡ 0
runs_second settled f f1 i rs1 rs2 is second h told =
    let before = (h told).1.second in
    let less : untouched_count f1.marks (register_places rs2) ≤ untouched_count f.marks (register_places rs2) = rw is (untouched_count-reads-le f (register_places rs1) (register_places rs2)) in
    omega (arith, less, ap (λ k. untouched_count f.marks (register_places k)) second, before)

pub runs_puts : (settled : Bool) (f f1 f2 : Face) (i : Instr) (rd : ℕ) (a b : List ℕ) → f1 ≡ face_after_reads f a → f2 ≡ face_after_reads f1 b → rd ≡ rd_of i → RunsSettled settled f.marks i
    → PutsSettled settled f2.marks rd
runs_puts settled f f1 f2 i rd a b e1 e2 destination h =
    puts_settled-reads settled f1 f2 rd b e2
    (puts_settled-reads settled f f1 rd a e1
    (λ told. ((h told).0, ap (λ k. unwritten_count f.marks (register_places k)) destination ∙ (h told).1.destination)))

-- the registers of a settled word's instruction are settled, once it is fetched
pub runs_fetched : (f f2 : Face) (shape : Shape) (place word : ℕ) (i : Instr) → shape ≡ f.state.shape → IsSettled f place → word ≡ word_at f.state.bytes place
    → f2 ≡ face_after_reads f (places_from place 4) → Some i ≡ decode shape.version word → RunsSettled true f2.marks i
runs_fetched f f2 shape place word i same settled read e2 decoded told =
    let later : IsSettled f2 place = subst (λ (face : Face). IsSettled face place) (sym e2) (settled-reads f (places_from place 4) place settled) in
    let state : f2.state ≡ f.state = ap (λ (face : Face). face.state) e2 ∙ state-reads f (places_from place 4) in (
      later.pc,
      later.registers i (ap (λ (s : State). decode s.shape.version (word_at s.bytes place)) state ∙ ap (λ (x : Shape). decode x.version (word_at f.state.bytes place)) (sym same)
          ∙ ap (decode shape.version) (sym read) ∙ sym decoded),
    )

-- the pc of a settled word is read by no touch
pub settled_pc : (f : Face) (place : ℕ) → IsSettled f place → f ≡ face_after_reads f (places_from 0 4)
settled_pc f place settled = sym (reads_touched f (places_from 0 4) (written_touched f.marks (places_from 0 4) settled.pc))

-- ---- what is known after a step that went on

went_outcome : (f g : Face) (answer : Stepped) → Attempts f g answer → answer ≡ answers.Went → answer_of (outcome f.state.shape (view_of f.state)) ≡ answers.Went
went_outcome f g answer did went = sym (stepped_of-next f.state) ∙ sym did.answer ∙ went

-- where its word stands
pub record IsWentFrom (f g : Face) (shape : Shape) (pc : ℕ) : Type 0 where
  pub least : shape.base ≤ pc
  pub most : pc ≤ shape.base + shape.size
  pub within : place_of shape pc + 4 ≤ length g.state.bytes
  pub aligned : place_of shape pc % 4 ≡ 0

pub went_from : (f g : Face) (shape : Shape) (pc : ℕ) (answer : Stepped) → IsState f.state → shape ≡ f.state.shape → pc ≡ word_at f.state.bytes 0 → Attempts f g answer → answer ≡ answers.Went
    → IsWentFrom f g shape pc
went_from f g shape pc answer good same at did went =
    let s = f.state in
    let is_pc : pc ≡ (view_of s).pc = at ∙ sym (view_of-pc s) in
    let tests = fetched_tests shape pc (ap (λ (x : Shape). fetch_fault x pc) same ∙ ap (fetch_fault s.shape) is_pc ∙ went-fetched s (went_outcome f g answer did went)) in
    let held = holds-parts shape pc 4 tests.1 in
    let four : pc % 4 ≡ 0 = eqb-true (pc % 4) 0 tests.0 in
    let is_shape : IsShape shape = subst IsShape (sym same) good.shape in
    let size : length g.state.bytes ≡ length_of shape =
    ap (λ (face : Face). length face.state.bytes) did.places
    ∙ ap (λ (x : State). length x.bytes) (state-puts (face_after_reads f (places_read s)) (writes s)) ∙ length-bytes_after (face_after_reads f (places_read s)).state.bytes (writes s)
    ∙ ap (λ (x : State). length x.bytes) (state-reads f (places_read s)) ∙ good.length ∙ ap length_of (sym same) in
    record {
      least = held.0;
      most = omega (arith, held.1);
      within = omega (arith, held.0, held.1, size);
      aligned = omega (arith, held.0, four, is_shape.base.aligned, start_aligned shape.version);
    }

pub went_settled : (f g : Face) (shape : Shape) (pc place : ℕ) (answer : Stepped) → IsState f.state → FitPlaces (length f.state.bytes) f.marks → shape ≡ f.state.shape → pc ≡ word_at f.state.bytes 0
    → place ≡ place_of shape pc → Attempts f g answer → answer ≡ answers.Went → IsReadWord g.marks place → IsSettled g place
went_settled f g shape pc place answer good fit same at there did went read =
    let here : place ≡ place_of f.state.shape (view_of f.state).pc = there ∙ ap (λ (x : Shape). place_of x pc) same ∙ ap (place_of f.state.shape) (at ∙ sym (view_of-pc f.state)) in
    subst (IsSettled g) (sym here) (settled_after f g good fit did.places (went_outcome f g answer did went) (subst (IsReadWord g.marks) here read))
