-- Lemmas on entries that are traced anew.
use Rattle.std.proofs.Common.{◌≡◌, ℕ, zero, suc, ◌+◌, ◌-◌, ◌^◌, ◌<◌, ◌≤◌, Bool, true, false, not, cond, ◌&&◌, ◌||◌, ◌==◌, nat_lt, List, [], ◌∷◌, ◌++◌, map, length, drop, replicate, slice_index, slice_set, filter, Option, Some, None, refl, sym, ap, subst, ◌∙◌, inl, inr, arith}
use Rattle.std.specs.Prelude.{if◌then◌else◌, All, ◌⊎◌}
use Rattle.std.specs.List.{list_all, range_with_len}
use Rattle.std.specs.Option.{option_or}
use Rattle.std.proofs.lemmas.Bool.{cases_Bool, cases_eq, cases_lt, eq-eqb, ne_eqb, eqb-true, ltb-true, le-ltb, and_parts, and_from, or_parts, or_from, or_left, or_right, or_cases}
use Rattle.std.proofs.lemmas.List.{get_or-set_same, get_or-set_other, get_or_past, set_past, ext_get_or, length-replicate, length-map, get_or-replicate}
use Rattle.std.proofs.lemmas.List.Elements.{All-nil, All-cons}
use Rattle.std.proofs.lemmas.List.FromFn.{length-range_with_len}
use Rattle.std.proofs.lemmas.List.Sums.{length-filter, count_by-le-length}
use lib.Pointwise.{pointwise_decides}
use Rattle.asc_model.specs.declared.why.Why.{Why}
use Rattle.asc_model.specs.declared.why.Why.TheVariants as whys
use Rattle.asc_model.specs.Shape.{Shape, length_of}
use Rattle.asc_model.specs.State.{State, IsState}
use Rattle.asc_model.specs.Step.{Next, Went, Call, Faulted, next}
use Rattle.asc_model.specs.Plain.{plain}
use Rattle.asc_model.specs.Places.{places_from, places_read, places_written, bytes_after}
use Rattle.asc_model.specs.DependencyVector.{is_among, without, first_reads, written_in}
use Rattle.asc_model.specs.Entry.{Entry, cells_among, entry_of, own_start, IsCanonical}
use Rattle.asc_model.specs.Reach.{Bounds, laps_in, touched_in, why_no_step, reach_of, leads_to}
use Rattle.asc_model.specs.EntryFile.{are_same_cells, is_canonical, is_listing, rise_from, cells_in, entry_in, read_count, write_count, reads_end}
use Rattle.asc_shape.specs.State.{zero_state}
use Rattle.asc_outside.specs.Outside.{one_more}
use Rattle.asc_traj.specs.declared.made.Made.{Made}
use Rattle.asc_traj.specs.declared.made.Made.TheVariants.{Empty, Stopped}
use Rattle.asc_traj.specs.Made.{IsMade}
use Rattle.asc_save.specs.Listed.{IsListed}
use Rattle.asc_model.proofs.Numbers.{length-bytes_after}
use Rattle.asc_model.proofs.PlainSteps.{plain-first, plain_steps_join, plain_steps_keep_states}
use Rattle.asc_model.proofs.Frames.{first_reads-suc, written_in-suc}
use Rattle.asc_model.proofs.Entries.{among-filter}
use Rattle.asc_model.proofs.Registers.{among-append}
use Rattle.asc_model.proofs.Computing.{reaches_are_computed}

-- ---- zeros, with bytes put and taken back

abbrev places_of : List (ℕ × ℕ) → List ℕ
places_of cells = map (λ cell. cell.0) cells

abbrev pub zeros_of : List (ℕ × ℕ) → List (ℕ × ℕ)
zeros_of cells = map {B = ℕ × ℕ} (λ cell. (cell.0, 0)) cells

-- a place that is not among those put has its byte
kept_byte : (cells : List (ℕ × ℕ)) (bytes : List ℕ) (k : ℕ) → is_among k (places_of cells) ≡ false → slice_index (bytes_after bytes cells) k ≡ slice_index bytes k
kept_byte [] bytes k e = refl
kept_byte (cell ∷ cells) bytes k e =
    let parts = or_parts (cell.0 == k) (is_among k (places_of cells)) e in
    kept_byte cells (slice_set bytes cell.0 cell.1) k parts.1
    ∙ get_or-set_other bytes cell.0 k cell.1 0 (λ same. let hit : (cell.0 == k) ≡ true = eq-eqb cell.0 k (sym same) in let both : true ≡ false = sym hit ∙ parts.0 in absurd (cc))

zero_put : (bytes : List ℕ) (place k : ℕ) → place ≡ k → slice_index (slice_set bytes place 0) k ≡ 0
zero_put bytes place k same = elim (cases_lt place (length bytes)) [
  | inl lt ↦ ap (λ j. slice_index (slice_set bytes place 0) j) (sym same) ∙ get_or-set_same bytes place 0 0 lt
  | inr past ↦ ap (λ list. slice_index list k) (set_past bytes place 0 past) ∙ get_or_past bytes k 0 (omega arith)
]

-- where zeros are put, or a zero was, is a zero
zeroed : (cells : List (ℕ × ℕ)) (bytes : List ℕ) (k : ℕ) → (is_among k (places_of cells) ≡ false → slice_index bytes k ≡ 0) → slice_index (bytes_after bytes (zeros_of cells)) k ≡ 0
zeroed [] bytes k h = h refl
zeroed (cell ∷ cells) bytes k h = zeroed cells (slice_set bytes cell.0 0) k (λ e. elim (cases_eq cell.0 k) [
  | inl same ↦ zero_put bytes cell.0 k same
  | inr apart ↦ get_or-set_other bytes cell.0 k 0 0 (λ q. apart (sym q)) ∙ h (or_from (cell.0 == k) (is_among k (places_of cells)) (ne_eqb cell.0 k apart) e)
])

zero_at : (n k : ℕ) → slice_index (replicate n 0) k ≡ 0
zero_at n k = elim (cases_lt k n) [
  | inl lt ↦ get_or-replicate n k 0 0 lt
  | inr past ↦ get_or_past (replicate n 0) k 0 (omega (arith, length-replicate {A = ℕ} n 0))
]

-- bytes put over zeros, and zeros over them, leave zeros
pub cleared : (n : ℕ) (cells : List (ℕ × ℕ)) → bytes_after (bytes_after (replicate n 0) cells) (zeros_of cells) ≡ replicate n 0
cleared n cells =
    ext_get_or 0 (bytes_after (bytes_after (replicate n 0) cells) (zeros_of cells)) (replicate n 0)
    (length-bytes_after (bytes_after (replicate n 0) cells) (zeros_of cells) ∙ length-bytes_after (replicate n 0) cells)
    (λ k lt. zeroed cells (bytes_after (replicate n 0) cells) k (λ e. kept_byte cells (replicate n 0) k e ∙ zero_at n k) ∙ sym (zero_at n k))

-- ---- the test of entries that are their own

cell_decides : (x y : ℕ × ℕ) → (((x.0 == y.0) && (x.1 == y.1)) ≡ true → x ≡ y) × (x ≡ y → ((x.0 == y.0) && (x.1 == y.1)) ≡ true)
cell_decides x y = (
  λ e. let parts = and_parts (x.0 == y.0) (x.1 == y.1) e in let a = eqb-true x.0 y.0 parts.0 in let b = eqb-true x.1 y.1 parts.1 in λ i. (a i, b i),
  λ e. and_from (x.0 == y.0) (x.1 == y.1) (eq-eqb x.0 y.0 (ap (λ (c : ℕ × ℕ). c.0) e)) (eq-eqb x.1 y.1 (ap (λ (c : ℕ × ℕ). c.1) e)),
)

pub cells_same : (xs ys : List (ℕ × ℕ)) → are_same_cells xs ys ≡ true → xs ≡ ys
cells_same xs ys = (pointwise_decides {K = ℕ × ℕ} {E = λ a b. (a.0 == b.0) && (a.1 == b.1)} cell_decides xs ys).0

pub same_cells : (xs ys : List (ℕ × ℕ)) → xs ≡ ys → are_same_cells xs ys ≡ true
same_cells xs ys = (pointwise_decides {K = ℕ × ℕ} {E = λ a b. (a.0 == b.0) && (a.1 == b.1)} cell_decides xs ys).1

-- an entry by what its steps come to
abbrev entry_by : ℕ → State → Next → Option Entry
entry_by n s (Went after) = Some (record { shape = s.shape; reads = cells_among (first_reads n s) s; writes = cells_among (written_in n s) after; steps = n })
entry_by n s Call = None
entry_by n s (Faulted fault) = None

entry_of-by : (n : ℕ) (s : State) → entry_of n s ≡ entry_by n s (plain n s)
unfolding entry_of
entry_of-by n s = elim (plain n s) as (λ x. elim x [
  | Went after ↦ Some (record { shape = s.shape; reads = cells_among (first_reads n s) s; writes = cells_among (written_in n s) after; steps = n })
  | Call ↦ None
  | Faulted fault ↦ None
] ≡ entry_by n s x) [ Went after ↦ refl | Call ↦ refl | Faulted fault ↦ refl ]

-- what an entry of steps says
pub record IsEntryOf (n : ℕ) (s : State) (e : Entry) : Type 0 where
  pub after : State
  pub goes : plain n s ≡ Went after
  pub shape : e.shape ≡ s.shape
  pub steps : e.steps ≡ n
  pub reads : e.reads ≡ cells_among (first_reads n s) s
  pub writes : e.writes ≡ cells_among (written_in n s) after

by_goes : (n : ℕ) (s : State) (x : Next) (e : Entry) → plain n s ≡ x → entry_by n s x ≡ Some e → IsEntryOf n s e
by_goes n s (Went after) e goes h =
    let made : Entry = record { shape = s.shape; reads = cells_among (first_reads n s) s; writes = cells_among (written_in n s) after; steps = n } in
    let same : e ≡ made = cc in
    record {
      after = after;
      goes = goes;
      shape = ap (λ (x : Entry). x.shape) same;
      steps = ap (λ (x : Entry). x.steps) same;
      reads = ap (λ (x : Entry). x.reads) same;
      writes = ap (λ (x : Entry). x.writes) same;
    }
by_goes n s Call e goes h = absurd (cc)
by_goes n s (Faulted fault) e goes h = absurd (cc)

pub entry_of-goes : (n : ℕ) (s : State) (e : Entry) → entry_of n s ≡ Some e → IsEntryOf n s e
entry_of-goes n s e h = by_goes n s (plain n s) e refl (sym (entry_of-by n s) ∙ h)

abbrev same_as : Entry → Option Entry → Bool
same_as e (Some made) = are_same_cells made.reads e.reads && are_same_cells made.writes e.writes
same_as e None = false

is_canonical-is : (e : Entry) → is_canonical e ≡ same_as e (entry_of e.steps (own_start e))
unfolding is_canonical
is_canonical-is e = elim (entry_of e.steps (own_start e)) as (λ o. elim o [
  | Some made ↦ are_same_cells made.reads e.reads && are_same_cells made.writes e.writes
  | None ↦ false
] ≡ same_as e o) [ Some made ↦ refl | None ↦ refl ]

-- an entry that is its own passes
pub canonical_passes : (e : Entry) → IsCanonical e → is_canonical e ≡ true
canonical_passes e h =
    is_canonical-is e ∙ ap (same_as e) h
    ∙ and_from (are_same_cells e.reads e.reads) (are_same_cells e.writes e.writes) (same_cells e.reads e.reads refl) (same_cells e.writes e.writes refl)

-- entries with the same shape, steps, reads and writes
pub same_entry : (a b : Entry) → a.shape ≡ b.shape → a.steps ≡ b.steps → a.reads ≡ b.reads → a.writes ≡ b.writes → a ≡ b
same_entry a b p q r t = λ i. record { shape = p i; reads = r i; writes = t i; steps = q i }

passes_by : (e : Entry) (o : Option Entry) → entry_of e.steps (own_start e) ≡ o → same_as e o ≡ true → IsCanonical e
passes_by e None h same = absurd (cc)
passes_by e (Some made) h same =
    let is = entry_of-goes e.steps (own_start e) made h in
    let parts = and_parts (are_same_cells made.reads e.reads) (are_same_cells made.writes e.writes) same in
    h ∙ ap Some (same_entry made e is.shape is.steps (cells_same made.reads e.reads parts.0) (cells_same made.writes e.writes parts.1))

-- one that passes is its own
pub passes_canonical : (e : Entry) → is_canonical e ≡ true → IsCanonical e
passes_canonical e h = passes_by e (entry_of e.steps (own_start e)) refl (sym (is_canonical-is e) ∙ h)

-- ---- how many places steps touch

or_more : (a b c d : Bool) → (c ≡ true → d ≡ true) → (a || (b && c)) ≡ true → (a || (b && d)) ≡ true
or_more true b c d h e = refl
or_more false true c d h e = h e
or_more false false c d h e = e

or_later : (a c d : Bool) → (c ≡ true → d ≡ true) → (a || c) ≡ true → (a || d) ≡ true
or_later true c d h e = refl
or_later false c d h e = h e

among-without : (written : List ℕ) (a b : List ℕ) (place : ℕ) → is_among place (a ++ without written b) ≡ (is_among place a || (not (is_among place written) && is_among place b))
among-without written a b place =
    among-append place a (without written b) ∙ ap (λ x. is_among place a || x) (among-filter (λ p. not (is_among p written)) b place)

no_reads : (s : State) (place : ℕ) → is_among place (first_reads 0 s) ≡ true → ⊥
unfolding first_reads
no_reads s place e = let x : false ≡ true = e in absurd (cc)

no_writes : (s : State) (place : ℕ) → is_among place (written_in 0 s) ≡ true → ⊥
unfolding written_in
no_writes s place e = let x : false ≡ true = e in absurd (cc)

-- fewer steps read first no other places
reads_more : (k n : ℕ) (s after : State) (place : ℕ) → k ≤ n → plain n s ≡ Went after → is_among place (first_reads k s) ≡ true → is_among place (first_reads n s) ≡ true
reads_more zero n s after place le goes e = absurd (no_reads s place e)
reads_more (suc k) zero s after place le goes e = absurd (let x : ⊥ = omega arith in x)
reads_more (suc k) (suc n) s after place le goes e =
    let first = plain-first n s after goes in
    let few = among-without (places_written s) (places_read s) (first_reads k first.0) place in
    let many = among-without (places_written s) (places_read s) (first_reads n first.0) place in
    ap (is_among place) (first_reads-suc n s first.0 first.1) ∙ many
    ∙ or_more (is_among place (places_read s)) (not (is_among place (places_written s))) (is_among place (first_reads k first.0)) (is_among place (first_reads n first.0))
    (reads_more k n first.0 after place (omega arith) first.2) (sym few ∙ sym (ap (is_among place) (first_reads-suc k s first.0 first.1)) ∙ e)

-- and write no others
writes_more : (k n : ℕ) (s after : State) (place : ℕ) → k ≤ n → plain n s ≡ Went after → is_among place (written_in k s) ≡ true → is_among place (written_in n s) ≡ true
writes_more zero n s after place le goes e = absurd (no_writes s place e)
writes_more (suc k) zero s after place le goes e = absurd (let x : ⊥ = omega arith in x)
writes_more (suc k) (suc n) s after place le goes e =
    let first = plain-first n s after goes in
    let few = among-append place (places_written s) (written_in k first.0) in
    let many = among-append place (places_written s) (written_in n first.0) in
    ap (is_among place) (written_in-suc n s first.0 first.1) ∙ many
    ∙ or_later (is_among place (places_written s)) (is_among place (written_in k first.0)) (is_among place (written_in n first.0))
    (writes_more k n first.0 after place (omega arith) first.2) (sym few ∙ sym (ap (is_among place) (written_in-suc k s first.0 first.1)) ∙ e)

filters_step : (a b c : Bool) (x : ℕ) (p q r : List ℕ) → (a ≡ true → (b || c) ≡ true) → length p ≤ length q + length r
    → length (cond a (x ∷ p) p) ≤ length (cond b (x ∷ q) q) + length (cond c (x ∷ r) r)
filters_step true true true x p q r h le = omega arith
filters_step true true false x p q r h le = omega arith
filters_step true false true x p q r h le = omega arith
filters_step true false false x p q r h le = let e : false ≡ true = h refl in absurd (cc)
filters_step false true true x p q r h le = omega arith
filters_step false true false x p q r h le = omega arith
filters_step false false true x p q r h le = omega arith
filters_step false false false x p q r h le = le

-- what passes one test passes one of two others
filters : (p q r : ℕ → Bool) (xs : List ℕ) → ((x : ℕ) → p x ≡ true → (q x || r x) ≡ true) → length (filter p xs) ≤ length (filter q xs) + length (filter r xs)
filters p q r [] h = omega arith
filters p q r (x ∷ xs) h = filters_step (p x) (q x) (r x) x (filter p xs) (filter q xs) (filter r xs) (h x) (filters p q r xs h)

-- fewer steps touch no more places than the entry of more has
pub touched_few : (k n : ℕ) (s : State) (e : Entry) → IsState s → k ≤ n → IsEntryOf n s e → touched_in k s ≤ length e.reads + length e.writes
touched_few k n s e state le is =
    let places = places_from 0 (length s.bytes) in
    let kept = plain_steps_keep_states n s is.after state is.goes in
    let size : length is.after.bytes ≡ length s.bytes = kept.0.length ∙ ap length_of kept.1 ∙ sym state.length in
    let reads : length e.reads ≡ length (filter (λ place. is_among place (first_reads n s)) places) =
    ap length is.reads ∙ length-map (filter (λ place. is_among place (first_reads n s)) places) (λ place. (place, slice_index s.bytes place)) in
    let writes : length e.writes ≡ length (filter (λ place. is_among place (written_in n s)) places) =
    ap length is.writes
    ∙ length-map (filter (λ place. is_among place (written_in n s)) (places_from 0 (length is.after.bytes))) (λ place. (place, slice_index is.after.bytes place))
    ∙ ap (λ m. length (filter (λ place. is_among place (written_in n s)) (places_from 0 m))) size in
    let few = filters (λ place. is_among place (first_reads k s ++ written_in k s)) (λ place. is_among place (first_reads n s)) (λ place. is_among place (written_in n s)) places
    (λ place h. elim (or_cases (is_among place (first_reads k s)) (is_among place (written_in k s)) (sym (among-append place (first_reads k s) (written_in k s)) ∙ h)) [
      | inl x ↦ or_left (is_among place (first_reads n s)) (is_among place (written_in n s)) (reads_more k n s is.after place le is.goes x)
      | inr x ↦ or_right (is_among place (first_reads n s)) (is_among place (written_in n s)) (writes_more k n s is.after place le is.goes x)
    ]) in
    omega (arith, length-filter (λ place. is_among place (first_reads k s ++ written_in k s)) places)

-- ---- a trace of exactly so many steps

-- the bounds of the trace of an entry
abbrev pub own_bounds : ℕ → Bounds
own_bounds steps = record { pc = 0; laps = 2 ^ 64 - 1; span = steps; cap = 65536 }

met_span : (lap : Bool) (n : ℕ) (y z : Option Why) → lap ≡ false → option_or (if lap then Some whys.Lap else (if n == n then Some whys.Span else y)) z ≡ Some whys.Span
met_span true n y z e = absurd (cc)
met_span false n y z e = ap (λ c. option_or (if c then Some whys.Span else y) z) (eq-eqb n n refl)

met_none : (a b c : Bool) (z : Option Why) → a ≡ false → b ≡ false → c ≡ false → z ≡ None
    → option_or (if a then Some whys.Lap else (if b then Some whys.Span else (if c then Some whys.Room else None))) z ≡ None
met_none false false false z p q r e = e
met_none true b c z p q r e = absurd (cc)
met_none false true c z p q r e = absurd (cc)
met_none false false true z p q r e = absurd (cc)

few_laps : (n : ℕ) (s : State) → n ≤ 1000000000 → (laps_in 0 n s == 2 ^ 64 - 1) ≡ false
few_laps n s le =
    let most = count_by-le-length (λ k. leads_to 0 (plain k s)) (range_with_len 1 n) in
    let size = length-range_with_len 1 n in
    ne_eqb (laps_in 0 n s) (2 ^ 64 - 1) (λ e. omega arith)

-- the next of so many steps goes on
goes_next : (k n : ℕ) (s now after : State) → k < n → plain k s ≡ Went now → plain n s ≡ Went after → why_no_step (next now) ≡ None
goes_next k n s now after lt h goes =
    let d = n - k - 1 in
    let e : k + suc d ≡ n = omega arith in
    let rest : plain (suc d) now ≡ Went after = sym (plain_steps_join k (suc d) s now h) ∙ ap (λ m. plain m s) e ∙ goes in
    ap why_no_step (plain-first d now after rest).1

pub reach_exact : (n : ℕ) (s : State) (e : Entry) → IsState s → n ≤ 1000000000 → length e.reads ≤ 4096 → length e.writes ≤ 4096 → entry_of n s ≡ Some e
    → reach_of (own_bounds n) s ≡ n
reach_exact n s e state steps reads writes h =
    let is = entry_of-goes n s e h in
    reaches_are_computed (own_bounds n) s n whys.Span (record {
      now = is.after;
      goes = is.goes;
      ends = met_span (laps_in 0 n s == 2 ^ 64 - 1) n (if nat_lt 65536 (touched_in n s + 32) then Some whys.Room else None) (why_no_step (next is.after)) (few_laps n s steps);
      least = λ k now lt at.
          let few = touched_few k n s e state (omega arith) is in
          met_none (laps_in 0 k s == 2 ^ 64 - 1) (k == n) (nat_lt 65536 (touched_in k s + 32)) (why_no_step (next now))
          (few_laps k s (omega arith)) (ne_eqb k n (λ same. omega arith)) (le-ltb 65536 (touched_in k s + 32) (omega arith))
          (goes_next k n s now is.after lt at is.goes);
    })

-- ---- what a trace made, against the entry

-- whether an entry is another one, but for its shape
abbrev pub is_same : Entry → Entry → Bool
is_same made e = (made.steps == e.steps) && are_same_cells made.reads e.reads && are_same_cells made.writes e.writes

-- the entry of a trace that is the one in the file
pub made_same : (e made : Entry) (n : ℕ) → entry_of n (own_start e) ≡ Some made → is_same made e ≡ true → (made ≡ e) × (is_canonical e ≡ true)
made_same e made n h same =
    let is = entry_of-goes n (own_start e) made h in
    let parts = and_parts ((made.steps == e.steps) && are_same_cells made.reads e.reads) (are_same_cells made.writes e.writes) same in
    let first = and_parts (made.steps == e.steps) (are_same_cells made.reads e.reads) parts.0 in
    let steps = eqb-true made.steps e.steps first.0 in
    let one : made ≡ e = same_entry made e is.shape steps (cells_same made.reads e.reads first.1) (cells_same made.writes e.writes parts.1) in
    (one, canonical_passes e (ap (λ m. entry_of m (own_start e)) (sym steps ∙ is.steps) ∙ h ∙ ap Some one))

same_refl : (e : Entry) → is_same e e ≡ true
same_refl e = and_from ((e.steps == e.steps) && are_same_cells e.reads e.reads) (are_same_cells e.writes e.writes)
    (and_from (e.steps == e.steps) (are_same_cells e.reads e.reads) (eq-eqb e.steps e.steps refl) (same_cells e.reads e.reads refl)) (same_cells e.writes e.writes refl)

-- an entry within the bounds
pub record IsBounded (e : Entry) : Type 0 where
  pub least : 1 ≤ e.steps
  pub most : e.steps ≤ 1000000000
  pub reads : length e.reads ≤ 4096
  pub writes : length e.writes ≤ 4096

-- of one that is its own, the trace makes it
made_exact : (e : Entry) → IsState (own_start e) → IsBounded e → is_canonical e ≡ true → reach_of (own_bounds e.steps) (own_start e) ≡ e.steps
made_exact e state bounded h = reach_exact e.steps (own_start e) e state bounded.most bounded.reads bounded.writes (passes_canonical e h)

-- so where the trace makes another one, or none, it is not its own
pub made_other : (e made : Entry) → IsState (own_start e) → IsBounded e → entry_of (reach_of (own_bounds e.steps) (own_start e)) (own_start e) ≡ Some made → is_same made e ≡ false
    → is_canonical e ≡ false
made_other e made state bounded h other = elim (cases_Bool (is_canonical e)) [
  | inr failed ↦ failed
  | inl passed ↦
      let exact = made_exact e state bounded passed in
      let own : entry_of e.steps (own_start e) ≡ Some e = passes_canonical e passed in
      let both : Some made ≡ Some e = sym h ∙ ap (λ n. entry_of n (own_start e)) exact ∙ own in
      let one : made ≡ e = cc in
      let x : false ≡ true = sym other ∙ ap (λ m. is_same m e) one ∙ same_refl e in absurd (cc)
]

pub made_none : (e : Entry) → IsState (own_start e) → IsBounded e → reach_of (own_bounds e.steps) (own_start e) ≡ 0 → is_canonical e ≡ false
made_none e state bounded h = elim (cases_Bool (is_canonical e)) [
  | inr failed ↦ failed
  | inl passed ↦
      let exact = made_exact e state bounded passed in
      let least = bounded.least in
      absurd (let x : ⊥ = omega arith in x)
]

-- ---- where a trace begins

list_below : (shape : Shape) (cells : List (ℕ × ℕ)) → list_all (λ place. nat_lt place (length_of shape)) (places_of cells) ≡ true → All (λ cell. cell.0 < length_of shape) cells
list_below shape [] e = All-nil (λ (cell : ℕ × ℕ). cell.0 < length_of shape)
list_below shape (cell ∷ cells) e =
    let parts = and_parts (nat_lt cell.0 (length_of shape)) (list_all (λ place. nat_lt place (length_of shape)) (places_of cells)) e in
    All-cons (λ (cell : ℕ × ℕ). cell.0 < length_of shape) cell cells (ltb-true cell.0 (length_of shape) parts.0) (list_below shape cells parts.1)

-- the places of a listing are places of its shape
pub listing_within : (shape : Shape) (cells : List (ℕ × ℕ)) → is_listing shape cells ≡ true → All (λ cell. cell.0 < length_of shape) cells
listing_within shape cells e = list_below shape cells (and_parts (rise_from 0 (places_of cells)) (list_all (λ place. nat_lt place (length_of shape)) (places_of cells)) e).1

-- zeros with the reads of an entry are where it begins
pub start_is : (shape : Shape) (e : Entry) (cells : List (ℕ × ℕ)) (z t : State) → z ≡ zero_state shape → e.shape ≡ shape → e.reads ≡ cells
    → t ≡ record { shape = z.shape; bytes = bytes_after z.bytes cells } → t ≡ own_start e
start_is shape e cells z t zeros same reads is =
    is ∙ ap (λ (s : State). record { shape = s.shape; bytes = bytes_after s.bytes cells }) zeros
    ∙ λ i. record { shape = sym same i; bytes = bytes_after (replicate (length_of (sym same i)) 0) (sym reads i) }

-- and zeros put over them leave zeros
pub zeros_again : (shape : Shape) (cells : List (ℕ × ℕ)) (z t u v : State) → z ≡ zero_state shape → t ≡ record { shape = z.shape; bytes = bytes_after z.bytes cells } → u ≡ t
    → v ≡ record { shape = u.shape; bytes = bytes_after u.bytes (zeros_of cells) } → v ≡ z
zeros_again shape cells z t u v zeros put same cleared_is =
    cleared_is ∙ ap (λ (s : State). record { shape = s.shape; bytes = bytes_after s.bytes (zeros_of cells) })
    (same ∙ put ∙ ap (λ (s : State). record { shape = s.shape; bytes = bytes_after s.bytes cells }) zeros)
    ∙ (λ i. record { shape = shape; bytes = cleared (length_of shape) cells i })
    ∙ sym zeros

-- ---- what tracing answers

length-cells_in : (n : ℕ) (bytes : List ℕ) → length (cells_in n bytes) ≡ n
length-cells_in zero bytes = refl
length-cells_in (suc n) bytes = ap suc (length-cells_in n (drop 5 bytes))

pub listed-IsBounded : (shape : Shape) (bytes : List ℕ) → IsListed shape bytes → IsBounded (entry_in shape bytes)
listed-IsBounded shape bytes listed = record {
  least = listed.least;
  most = listed.most;
  reads = let size = length-cells_in (read_count bytes) (drop 16 bytes) in let few = listed.few_reads in omega arith;
  writes = let size = length-cells_in (write_count bytes) (drop (reads_end bytes) bytes) in let few = listed.few_writes in omega arith;
}

-- the bounds of a trace whose stop was made so
abbrev pub stop_bounds : (span cap : ℕ) → Bounds
stop_bounds span cap = record { pc = 0; laps = 2 ^ 64 - 1; span = span; cap = cap }

reach_same : (e : Entry) (guess : State) (span cap : ℕ) → guess ≡ own_start e → span ≡ e.steps → cap ≡ 65536 → reach_of (stop_bounds span cap) guess ≡ reach_of (own_bounds e.steps) (own_start e)
reach_same e guess span cap at steps most = λ i. reach_of (stop_bounds (steps i) (most i)) (at i)

made_at : (e made : Entry) (guess : State) (span cap : ℕ) → guess ≡ own_start e → span ≡ e.steps → cap ≡ 65536 → entry_of (reach_of (stop_bounds span cap) guess) guess ≡ Some made
    → entry_of (reach_of (own_bounds e.steps) (own_start e)) (own_start e) ≡ Some made
made_at e made guess span cap at steps most h = sym (λ i. entry_of (reach_same e guess span cap at steps most i) (at i)) ∙ h

pub traced_same : (e made : Entry) (guess : State) (span cap : ℕ) → guess ≡ own_start e → span ≡ e.steps → cap ≡ 65536 → entry_of (reach_of (stop_bounds span cap) guess) guess ≡ Some made
    → is_same made e ≡ true → (made ≡ e) × (is_canonical e ≡ true)
traced_same e made guess span cap at steps most h same = made_same e made (reach_of (own_bounds e.steps) (own_start e)) (made_at e made guess span cap at steps most h) same

pub traced_other : (e made : Entry) (guess : State) (span cap : ℕ) → guess ≡ own_start e → span ≡ e.steps → cap ≡ 65536 → IsState guess → IsBounded e
    → entry_of (reach_of (stop_bounds span cap) guess) guess ≡ Some made → is_same made e ≡ false → is_canonical e ≡ false
traced_other e made guess span cap at steps most state bounded h other =
    made_other e made (subst IsState at state) bounded (made_at e made guess span cap at steps most h) other

pub traced_none : (e : Entry) (guess : State) (span cap : ℕ) → guess ≡ own_start e → span ≡ e.steps → cap ≡ 65536 → IsState guess → IsBounded e
    → reach_of (stop_bounds span cap) guess ≡ 0 → is_canonical e ≡ false
traced_none e guess span cap at steps most state bounded h = made_none e (subst IsState at state) bounded (sym (reach_same e guess span cap at steps most) ∙ h)

-- a trace that nothing stops made none only where it has no step
pub not_stopped : (bounds : Bounds) (guess : State) (made : Made) → IsMade bounds guess 0 0 made → (made ≡ Empty) ⊎ (made ≡ Stopped) → reach_of bounds guess ≡ 0
not_stopped bounds guess made h (inl e) = (subst (IsMade bounds guess 0 0) e h).0
not_stopped bounds guess made h (inr e) = let x : 0 ≡ one_more 0 = (subst (IsMade bounds guess 0 0) e h).1 in absurd (let y : ⊥ = omega arith in y)
