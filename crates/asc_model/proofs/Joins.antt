-- The join of two entries, each its own, is its own.
use Rattle.std.proofs.Common.{◌≡◌, ℕ, zero, suc, ◌+◌, ◌^◌, ◌<◌, ◌≤◌, Bool, true, false, not, ◌&&◌, ◌||◌, ◌==◌, ◌⊎◌, List, [], ◌∷◌, map, length, replicate, slice_index, slice_set, All, filter, Option, Some, None, if◌then◌else◌, refl, sym, ap, subst, ◌∙◌, inl, inr, arith, length-set, zero-add, suc-add}
use Rattle.std.specs.List.{filter_map, list_all}
use Rattle.std.specs.Option.{is_some, option_map, option_or, unwrap_or}
use Rattle.std.proofs.lemmas.Bool.{cases_eq, cases_lt, eqb-true, eq-eqb, ne_eqb, and_parts, cond-true, cond-false, lt-ltb}
use Rattle.std.proofs.lemmas.List.{get_or-set_same, get_or-set_other, length-replicate}
use Rattle.std.proofs.lemmas.List.Elements.{All-nil, All-cons, All-head, All-tail}
use Rattle.asc_model.specs.Shape.{Shape, IsShape, length_of}
use Rattle.asc_model.specs.Number.{AreBytes}
use Rattle.asc_model.specs.State.{State, IsState}
use Rattle.asc_model.specs.Step.{Went}
use Rattle.asc_model.specs.Plain.{plain}
use Rattle.asc_model.specs.Places.{places_from, places_read, places_written, bytes_after}
use Rattle.asc_model.specs.DependencyVector.{is_among, without, first_reads, written_in}
use Rattle.asc_model.specs.Entry.{Entry, IsListing, Matches, put_entry, cells_among, entry_of, own_start, IsTrueEntry}
use Rattle.asc_model.specs.Join.{byte_in, known_after, agrees, can_join, read_by_both, left_by_both, cells_by, join_of}
use Rattle.asc_model.specs.Laws.{JoinsAreTrue}
use Rattle.asc_model.proofs.Numbers.{length-bytes_after}
use Rattle.asc_model.proofs.Changes.{below-set}
use Rattle.asc_model.proofs.Shapes.{is_same_shape-true}
use Rattle.asc_model.proofs.PlainSteps.{plain-none, plain-first, plain_steps_join, plain_steps_keep_states}
use Rattle.asc_model.proofs.Frames.{first_reads-suc, written_in-suc}
use Rattle.asc_model.proofs.Registers.{among-append}
use Rattle.asc_model.proofs.Repeats.{among-without}
use Rattle.asc_model.proofs.Listings.{RisesFrom, RisesFrom-increasing, RisesFrom-filter, increasing-RisesFrom}
use Rattle.asc_model.proofs.Entries.{among-places_among, made, entry_of-is, entry_by, again, entries_are_true}

-- ---- cells as a map

-- the places of cells
abbrev pub places_of : List (ℕ × ℕ) → List ℕ
places_of cells = map (λ cell. cell.0) cells

-- the byte of a first cell, and of those behind it
pub byte_in-first : (cell : ℕ × ℕ) (cells : List (ℕ × ℕ)) (place : ℕ) → cell.0 ≡ place → byte_in (cell ∷ cells) place ≡ Some cell.1
byte_in-first cell cells place e = cond-true (cell.0 == place) (Some cell.1) (byte_in cells place) (eq-eqb cell.0 place e)

pub byte_in-behind : (cell : ℕ × ℕ) (cells : List (ℕ × ℕ)) (place : ℕ) → (cell.0 ≡ place → ⊥) → byte_in (cell ∷ cells) place ≡ byte_in cells place
byte_in-behind cell cells place apart = cond-false (cell.0 == place) (Some cell.1) (byte_in cells place) (ne_eqb cell.0 place apart)

-- rising cells have no byte below the first one
pub byte_in-below : (low : ℕ) (cells : List (ℕ × ℕ)) (place : ℕ) → RisesFrom low (places_of cells) → place < low → byte_in cells place ≡ None
byte_in-below low [] place rise lt = refl
byte_in-below low (cell ∷ cells) place rise lt =
    byte_in-behind cell cells place (λ e. omega (arith, rise.0)) ∙ byte_in-below (cell.0 + 1) cells place rise.1 (omega (arith, rise.0))

pub none_some : (o : Option ℕ) (v : ℕ) → o ≡ None → o ≡ Some v → ⊥
none_some o v e h = cc

-- what each place has with its byte, each of rising cells has
pub each_cell : (P : ℕ × ℕ → Type 0) (low : ℕ) (cells : List (ℕ × ℕ)) → RisesFrom low (places_of cells)
    → ((place byte : ℕ) → byte_in cells place ≡ Some byte → P (place, byte)) → All P cells
each_cell P low [] rise h = All-nil P
each_cell P low (cell ∷ cells) rise h =
    All-cons P cell cells (h cell.0 cell.1 (byte_in-first cell cells cell.0 refl))
    (each_cell P (cell.0 + 1) cells rise.1 (λ place byte e.
    elim (cases_lt place (cell.0 + 1)) [
      | inl below ↦ absurd (none_some (byte_in cells place) byte (byte_in-below (cell.0 + 1) cells place rise.1 below) e)
      | inr past ↦ h place byte (byte_in-behind cell cells place (λ same. omega arith) ∙ e)
    ]))

-- and what all cells have, a place has with its byte
pub all_cells : (P : ℕ × ℕ → Type 0) (cells : List (ℕ × ℕ)) → All P cells → (place byte : ℕ) → byte_in cells place ≡ Some byte → P (place, byte)
all_cells P [] h place byte e = absurd (none_some None byte refl e)
all_cells P (cell ∷ cells) h place byte e = elim (cases_eq cell.0 place) [
  | inl same ↦
      let value : Some cell.1 ≡ Some byte = sym (byte_in-first cell cells place same) ∙ e in
      let byte_same : cell.1 ≡ byte = cc in
      subst P (λ i. (same i, byte_same i)) (All-head P cell cells h)
  | inr apart ↦ all_cells P cells (All-tail P cell cells h) place byte (sym (byte_in-behind cell cells place apart) ∙ e)
]

-- a test that all cells pass, a place passes with its byte
pub tested : (test : ℕ × ℕ → Bool) (cells : List (ℕ × ℕ)) → list_all test cells ≡ true → (place byte : ℕ) → byte_in cells place ≡ Some byte → test (place, byte) ≡ true
tested test [] h place byte e = absurd (none_some None byte refl e)
tested test (cell ∷ cells) h place byte e =
    let both = and_parts (test cell) (list_all test cells) h in
    elim (cases_eq cell.0 place) [
      | inl same ↦
          let value : Some cell.1 ≡ Some byte = sym (byte_in-first cell cells place same) ∙ e in
          let byte_same : cell.1 ≡ byte = cc in
          subst (λ (c : ℕ × ℕ). test c ≡ true) (λ i. (same i, byte_same i)) both.0
      | inr apart ↦ tested test cells both.1 place byte (sym (byte_in-behind cell cells place apart) ∙ e)
    ]

-- a place has its byte of rising cells that are put into bytes, and else the one that it had
bytes_after-rising : (low : ℕ) (bytes : List ℕ) (cells : List (ℕ × ℕ)) (place : ℕ) → RisesFrom low (places_of cells) → place < length bytes
    → slice_index (bytes_after bytes cells) place ≡ unwrap_or (byte_in cells place) (slice_index bytes place)
bytes_after-rising low bytes [] place rise lt = refl
bytes_after-rising low bytes (cell ∷ cells) place rise lt =
    let later = bytes_after-rising (cell.0 + 1) (slice_set bytes cell.0 cell.1) cells place rise.1 (omega (arith, lt, length-set bytes cell.0 cell.1)) in
    elim (cases_eq cell.0 place) [
      | inl same ↦
          later ∙ ap (λ (o : Option ℕ). unwrap_or o (slice_index (slice_set bytes cell.0 cell.1) place)) (byte_in-below (cell.0 + 1) cells place rise.1 (omega (arith, same)))
          ∙ ap (λ p. slice_index (slice_set bytes p cell.1) place) same ∙ get_or-set_same bytes place cell.1 0 lt
          ∙ sym (ap (λ (o : Option ℕ). unwrap_or o (slice_index bytes place)) (byte_in-first cell cells place same))
      | inr apart ↦
          later ∙ ap (unwrap_or (byte_in cells place)) (get_or-set_other bytes cell.0 place cell.1 0 (λ e. apart (sym e)))
          ∙ sym (ap (λ (o : Option ℕ). unwrap_or o (slice_index bytes place)) (byte_in-behind cell cells place apart))
    ]

-- bytes put into bytes leave bytes
AreBytes-bytes_after : (bytes : List ℕ) (cells : List (ℕ × ℕ)) → AreBytes bytes → All (λ cell. cell.1 < 2 ^ 8) cells → AreBytes (bytes_after bytes cells)
AreBytes-bytes_after bytes [] are h = are
AreBytes-bytes_after bytes (cell ∷ cells) are h =
    AreBytes-bytes_after (slice_set bytes cell.0 cell.1) cells (below-set (2 ^ 8) bytes cell.0 cell.1 (All-head (λ (c : ℕ × ℕ). c.1 < 2 ^ 8) cell cells h) are)
    (All-tail (λ (c : ℕ × ℕ). c.1 < 2 ^ 8) cell cells h)

AreBytes-zeros : (n : ℕ) → AreBytes (replicate n 0)
AreBytes-zeros zero k = omega arith
AreBytes-zeros (suc n) zero = omega arith
AreBytes-zeros (suc n) (suc k) = AreBytes-zeros n k

-- cells of a shape rise
pub listing-rises : (shape : Shape) (cells : List (ℕ × ℕ)) → IsListing shape cells → RisesFrom 0 (places_of cells)
listing-rises shape cells listing = RisesFrom-increasing 0 (places_of cells) listing.rise (λ lt. omega arith)

-- an entry's own start is a state
own-IsState : (e : Entry) → IsShape e.shape → IsListing e.shape e.reads → IsState (own_start e)
own-IsState e good listing = record {
  shape = good;
  length = length-bytes_after (replicate (length_of e.shape) 0) e.reads ∙ length-replicate (length_of e.shape) 0;
  bytes = AreBytes-bytes_after (replicate (length_of e.shape) 0) e.reads (AreBytes-zeros (length_of e.shape)) listing.bytes;
}

-- ---- the cells of a map

-- those at n places from one on
abbrev pub cells_from : (R : ℕ → Option ℕ) → (place n : ℕ) → List (ℕ × ℕ)
cells_from R place n = filter_map (λ p. option_map (λ byte. (p, byte)) (R p)) (places_from place n)

-- their places
pub places-cells_from : (R : ℕ → Option ℕ) (place n : ℕ) → places_of (cells_from R place n) ≡ filter (λ p. is_some (R p)) (places_from place n)
places-cells_from R place zero = refl
places-cells_from R place (suc n) = by (places-cells_from R (place + 1) n) (R place) refl
  where
    by : places_of (cells_from R (place + 1) n) ≡ filter (λ p. is_some (R p)) (places_from (place + 1) n)
        → (o : Option ℕ) → R place ≡ o → places_of (cells_from R place (suc n)) ≡ filter (λ p. is_some (R p)) (places_from place (suc n))
    by later None e = rw e later
    by later (Some byte) e = rw e (ap (λ list. place ∷ list) later)

-- they rise
cells_from-rise : (R : ℕ → Option ℕ) (place n : ℕ) → RisesFrom place (places_of (cells_from R place n))
cells_from-rise R place n = subst (RisesFrom place) (sym (places-cells_from R place n)) (RisesFrom-filter (λ p. is_some (R p)) place n)

-- each of them is one of the map, at one of the places
pub cells_from-each : (P : ℕ × ℕ → Type 0) (R : ℕ → Option ℕ) (place n : ℕ)
    → ((p byte : ℕ) → p < place + n → R p ≡ Some byte → P (p, byte)) → All P (cells_from R place n)
cells_from-each P R place zero h = All-nil P
cells_from-each P R place (suc n) h = by (cells_from-each P R (place + 1) n (λ p byte lt. h p byte (omega arith))) (R place) refl
  where
    by : All P (cells_from R (place + 1) n) → (o : Option ℕ) → R place ≡ o → All P (cells_from R place (suc n))
    by later None e = rw e later
    by later (Some byte) e = rw e (All-cons P (place, byte) (cells_from R (place + 1) n) (h place byte (omega arith) e) later)

-- and each of the map is one of them
byte_in-cells_from : (R : ℕ → Option ℕ) (place n p : ℕ) → place ≤ p → p < place + n → byte_in (cells_from R place n) p ≡ R p
byte_in-cells_from R place zero p least most = absurd (omega arith)
byte_in-cells_from R place (suc n) p least most =
    by (λ apart. byte_in-cells_from R (place + 1) n p (omega (arith, apart)) (omega arith)) (R place) refl (cases_eq place p)
  where
    by : ((place ≡ p → ⊥) → byte_in (cells_from R (place + 1) n) p ≡ R p) → (o : Option ℕ) → R place ≡ o → (place ≡ p) ⊎ (place ≡ p → ⊥)
        → byte_in (cells_from R place (suc n)) p ≡ R p
    by later None e (inl same) =
        let none : R p ≡ None = ap R (sym same) ∙ e in
        let at : byte_in (cells_from R (place + 1) n) p ≡ R p = byte_in-below (place + 1) (cells_from R (place + 1) n) p (cells_from-rise R (place + 1) n) (omega arith) ∙ sym none in
        rw e at
    by later None e (inr apart) = let at = later apart in rw e at
    by later (Some byte) e (inl same) =
        let some : R p ≡ Some byte = ap R (sym same) ∙ e in
        let at : byte_in ((place, byte) ∷ cells_from R (place + 1) n) p ≡ R p = byte_in-first (place, byte) (cells_from R (place + 1) n) p same ∙ sym some in
        rw e at
    by later (Some byte) e (inr apart) =
        let at : byte_in ((place, byte) ∷ cells_from R (place + 1) n) p ≡ R p = byte_in-behind (place, byte) (cells_from R (place + 1) n) p apart ∙ later apart in
        rw e at

-- where a map has the bytes of a list at places that pass a test, these are its cells
cells_from-filter : (bytes : List ℕ) (test : ℕ → Bool) (R : ℕ → Option ℕ) (place n : ℕ)
    → ((p : ℕ) → place ≤ p → p < place + n → R p ≡ (if test p then Some (slice_index bytes p) else None))
    → cells_from R place n ≡ map (λ p. (p, slice_index bytes p)) (filter test (places_from place n))
cells_from-filter bytes test R place zero h = refl
cells_from-filter bytes test R place (suc n) h =
    by (cells_from-filter bytes test R (place + 1) n (λ p least most. h p (omega arith) (omega arith))) (test place) refl (h place (omega arith) (omega arith))
  where
    by : cells_from R (place + 1) n ≡ map (λ p. (p, slice_index bytes p)) (filter test (places_from (place + 1) n))
        → (b : Bool) → test place ≡ b → R place ≡ (if test place then Some (slice_index bytes place) else None)
        → cells_from R place (suc n) ≡ map (λ p. (p, slice_index bytes p)) (filter test (places_from place (suc n)))
    by later true e here =
        let some : R place ≡ Some (slice_index bytes place) = here ∙ ap (λ (b : Bool). if b then Some (slice_index bytes place) else None) e in
        rw (some, e) (ap (λ list. (place, slice_index bytes place) ∷ list) later)
    by later false e here =
        let none : R place ≡ None = here ∙ ap (λ (b : Bool). if b then Some (slice_index bytes place) else None) e in
        rw (none, e) later

-- the byte at a place of the cells of a state
byte_in-places : (bytes places : List ℕ) (p : ℕ) → byte_in (map (λ q. (q, slice_index bytes q)) places) p ≡ (if is_among p places then Some (slice_index bytes p) else None)
byte_in-places bytes [] p = refl
byte_in-places bytes (place ∷ places) p = elim (cases_eq place p) [
  | inl same ↦
      byte_in-first (place, slice_index bytes place) (map (λ q. (q, slice_index bytes q)) places) p same ∙ ap (λ q. Some (slice_index bytes q)) same
      ∙ sym (cond-true (is_among p (place ∷ places)) (Some (slice_index bytes p)) None (ap (λ b. b || is_among p places) (eq-eqb place p same)))
  | inr apart ↦
      byte_in-behind (place, slice_index bytes place) (map (λ q. (q, slice_index bytes q)) places) p apart ∙ byte_in-places bytes places p
      ∙ sym (ap (λ b. if b || is_among p places then Some (slice_index bytes p) else None) (ne_eqb place p apart))
]

byte_in-cells_among : (places : List ℕ) (s : State) (p : ℕ) → p < length s.bytes → byte_in (cells_among places s) p ≡ (if is_among p places then Some (slice_index s.bytes p) else None)
byte_in-cells_among places s p lt =
    byte_in-places s.bytes (filter (λ q. is_among q places) (places_from 0 (length s.bytes))) p
    ∙ ap (λ b. if b then Some (slice_index s.bytes p) else None) (among-places_among places (length s.bytes) p ∙ ap (λ b. is_among p places && b) (lt-ltb p (length s.bytes) lt) ∙ and_true (is_among p places))
  where
    and_true : (b : Bool) → b && true ≡ b
    and_true true = refl
    and_true false = refl

-- ---- steps in two parts

reads_later : (r w q v x : Bool) → (r || (not w && (q || (not v && x)))) ≡ ((r || (not w && q)) || (not (w || v) && x))
reads_later true w q v x = refl
reads_later false true q v x = refl
reads_later false false true v x = refl
reads_later false false false v x = refl

-- a place that the first steps read first, or that they do not write and the others read first
first_reads-both : (m n : ℕ) (s between : State) → plain m s ≡ Went between → (place : ℕ)
    → is_among place (first_reads (m + n) s) ≡ (is_among place (first_reads m s) || (not (is_among place (written_in m s)) && is_among place (first_reads n between)))
unfolding first_reads written_in
first_reads-both zero n s between h place =
    ap (λ k. is_among place (first_reads k s)) (zero-add n) ∙ ap (λ t. is_among place (first_reads n t)) (plain-none s between h)
first_reads-both (suc m) n s between h place =
    let first = plain-first m s between h in
    let later = first_reads-both m n first.0 between first.2 place in
    let r = is_among place (places_read s) in
    let w = is_among place (places_written s) in
    let q = is_among place (first_reads m first.0) in
    let v = is_among place (written_in m first.0) in
    let x = is_among place (first_reads n between) in
    let reads = λ (k : ℕ).
    ap (is_among place) (first_reads-suc k s first.0 first.1) ∙ among-append place (places_read s) (without (places_written s) (first_reads k first.0))
    ∙ ap (λ b. r || b) (among-without place (places_written s) (first_reads k first.0)) in
    let writes : is_among place (written_in (suc m) s) ≡ (w || v) = ap (is_among place) (written_in-suc m s first.0 first.1) ∙ among-append place (places_written s) (written_in m first.0) in
    ap (λ k. is_among place (first_reads k s)) (suc-add m n) ∙ reads (m + n) ∙ ap (λ b. r || (not w && b)) later ∙ reads_later r w q v x
    ∙ sym ((λ i. reads m i || (not (writes i) && x)))

or_assoc : (x y z : Bool) → (x || (y || z)) ≡ ((x || y) || z)
or_assoc true y z = refl
or_assoc false y z = refl

written_in-both : (m n : ℕ) (s between : State) → plain m s ≡ Went between → (place : ℕ)
    → is_among place (written_in (m + n) s) ≡ (is_among place (written_in m s) || is_among place (written_in n between))
unfolding written_in
written_in-both zero n s between h place =
    ap (λ k. is_among place (written_in k s)) (zero-add n) ∙ ap (λ t. is_among place (written_in n t)) (plain-none s between h)
written_in-both (suc m) n s between h place =
    let first = plain-first m s between h in
    let later = written_in-both m n first.0 between first.2 place in
    let w = is_among place (places_written s) in
    let writes = λ (k : ℕ). ap (is_among place) (written_in-suc k s first.0 first.1) ∙ among-append place (places_written s) (written_in k first.0) in
    ap (λ k. is_among place (written_in k s)) (suc-add m n) ∙ writes (m + n) ∙ ap (λ b. w || b) later
    ∙ or_assoc w (is_among place (written_in m first.0)) (is_among place (written_in n between)) ∙ sym (ap (λ b. b || is_among place (written_in n between)) (writes m))

-- ---- bytes of a place

-- what a reads is read
read_first-is : (aw ar br : Option ℕ) (byte : ℕ) → ar ≡ Some byte → (if is_some (option_or aw ar) then ar else br) ≡ Some byte
read_first-is (Some x) ar br byte e = e
read_first-is None (Some x) br byte e = e
read_first-is None None br byte e = absurd (none_some None byte refl e)

-- what is read is what one of both reads
read_by : (P : ℕ → Type 0) (aw ar br : Option ℕ) (byte : ℕ) → (ar ≡ Some byte → P byte) → (br ≡ Some byte → P byte) → (if is_some (option_or aw ar) then ar else br) ≡ Some byte → P byte
read_by P (Some x) ar br byte f g e = f e
read_by P None (Some x) br byte f g e = f e
read_by P None None br byte f g e = g e

-- after a's steps a place has the byte that b reads there
reads_second : (aw ar br : Option ℕ) (mine byte : ℕ) → agrees (option_or aw ar) byte ≡ true → br ≡ Some byte
    → ((x : ℕ) → (if is_some (option_or aw ar) then ar else br) ≡ Some x → mine ≡ x) → unwrap_or aw mine ≡ byte
reads_second (Some x) ar br mine byte agree e h = eqb-true x byte agree
reads_second None (Some x) br mine byte agree e h = h x refl ∙ eqb-true x byte agree
reads_second None None br mine byte agree e h = h byte e

-- what both read and leave, by who touches the place
reads_both : (fa wa fb : Bool) (x y : ℕ) → (wa ≡ false → y ≡ x)
    → (if is_some (option_or (if wa then Some y else None) (if fa then Some x else None)) then (if fa then Some x else None) else (if fb then Some y else None))
    ≡ (if fa || (not wa && fb) then Some x else None)
reads_both true true fb x y h = refl
reads_both true false fb x y h = refl
reads_both false true fb x y h = refl
reads_both false false true x y h = ap Some (h refl)
reads_both false false false x y h = refl

leaves_both : (wa wb : Bool) (y z : ℕ) → (wb ≡ false → z ≡ y)
    → option_or (if wb then Some z else None) (if wa then Some y else None) ≡ (if wa || wb then Some z else None)
leaves_both true true y z h = refl
leaves_both false true y z h = refl
leaves_both true false y z h = ap Some (sym (h refl))
leaves_both false false y z h = refl

kept_by : (w : Bool) (o : Option ℕ) (x y z : ℕ) → o ≡ (if w then Some x else None) → y ≡ unwrap_or o z → w ≡ false → y ≡ z
kept_by true o x y z e h none = absurd (cc)
kept_by false o x y z e h none = h ∙ ap (λ (p : Option ℕ). unwrap_or p z) e

-- ---- the join

-- a true entry is the entry of its steps from each state that it matches
again_true : (e : Entry) → IsTrueEntry e → (s : State) → IsState s → Matches e s → entry_of e.steps s ≡ Some e
again_true e is s good h =
    let begun = own-IsState e is.entry.shape is.entry.reads in
    let found = entry_by e.steps (own_start e) e (plain e.steps (own_start e)) refl is.own in
    again e.steps (own_start e) found.0 begun found.1 s good (subst (λ x. Matches x s) (sym found.2) h) ∙ ap Some found.2

made_again : (e : Entry) → IsTrueEntry e → (s after : State) → IsState s → Matches e s → plain e.steps s ≡ Went after → made e.steps s after ≡ e
made_again e is s after good h goes =
    let one : Some (made e.steps s after) ≡ Some e = sym (entry_of-is e.steps s (Went after) goes) ∙ again_true e is s good h in
    cc

-- the entry of both
abbrev pub joined : Entry → Entry → Entry
joined a b = record {
  shape = a.shape;
  reads = cells_by a.shape (read_by_both a b);
  writes = cells_by a.shape (left_by_both a b);
  steps = a.steps + b.steps;
}

module _ (a b : Entry) (first : IsTrueEntry a) (second : IsTrueEntry b) (can : can_join a b ≡ true) where
  abbrev e : Entry
  e = joined a b

  parts : (a.shape ≡ b.shape) × (list_all (λ cell. agrees (known_after a cell.0) cell.1) b.reads ≡ true)
  parts =
      let both = and_parts _ _ (and_parts _ _ (and_parts _ _ can).0).0 in
      (is_same_shape-true a.shape b.shape both.0, both.1)

  abbrev R : ℕ → Option ℕ
  R = read_by_both a b

  abbrev n : ℕ
  n = length_of a.shape

  -- what is read is a byte
  reads-bytes : (p byte : ℕ) → R p ≡ Some byte → byte < 2 ^ 8
  reads-bytes p byte is =
      read_by (λ x. x < 2 ^ 8) (byte_in a.writes p) (byte_in a.reads p) (byte_in b.reads p) byte (all_cells (λ cell. cell.1 < 2 ^ 8) a.reads first.entry.reads.bytes p byte)
      (all_cells (λ cell. cell.1 < 2 ^ 8) b.reads second.entry.reads.bytes p byte) is

  listing : IsListing a.shape (cells_by a.shape R)
  listing = record {
    rise = increasing-RisesFrom 0 (places_of (cells_by a.shape R)) (cells_from-rise R 0 n);
    places = cells_from-each (λ cell. cell.0 < n) R 0 n (λ p byte lt is. omega arith);
    bytes = cells_from-each (λ cell. cell.1 < 2 ^ 8) R 0 n (λ p byte lt is. reads-bytes p byte is);
  }

  -- the start
  abbrev own : State
  own = own_start e

  own-good : IsState own
  own-good = own-IsState e first.entry.shape listing

  own-byte : (p byte : ℕ) → p < n → R p ≡ Some byte → slice_index own.bytes p ≡ byte
  own-byte p byte lt is =
      bytes_after-rising 0 (replicate n 0) (cells_by a.shape R) p (cells_from-rise R 0 n) (omega (arith, lt, length-replicate {A = ℕ} n 0))
      ∙ ap (λ (o : Option ℕ). unwrap_or o (slice_index (replicate n 0) p)) (byte_in-cells_from R 0 n p (omega arith) (omega arith) ∙ is)

  below : (cells : List (ℕ × ℕ)) → IsListing a.shape cells → (p byte : ℕ) → byte_in cells p ≡ Some byte → p < n
  below cells list = all_cells (λ cell. cell.0 < n) cells list.places

  -- a matches it
  own-matches : Matches a own
  own-matches = record {
    shape = refl;
    reads = each_cell (λ cell. slice_index own.bytes cell.0 ≡ cell.1) 0 a.reads (listing-rises a.shape a.reads first.entry.reads)
        (λ p byte is. own-byte p byte (below a.reads first.entry.reads p byte is) (read_first-is (byte_in a.writes p) (byte_in a.reads p) (byte_in b.reads p) byte is));
  }

  -- what a's steps lead to
  abbrev mid : State
  mid = put_entry a own

  mid-goes : plain a.steps own ≡ Went mid
  mid-goes = first.everywhere own own-good own-matches

  mid-good : IsState mid
  mid-good = (plain_steps_keep_states a.steps own mid own-good mid-goes).0

  mid-byte : (p : ℕ) → p < n → slice_index mid.bytes p ≡ unwrap_or (byte_in a.writes p) (slice_index own.bytes p)
  mid-byte p lt = bytes_after-rising 0 own.bytes a.writes p (listing-rises a.shape a.writes first.entry.writes) (omega (arith, lt, own-good.length))

  -- b's listings are of a's shape
  b-reads : IsListing a.shape b.reads
  b-reads = subst (λ shape. IsListing shape b.reads) (sym parts.0) second.entry.reads

  b-writes : IsListing a.shape b.writes
  b-writes = subst (λ shape. IsListing shape b.writes) (sym parts.0) second.entry.writes

  -- and b matches there
  mid-matches : Matches b mid
  mid-matches = record {
    shape = parts.0;
    reads = each_cell (λ cell. slice_index mid.bytes cell.0 ≡ cell.1) 0 b.reads (listing-rises a.shape b.reads b-reads) (λ p byte is.
        let lt = below b.reads b-reads p byte is in
        mid-byte p lt
        ∙ reads_second (byte_in a.writes p) (byte_in a.reads p) (byte_in b.reads p) (slice_index own.bytes p) byte
        (tested (λ cell. agrees (known_after a cell.0) cell.1) b.reads parts.1 p byte is) is (λ x. own-byte p x lt));
  }

  abbrev fin : State
  fin = put_entry b mid

  fin-goes : plain b.steps mid ≡ Went fin
  fin-goes = second.everywhere mid mid-good mid-matches

  fin-byte : (p : ℕ) → p < n → slice_index fin.bytes p ≡ unwrap_or (byte_in b.writes p) (slice_index mid.bytes p)
  fin-byte p lt = bytes_after-rising 0 mid.bytes b.writes p (listing-rises a.shape b.writes b-writes) (omega (arith, lt, mid-good.length))

  fin-good : IsState fin
  fin-good = (plain_steps_keep_states b.steps mid fin mid-good fin-goes).0

  whole : plain (a.steps + b.steps) own ≡ Went fin
  whole = plain_steps_join a.steps b.steps own mid mid-goes ∙ fin-goes

  -- ---- what each of them has at a place, by what its steps touch

  a-made : made a.steps own mid ≡ a
  a-made = made_again a first own mid own-good own-matches mid-goes

  b-made : made b.steps mid fin ≡ b
  b-made = made_again b second mid fin mid-good mid-matches fin-goes

  a-read : (p : ℕ) → p < n → byte_in a.reads p ≡ (if is_among p (first_reads a.steps own) then Some (slice_index own.bytes p) else None)
  a-read p lt = ap (λ (x : Entry). byte_in x.reads p) (sym a-made) ∙ byte_in-cells_among (first_reads a.steps own) own p (omega (arith, lt, own-good.length))

  a-write : (p : ℕ) → p < n → byte_in a.writes p ≡ (if is_among p (written_in a.steps own) then Some (slice_index mid.bytes p) else None)
  a-write p lt = ap (λ (x : Entry). byte_in x.writes p) (sym a-made) ∙ byte_in-cells_among (written_in a.steps own) mid p (omega (arith, lt, mid-good.length))

  b-read : (p : ℕ) → p < n → byte_in b.reads p ≡ (if is_among p (first_reads b.steps mid) then Some (slice_index mid.bytes p) else None)
  b-read p lt = ap (λ (x : Entry). byte_in x.reads p) (sym b-made) ∙ byte_in-cells_among (first_reads b.steps mid) mid p (omega (arith, lt, mid-good.length))

  b-write : (p : ℕ) → p < n → byte_in b.writes p ≡ (if is_among p (written_in b.steps mid) then Some (slice_index fin.bytes p) else None)
  b-write p lt = ap (λ (x : Entry). byte_in x.writes p) (sym b-made) ∙ byte_in-cells_among (written_in b.steps mid) fin p (omega (arith, lt, fin-good.length))

  reads-at : (p : ℕ) → p < n → R p ≡ (if is_among p (first_reads (a.steps + b.steps) own) then Some (slice_index own.bytes p) else None)
  reads-at p lt =
      let fa = is_among p (first_reads a.steps own) in
      let wa = is_among p (written_in a.steps own) in
      let fb = is_among p (first_reads b.steps mid) in
      let x = slice_index own.bytes p in
      let y = slice_index mid.bytes p in
      let ar = a-read p lt in
      let aw = a-write p lt in
      let br = b-read p lt in
      (λ i. if is_some (option_or (aw i) (ar i)) then ar i else br i) ∙ reads_both fa wa fb x y (kept_by wa (byte_in a.writes p) y y x aw (mid-byte p lt))
      ∙ ap (λ (c : Bool). if c then Some x else None) (sym (first_reads-both a.steps b.steps own mid mid-goes p))

  writes-at : (p : ℕ) → p < n → left_by_both a b p ≡ (if is_among p (written_in (a.steps + b.steps) own) then Some (slice_index fin.bytes p) else None)
  writes-at p lt =
      let wa = is_among p (written_in a.steps own) in
      let wb = is_among p (written_in b.steps mid) in
      let y = slice_index mid.bytes p in
      let z = slice_index fin.bytes p in
      let aw = a-write p lt in
      let bw = b-write p lt in
      (λ i. option_or (bw i) (aw i)) ∙ leaves_both wa wb y z (kept_by wb (byte_in b.writes p) z z y bw (fin-byte p lt))
      ∙ ap (λ (c : Bool). if c then Some z else None) (sym (written_in-both a.steps b.steps own mid mid-goes p))

  reads-same : cells_by a.shape R ≡ cells_among (first_reads (a.steps + b.steps) own) own
  reads-same =
      let test : ℕ → Bool = λ p. is_among p (first_reads (a.steps + b.steps) own) in
      cells_from-filter own.bytes test R 0 n (λ p least most. reads-at p (omega (arith, most)))
      ∙ ap (λ (k : ℕ). map (λ p. (p, slice_index own.bytes p)) (filter test (places_from 0 k))) (sym own-good.length)

  writes-same : cells_by a.shape (left_by_both a b) ≡ cells_among (written_in (a.steps + b.steps) own) fin
  writes-same =
      let test : ℕ → Bool = λ p. is_among p (written_in (a.steps + b.steps) own) in
      cells_from-filter fin.bytes test (left_by_both a b) 0 n (λ p least most. writes-at p (omega (arith, most)))
      ∙ ap (λ (k : ℕ). map (λ p. (p, slice_index fin.bytes p)) (filter test (places_from 0 k))) (sym fin-good.length)

  own_entry : entry_of (a.steps + b.steps) own ≡ Some e
  own_entry =
      let reads = sym reads-same in
      let writes = sym writes-same in
      entry_of-is (a.steps + b.steps) own (Went fin) whole ∙ λ i. Some (record { shape = a.shape; reads = reads i; writes = writes i; steps = a.steps + b.steps })

  pub join_true : IsTrueEntry e
  join_true = entries_are_true (a.steps + b.steps) own e own-good (omega (arith, first.entry.steps)) own_entry

-- what the definition comes to
pub join_of-is : (a b : Entry) → join_of a b ≡ (if can_join a b then Some (joined a b) else None)
unfolding join_of
join_of-is a b = refl

-- there is one where one entry may follow another
pub can-some : (a b : Entry) → can_join a b ≡ true → is_some (join_of a b) ≡ true
can-some a b can = ap is_some (join_of-is a b ∙ cond-true (can_join a b) (Some (joined a b)) None can)

by_can : (a b e : Entry) (can : Bool) → can_join a b ≡ can → (if can then Some (joined a b) else None) ≡ Some e → IsTrueEntry a → IsTrueEntry b → IsTrueEntry e
by_can a b e true can h first second =
    let some : Some (joined a b) ≡ Some e = h in
    let same : joined a b ≡ e = cc in
    subst IsTrueEntry same (join_true a b first second can)
by_can a b e false can h first second = let none : None ≡ Some e = h in absurd (cc)

pub joins_are_true : JoinsAreTrue
joins_are_true a b e first second h = by_can a b e (can_join a b) refl (sym (join_of-is a b) ∙ h) first second
