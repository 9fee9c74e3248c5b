-- Laws of settled words: what is touched or written stays so, and a word that is only read after puts is the one that was.
use Rattle.std.proofs.Common.{◌≡◌, ℕ, ◌+◌, ◌*◌, ◌^◌, ◌<◌, ◌≤◌, Bool, true, false, List, Some, [], ◌∷◌, ◌++◌, length, map, refl, sym, ap, subst, ◌∙◌, inl, inr, slice_index, slice_set, arith, if◌then◌else◌}
use Rattle.std.specs.Prelude.{All}
use Rattle.std.proofs.lemmas.Bool.{cases_eq, cases_lt, false≢true}
use Rattle.std.proofs.lemmas.List.{get_or-set_same, get_or-set_other, set_past, set-get_or, length-set}
use Rattle.std.proofs.lemmas.List.Elements.{All-head, All-tail}
use Rattle.std.proofs.lemmas.List.Sums.{sum_by-append}
use Rattle.asc_model.specs.declared.status.Status.{Status}
use Rattle.asc_model.specs.declared.status.Status.TheVariants.{Untouched, Read, Written, ReadWritten}
use Rattle.asc_model.specs.declared.instruction.Instr.{Instr}
use Rattle.asc_model.specs.Number.{word_at}
use Rattle.asc_model.specs.Shape.{Shape}
use Rattle.asc_model.specs.State.{State}
use Rattle.asc_model.specs.Instruction.{decode, rd_of, rs1_of, rs2_of}
use Rattle.asc_model.specs.Places.{places_from, register_places}
use Rattle.asc_model.proofs.Numbers.{number_at-suc}
use Rattle.asc_shape.specs.Face.{Face, Marks, Untold, Told, FitPlaces, status_at, is_untouched, status_after_read, status_after_write, marks_after, face_after_read, face_after_put, face_after_reads, face_after_puts, untouched_count}
use Rattle.asc_shape.specs.Settled.{is_unwritten, is_only_read, unwritten_count, is_read_at, IsReadWord, IsSettled}
use Rattle.asc_shape.proofs.Faces.{count_by-le-count_by, untouched_count-cons, untouched_count-read-le, untouched_count-put-le, state-reads, state-puts}

-- ---- one place

-- one place counts as its status says
pub untouched_count-one : (cap : ℕ) (statuses : List Status) (touched : List (ℕ × ℕ)) (place : ℕ) → untouched_count (Told cap statuses touched) (place ∷ []) ≡ (if is_untouched (status_at statuses place) then 1 else 0)
unfolding untouched_count
untouched_count-one cap statuses touched place = grind arith

pub unwritten_count-one : (cap : ℕ) (statuses : List Status) (touched : List (ℕ × ℕ)) (place : ℕ) → unwritten_count (Told cap statuses touched) (place ∷ []) ≡ (if is_unwritten (status_at statuses place) then 1 else 0)
unfolding unwritten_count
unwritten_count-one cap statuses touched place = grind arith

not_counted : (b : Bool) (count : ℕ) → count ≡ (if b then 1 else 0) → count ≡ 0 → b ≡ false
not_counted true count e none = absurd (omega arith)
not_counted false count e none = refl

pub place_touched : (cap : ℕ) (statuses : List Status) (touched : List (ℕ × ℕ)) (place : ℕ) → untouched_count (Told cap statuses touched) (place ∷ []) ≡ 0
    → is_untouched (status_at statuses place) ≡ false
place_touched cap statuses touched place none = not_counted _ _ (untouched_count-one cap statuses touched place) none

pub place_written : (cap : ℕ) (statuses : List Status) (touched : List (ℕ × ℕ)) (place : ℕ) → unwritten_count (Told cap statuses touched) (place ∷ []) ≡ 0
    → is_unwritten (status_at statuses place) ≡ false
place_written cap statuses touched place none = not_counted _ _ (unwritten_count-one cap statuses touched place) none

-- the unwritten places of a list by its first place
pub unwritten_count-cons : (marks : Marks) (place : ℕ) (places : List ℕ) → unwritten_count marks (place ∷ places) ≡ unwritten_count marks (place ∷ []) + unwritten_count marks places
unfolding unwritten_count
unwritten_count-cons Untold place places = refl
unwritten_count-cons (Told cap statuses touched) place places = sum_by-append _ (place ∷ []) places

pub unwritten_count-append : (marks : Marks) (a b : List ℕ) → unwritten_count marks (a ++ b) ≡ unwritten_count marks a + unwritten_count marks b
unfolding unwritten_count
unwritten_count-append Untold a b = refl
unwritten_count-append (Told cap statuses touched) a b = sum_by-append _ a b

-- ---- touches of touched and of written places

after_read_touched : (s : Status) → is_untouched s ≡ false → status_after_read s ≡ s
after_read_touched Untouched e = absurd (false≢true (sym e))
after_read_touched Read e = refl
after_read_touched Written e = refl
after_read_touched ReadWritten e = refl

written_is_touched : (s : Status) → is_unwritten s ≡ false → is_untouched s ≡ false
written_is_touched Untouched e = absurd (false≢true (sym e))
written_is_touched Read e = absurd (false≢true (sym e))
written_is_touched Written e = refl
written_is_touched ReadWritten e = refl

-- a touch of a touched place that leaves its status changes no mark
marks_stay : (after_change : Status → Status) (cap : ℕ) (statuses : List Status) (touched : List (ℕ × ℕ)) (place byte : ℕ) → is_untouched (status_at statuses place) ≡ false
    → after_change (status_at statuses place) ≡ status_at statuses place → marks_after after_change (Told cap statuses touched) place byte ≡ Told cap statuses touched
marks_stay after_change cap statuses touched place byte known same =
    ap (λ (b : Bool). Told cap (slice_set statuses place (after_change (status_at statuses place))) (if b then touched ++ (place, byte) ∷ [] else touched)) known
    ∙ ap (λ (s : Status). Told cap (slice_set statuses place s) touched) same
    ∙ ap (λ (list : List Status). Told cap list touched) (set-get_or statuses place Untouched)

marks_read : (marks : Marks) (place byte : ℕ) → untouched_count marks (place ∷ []) ≡ 0 → marks_after status_after_read marks place byte ≡ marks
marks_read Untold place byte none = refl
marks_read (Told cap statuses touched) place byte none =
    let known = place_touched cap statuses touched place none in
    marks_stay status_after_read cap statuses touched place byte known (after_read_touched (status_at statuses place) known)

-- a read of a touched place changes nothing
pub read_touched : (f : Face) (place : ℕ) → untouched_count f.marks (place ∷ []) ≡ 0 → face_after_read f place ≡ f
unfolding face_after_read
read_touched f place none =
    ap (λ (m : Marks). let g : Face = record { state = f.state; marks = m } in g) (marks_read f.marks place (slice_index f.state.bytes place) none)

-- reads of touched places change nothing
pub reads_touched : (f : Face) (places : List ℕ) → untouched_count f.marks places ≡ 0 → face_after_reads f places ≡ f
unfolding face_after_reads
reads_touched f [] none = refl
reads_touched f (place ∷ places) none =
    let parts = untouched_count-cons f.marks place places in
    ap (λ (g : Face). face_after_reads g places) (read_touched f place (omega arith)) ∙ reads_touched f places (omega arith)

-- ---- what is touched or written stays so

-- what is not written beside a written place was so before
unwritten-set : (after_change : Status → Status) → ((s : Status) → is_unwritten (after_change s) ≡ true → is_unwritten s ≡ true) → (statuses : List Status) (place k : ℕ)
    → is_unwritten (status_at (slice_set statuses place (after_change (status_at statuses place))) k) ≡ true → is_unwritten (status_at statuses k) ≡ true
unwritten-set after_change keeps statuses place k e =
    let status = after_change (status_at statuses place) in
    elim (cases_eq k place) [
      | inl same ↦ elim (cases_lt place (length statuses)) [
        | inl within ↦ let here = get_or-set_same statuses place status Untouched within in
            ap (λ j. is_unwritten (status_at statuses j)) same
            ∙ keeps (status_at statuses place) (ap is_unwritten (sym here) ∙ ap (λ j. is_unwritten (status_at (slice_set statuses place status) j)) (sym same) ∙ e)
        | inr past ↦ ap (λ (list : List Status). is_unwritten (status_at list k)) (sym (set_past statuses place status past)) ∙ e
      ]
      | inr other ↦ ap is_unwritten (sym (get_or-set_other statuses place k status Untouched other)) ∙ e
    ]

unwritten-read : (s : Status) → is_unwritten (status_after_read s) ≡ true → is_unwritten s ≡ true
unwritten-read Untouched e = refl
unwritten-read Read e = refl
unwritten-read Written e = e
unwritten-read ReadWritten e = e

unwritten-write : (s : Status) → is_unwritten (status_after_write s) ≡ true → is_unwritten s ≡ true
unwritten-write Untouched e = refl
unwritten-write Read e = refl
unwritten-write Written e = e
unwritten-write ReadWritten e = e

unwritten_count-marks_after-le : (after_change : Status → Status) → ((s : Status) → is_unwritten (after_change s) ≡ true → is_unwritten s ≡ true) → (marks : Marks) (place byte : ℕ) (places : List ℕ)
    → unwritten_count (marks_after after_change marks place byte) places ≤ unwritten_count marks places
unfolding unwritten_count
unwritten_count-marks_after-le after_change keeps Untold place byte places = omega arith
unwritten_count-marks_after-le after_change keeps (Told cap statuses touched) place byte places =
    count_by-le-count_by _ _ (λ k. unwritten-set after_change keeps statuses place k) places

unwritten_count-read-le : (f : Face) (place : ℕ) (places : List ℕ) → unwritten_count (face_after_read f place).marks places ≤ unwritten_count f.marks places
unfolding face_after_read
unwritten_count-read-le f place places = unwritten_count-marks_after-le status_after_read unwritten-read f.marks place _ places

unwritten_count-put-le : (f : Face) (place byte : ℕ) (places : List ℕ) → unwritten_count (face_after_put f place byte).marks places ≤ unwritten_count f.marks places
unfolding face_after_put
unwritten_count-put-le f place byte places = unwritten_count-marks_after-le status_after_write unwritten-write f.marks place _ places

pub untouched_count-reads-le : (f : Face) (list places : List ℕ) → untouched_count (face_after_reads f list).marks places ≤ untouched_count f.marks places
unfolding face_after_reads
untouched_count-reads-le f [] places = omega arith
untouched_count-reads-le f (place ∷ list) places = omega (arith, untouched_count-reads-le (face_after_read f place) list places, untouched_count-read-le f place places)

pub untouched_count-puts-le : (f : Face) (list : List (ℕ × ℕ)) (places : List ℕ) → untouched_count (face_after_puts f list).marks places ≤ untouched_count f.marks places
unfolding face_after_puts
untouched_count-puts-le f [] places = omega arith
untouched_count-puts-le f (cell ∷ list) places = omega (arith, untouched_count-puts-le (face_after_put f cell.0 cell.1) list places, untouched_count-put-le f cell.0 cell.1 places)

pub unwritten_count-reads-le : (f : Face) (list places : List ℕ) → unwritten_count (face_after_reads f list).marks places ≤ unwritten_count f.marks places
unfolding face_after_reads
unwritten_count-reads-le f [] places = omega arith
unwritten_count-reads-le f (place ∷ list) places = omega (arith, unwritten_count-reads-le (face_after_read f place) list places, unwritten_count-read-le f place places)

pub unwritten_count-puts-le : (f : Face) (list : List (ℕ × ℕ)) (places : List ℕ) → unwritten_count (face_after_puts f list).marks places ≤ unwritten_count f.marks places
unfolding face_after_puts
unwritten_count-puts-le f [] places = omega arith
unwritten_count-puts-le f (cell ∷ list) places = omega (arith, unwritten_count-puts-le (face_after_put f cell.0 cell.1) list places, unwritten_count-put-le f cell.0 cell.1 places)

-- ---- written places are touched

untouched_count-nil : (marks : Marks) → untouched_count marks [] ≡ 0
unfolding untouched_count
untouched_count-nil Untold = refl
untouched_count-nil (Told cap statuses touched) = refl

pub unwritten_count-nil : (marks : Marks) → unwritten_count marks [] ≡ 0
unfolding unwritten_count
unwritten_count-nil Untold = refl
unwritten_count-nil (Told cap statuses touched) = refl

place_both : (marks : Marks) (place : ℕ) → unwritten_count marks (place ∷ []) ≡ 0 → untouched_count marks (place ∷ []) ≡ 0
unfolding untouched_count
place_both Untold place none = refl
place_both (Told cap statuses touched) place none =
    untouched_count-one cap statuses touched place
    ∙ ap (λ (b : Bool). if b then 1 else 0) (written_is_touched (status_at statuses place) (place_written cap statuses touched place none))

pub written_touched : (marks : Marks) (places : List ℕ) → unwritten_count marks places ≡ 0 → untouched_count marks places ≡ 0
written_touched marks [] none = untouched_count-nil marks
written_touched marks (place ∷ places) none =
    let parts = unwritten_count-cons marks place places in
    omega (
      arith,
      untouched_count-cons marks place places,
      place_both marks place (omega (arith, parts, none)),
      written_touched marks places (omega (arith, parts, none)),
    )

-- ---- what was read is touched, and what was put is written

-- marks have a status for each of so many places, where they are told
abbrev pub HaveStatuses : ℕ → Marks → Type 0
HaveStatuses places Untold = Unit {0}
HaveStatuses places (Told cap statuses touched) = length statuses ≡ places

pub have_statuses : (places : ℕ) (marks : Marks) → FitPlaces places marks → HaveStatuses places marks
have_statuses places Untold fit = tt
have_statuses places (Told cap statuses touched) fit = fit.0

statuses-marks_after : (after_change : Status → Status) (places : ℕ) (marks : Marks) (place byte : ℕ) → HaveStatuses places marks → HaveStatuses places (marks_after after_change marks place byte)
statuses-marks_after after_change places Untold place byte have = tt
statuses-marks_after after_change places (Told cap statuses touched) place byte have = length-set statuses place _ ∙ have

pub statuses-read : (places : ℕ) (f : Face) (place : ℕ) → HaveStatuses places f.marks → HaveStatuses places (face_after_read f place).marks
unfolding face_after_read
statuses-read places f place have = statuses-marks_after status_after_read places f.marks place _ have

pub statuses-put : (places : ℕ) (f : Face) (place byte : ℕ) → HaveStatuses places f.marks → HaveStatuses places (face_after_put f place byte).marks
unfolding face_after_put
statuses-put places f place byte have = statuses-marks_after status_after_write places f.marks place _ have

pub statuses-reads : (places : ℕ) (f : Face) (list : List ℕ) → HaveStatuses places f.marks → HaveStatuses places (face_after_reads f list).marks
unfolding face_after_reads
statuses-reads places f [] have = have
statuses-reads places f (place ∷ list) have = statuses-reads places (face_after_read f place) list (statuses-read places f place have)

touched_after_read : (s : Status) → is_untouched (status_after_read s) ≡ false
touched_after_read Untouched = refl
touched_after_read Read = refl
touched_after_read Written = refl
touched_after_read ReadWritten = refl

written_after_write : (s : Status) → is_unwritten (status_after_write s) ≡ false
written_after_write Untouched = refl
written_after_write Read = refl
written_after_write Written = refl
written_after_write ReadWritten = refl

one_or_none : (count : ℕ) (b : Bool) → count ≡ (if b then 1 else 0) → b ≡ false → count ≡ 0
one_or_none count true e apart = absurd (false≢true (sym apart))
one_or_none count false e apart = e

touched-marks_after : (places : ℕ) (marks : Marks) (place byte : ℕ) → HaveStatuses places marks → place < places → untouched_count (marks_after status_after_read marks place byte) (place ∷ []) ≡ 0
unfolding untouched_count
touched-marks_after places Untold place byte have within = refl
touched-marks_after places (Told cap statuses touched) place byte have within =
    one_or_none _ _ (untouched_count-one cap (slice_set statuses place (status_after_read (status_at statuses place))) touched place)
    (ap is_untouched (get_or-set_same statuses place (status_after_read (status_at statuses place)) Untouched (omega arith)) ∙ touched_after_read (status_at statuses place))

written-marks_after : (places : ℕ) (marks : Marks) (place byte : ℕ) → HaveStatuses places marks → place < places → unwritten_count (marks_after status_after_write marks place byte) (place ∷ []) ≡ 0
unfolding unwritten_count
written-marks_after places Untold place byte have within = refl
written-marks_after places (Told cap statuses touched) place byte have within =
    one_or_none _ _ (unwritten_count-one cap (slice_set statuses place (status_after_write (status_at statuses place))) touched place)
    (ap is_unwritten (get_or-set_same statuses place (status_after_write (status_at statuses place)) Untouched (omega arith)) ∙ written_after_write (status_at statuses place))

pub touched-read : (places : ℕ) (f : Face) (place : ℕ) → HaveStatuses places f.marks → place < places → untouched_count (face_after_read f place).marks (place ∷ []) ≡ 0
unfolding face_after_read
touched-read places f place have within = touched-marks_after places f.marks place _ have within

pub written-put : (places : ℕ) (f : Face) (place byte : ℕ) → HaveStatuses places f.marks → place < places → unwritten_count (face_after_put f place byte).marks (place ∷ []) ≡ 0
unfolding face_after_put
written-put places f place byte have within = written-marks_after places f.marks place _ have within

-- places that were read are touched
pub touched-reads : (places : ℕ) (f : Face) (list : List ℕ) → HaveStatuses places f.marks → All (λ place. place < places) list → untouched_count (face_after_reads f list).marks list ≡ 0
unfolding face_after_reads
touched-reads places f [] have within = untouched_count-nil f.marks
touched-reads places f (place ∷ list) have within =
    let P = λ (p : ℕ). p < places in
    let after = face_after_read f place in
    omega (
      arith,
      touched-read places f place have (All-head P place list within),
      untouched_count-reads-le after list (place ∷ []),
      untouched_count-cons (face_after_reads after list).marks place list,
      touched-reads places after list (statuses-read places f place have) (All-tail P place list within),
    )

-- places that were put are written
pub written-puts : (places : ℕ) (f : Face) (list : List (ℕ × ℕ)) → HaveStatuses places f.marks → All (λ place. place < places) (map (λ cell. cell.0) list)
    → unwritten_count (face_after_puts f list).marks (map (λ cell. cell.0) list) ≡ 0
unfolding face_after_puts
written-puts places f [] have within = unwritten_count-nil f.marks
written-puts places f (cell ∷ list) have within =
    let P = λ (p : ℕ). p < places in
    let rest = map (λ c. c.0) list in
    let after = face_after_put f cell.0 cell.1 in
    omega (
      arith,
      written-put places f cell.0 cell.1 have (All-head P cell.0 rest within),
      unwritten_count-puts-le after list (cell.0 ∷ []),
      unwritten_count-cons (face_after_puts after list).marks cell.0 rest,
      written-puts places after list (statuses-put places f cell.0 cell.1 have) (All-tail P cell.0 rest within),
    )

-- ---- a place that is only read after puts was not put

not_read_after_write : (s : Status) → is_only_read (status_after_write s) ≡ true → ⊥
not_read_after_write Untouched e = false≢true e
not_read_after_write Read e = false≢true e
not_read_after_write Written e = false≢true e
not_read_after_write ReadWritten e = false≢true e

-- one put: the place was only read before, and keeps its byte
marks-read_before : (marks : Marks) (place byte k : ℕ) → is_read_at (marks_after status_after_write marks place byte) k ≡ true → is_read_at marks k ≡ true
marks-read_before Untold place byte k e = e
marks-read_before (Told cap statuses touched) place byte k e =
    let status = status_after_write (status_at statuses place) in
    elim (cases_eq k place) [
      | inl same ↦ elim (cases_lt place (length statuses)) [
        | inl within ↦ absurd (not_read_after_write (status_at statuses place)
            (ap is_only_read (sym (get_or-set_same statuses place status Untouched within)) ∙ ap (λ j. is_only_read (status_at (slice_set statuses place status) j)) (sym same) ∙ e))
        | inr past ↦ ap (λ (list : List Status). is_only_read (status_at list k)) (sym (set_past statuses place status past)) ∙ e
      ]
      | inr other ↦ ap is_only_read (sym (get_or-set_other statuses place k status Untouched other)) ∙ e
    ]

byte-read_after : (marks : Marks) (bytes : List ℕ) (place byte was k : ℕ) → HaveStatuses (length bytes) marks → is_read_at (marks_after status_after_write marks place was) k ≡ true
    → slice_index (slice_set bytes place byte) k ≡ slice_index bytes k
byte-read_after Untold bytes place byte was k have e = absurd (false≢true e)
byte-read_after (Told cap statuses touched) bytes place byte was k have e =
    let status = status_after_write (status_at statuses place) in
    elim (cases_eq k place) [
      | inl same ↦ elim (cases_lt place (length statuses)) [
        | inl within ↦ absurd (not_read_after_write (status_at statuses place)
            (ap is_only_read (sym (get_or-set_same statuses place status Untouched within)) ∙ ap (λ j. is_only_read (status_at (slice_set statuses place status) j)) (sym same) ∙ e))
        | inr past ↦ ap (λ (list : List ℕ). slice_index list k) (set_past bytes place byte (omega arith))
      ]
      | inr other ↦ get_or-set_other bytes place k byte 0 other
    ]

read_before_put : (f : Face) (place byte k : ℕ) → is_read_at (face_after_put f place byte).marks k ≡ true → is_read_at f.marks k ≡ true
unfolding face_after_put
read_before_put f place byte k e = marks-read_before f.marks place _ k e

byte_before_put : (f : Face) (place byte k : ℕ) → HaveStatuses (length f.state.bytes) f.marks → is_read_at (face_after_put f place byte).marks k ≡ true
    → slice_index (face_after_put f place byte).state.bytes k ≡ slice_index f.state.bytes k
unfolding face_after_put
byte_before_put f place byte k have e = byte-read_after f.marks f.state.bytes place byte _ k have e

length_put : (f : Face) (place byte : ℕ) → length (face_after_put f place byte).state.bytes ≡ length f.state.bytes
unfolding face_after_put
length_put f place byte = length-set f.state.bytes place byte

pub read_before_puts : (f : Face) (list : List (ℕ × ℕ)) (k : ℕ) → is_read_at (face_after_puts f list).marks k ≡ true → is_read_at f.marks k ≡ true
unfolding face_after_puts
read_before_puts f [] k e = e
read_before_puts f (cell ∷ list) k e = read_before_put f cell.0 cell.1 k (read_before_puts (face_after_put f cell.0 cell.1) list k e)

pub byte_before_puts : (f : Face) (list : List (ℕ × ℕ)) (k : ℕ) → HaveStatuses (length f.state.bytes) f.marks → is_read_at (face_after_puts f list).marks k ≡ true
    → slice_index (face_after_puts f list).state.bytes k ≡ slice_index f.state.bytes k
unfolding face_after_puts
byte_before_puts f [] k have e = refl
byte_before_puts f (cell ∷ list) k have e =
    let after = face_after_put f cell.0 cell.1 in
    let kept : HaveStatuses (length after.state.bytes) after.marks = subst (λ n. HaveStatuses n after.marks) (sym (length_put f cell.0 cell.1)) (statuses-put _ f cell.0 cell.1 have) in
    byte_before_puts after list k kept e ∙ byte_before_put f cell.0 cell.1 k have (read_before_puts after list k e)

-- words of equal bytes
pub word_at-same : (a b : List ℕ) (place : ℕ) → ((k : ℕ) → place ≤ k → k < place + 4 → slice_index a k ≡ slice_index b k) → word_at a place ≡ word_at b place
word_at-same a b place same =
    let e0 = same place (omega arith) (omega arith) in
    let e1 = same (place + 1) (omega arith) (omega arith) in
    let e2 = same (place + 1 + 1) (omega arith) (omega arith) in
    let e3 = same (place + 1 + 1 + 1) (omega arith) (omega arith) in
    spelled a place
    ∙ ap (λ n. n + 2 ^ 8 * (slice_index a (place + 1) + 2 ^ 8 * (slice_index a (place + 1 + 1) + 2 ^ 8 * (slice_index a (place + 1 + 1 + 1) + 2 ^ 8 * 0)))) e0
    ∙ ap (λ n. slice_index b place + 2 ^ 8 * (n + 2 ^ 8 * (slice_index a (place + 1 + 1) + 2 ^ 8 * (slice_index a (place + 1 + 1 + 1) + 2 ^ 8 * 0)))) e1
    ∙ ap (λ n. slice_index b place + 2 ^ 8 * (slice_index b (place + 1) + 2 ^ 8 * (n + 2 ^ 8 * (slice_index a (place + 1 + 1 + 1) + 2 ^ 8 * 0)))) e2
    ∙ ap (λ n. slice_index b place + 2 ^ 8 * (slice_index b (place + 1) + 2 ^ 8 * (slice_index b (place + 1 + 1) + 2 ^ 8 * (n + 2 ^ 8 * 0)))) e3
    ∙ sym (spelled b place)
  where
    spelled : (bytes : List ℕ) (place : ℕ) → word_at bytes place
        ≡ slice_index bytes place + 2 ^ 8 * (slice_index bytes (place + 1) + 2 ^ 8 * (slice_index bytes (place + 1 + 1) + 2 ^ 8 * (slice_index bytes (place + 1 + 1 + 1) + 2 ^ 8 * 0)))
    spelled bytes place =
        number_at-suc 3 bytes place
        ∙ ap (λ n. slice_index bytes place + 2 ^ 8 * n) (number_at-suc 2 bytes (place + 1)
        ∙ ap (λ n. slice_index bytes (place + 1) + 2 ^ 8 * n) (number_at-suc 1 bytes (place + 1 + 1)
        ∙ ap (λ n. slice_index bytes (place + 1 + 1) + 2 ^ 8 * n) (number_at-suc 0 bytes (place + 1 + 1 + 1))))

-- a word that is only read after puts is the one that was
pub word_before_puts : (f : Face) (list : List (ℕ × ℕ)) (place : ℕ) → HaveStatuses (length f.state.bytes) f.marks → IsReadWord (face_after_puts f list).marks place
    → word_at (face_after_puts f list).state.bytes place ≡ word_at f.state.bytes place
word_before_puts f list place have read = word_at-same _ _ place (λ k least most. byte_before_puts f list k have (read k least most))

-- ---- settled words stay so

-- while nothing becomes untouched or unwritten, and the word stays
pub settled_stays : (f g : Face) (place : ℕ) → ((places : List ℕ) → untouched_count g.marks places ≤ untouched_count f.marks places)
    → ((places : List ℕ) → unwritten_count g.marks places ≤ unwritten_count f.marks places)
    → g.state.shape ≡ f.state.shape → word_at g.state.bytes place ≡ word_at f.state.bytes place → IsSettled f place → IsSettled g place
settled_stays f g place touched written shape word settled =
    let before : (i : Instr) → decode g.state.shape.version (word_at g.state.bytes place) ≡ Some i → decode f.state.shape.version (word_at f.state.bytes place) ≡ Some i =
    λ i e. sym (ap (λ (s : Shape). decode s.version (word_at g.state.bytes place)) shape ∙ ap (decode f.state.shape.version) word) ∙ e in
    record {
      pc = omega (arith, written (places_from 0 4), settled.pc);
      word = omega (arith, touched (places_from place 4), settled.word);
      registers = λ i e. let were = settled.registers i (before i e) in record {
        first = omega (arith, touched (register_places (rs1_of i)), were.first);
        second = omega (arith, touched (register_places (rs2_of i)), were.second);
        destination = omega (arith, written (register_places (rd_of i)), were.destination);
      };
    }

-- reads leave it settled
pub settled-reads : (f : Face) (list : List ℕ) (place : ℕ) → IsSettled f place → IsSettled (face_after_reads f list) place
settled-reads f list place settled =
    settled_stays f (face_after_reads f list) place (untouched_count-reads-le f list) (unwritten_count-reads-le f list)
    (ap (λ (s : State). s.shape) (state-reads f list)) (ap (λ (s : State). word_at s.bytes place) (state-reads f list)) settled

-- puts leave it settled where it is only read after them
pub settled-puts : (f : Face) (list : List (ℕ × ℕ)) (place : ℕ) → HaveStatuses (length f.state.bytes) f.marks → IsReadWord (face_after_puts f list).marks place
    → IsSettled f place → IsSettled (face_after_puts f list) place
settled-puts f list place have read settled =
    settled_stays f (face_after_puts f list) place (untouched_count-puts-le f list) (unwritten_count-puts-le f list)
    (ap (λ (s : State). s.shape) (state-puts f list)) (word_before_puts f list place have read) settled
