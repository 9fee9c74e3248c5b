-- Words whose places are all touched, of which a read changes nothing, and words whose places were all written, at which
-- a put changes no mark.
use Rattle.std.proofs.Common.{◌≡◌, ℕ, ◌+◌, ◌*◌, ◌%◌, ◌^◌, ◌<◌, ◌≤◌, suc, zero, false, List, [], ◌∷◌, length, map, refl, ap, ◌∙◌, slice_index, slice_set, bit_and, arith}
use Rattle.std.specs.Prelude.{All}
use Rattle.std.proofs.lemmas.List.{get_or-map, set-get_or}
use Rattle.std.proofs.lemmas.List.Elements.{All-cons, All-nil}
use Rattle.std.proofs.lemmas.Nat.{and_block, and_mask}
use Rattle.asc_model.specs.declared.status.Status.{Status}
use Rattle.asc_model.specs.declared.status.Status.TheVariants.{Untouched, Read}
use Rattle.asc_model.specs.Number.{AreBytes, word_at}
use Rattle.asc_model.specs.State.{State}
use Rattle.asc_model.specs.Places.{bytes_after, places_from}
use Rattle.asc_model.proofs.Numbers.{number_at-suc}
use Rattle.asc_shape.specs.Face.{Told, status_at, is_untouched, status_after_write, face_after_put, face_after_puts, untouched_count}
use Rattle.asc_shape.proofs.Faces.{untouched_count-cons}
use Rattle.asc_shape.proofs.Settled.{place_touched, untouched_count-one}
use Rattle.asc_depvec.specs.Tracer.{HaveStatus}
use Rattle.asc_depvec.specs.Inside.{AreWritten, HaveMark, status_of, statuses_of}
use Rattle.asc_depvec.proofs.Rows.{told}

-- ---- the marks of a word, at once

-- one byte more of a word and of a mask
split : (x y m n : ℕ) → x < 2 ^ 8 → m < 2 ^ 8 → bit_and (x + 2 ^ 8 * y) (m + 2 ^ 8 * n) ≡ bit_and x m + 2 ^ 8 * bit_and y n
split x y m n lx lm =
    let swap : (a b : ℕ) → a + 2 ^ 8 * b ≡ b * 2 ^ 8 + a = λ a b. omega arith in
    rw (swap x y, swap m n) (omega (arith, and_block 8 y n x m lx lm))

-- what a mask leaves of four bytes it leaves of each
masked_word : (a b c d m : ℕ) → a < 2 ^ 8 → b < 2 ^ 8 → c < 2 ^ 8 → d < 2 ^ 8 → m < 2 ^ 8
    → bit_and (a + 2 ^ 8 * (b + 2 ^ 8 * (c + 2 ^ 8 * (d + 2 ^ 8 * 0)))) (m + 2 ^ 8 * (m + 2 ^ 8 * (m + 2 ^ 8 * (m + 2 ^ 8 * 0))))
    ≡ bit_and a m + 2 ^ 8 * (bit_and b m + 2 ^ 8 * (bit_and c m + 2 ^ 8 * bit_and d m))
masked_word a b c d m la lb lc ld lm =
    let first = split a (b + 2 ^ 8 * (c + 2 ^ 8 * (d + 2 ^ 8 * 0))) m (m + 2 ^ 8 * (m + 2 ^ 8 * (m + 2 ^ 8 * 0))) la lm in
    let second = split b (c + 2 ^ 8 * (d + 2 ^ 8 * 0)) m (m + 2 ^ 8 * (m + 2 ^ 8 * 0)) lb lm in
    let third = split c (d + 2 ^ 8 * 0) m (m + 2 ^ 8 * 0) lc lm in
    let fourth = split d 0 m 0 ld lm in
    let none : bit_and 0 0 ≡ 0 = refl in
    omega (arith, first, second, third, fourth, none)

-- a byte that is another than the mark of an untouched place
pub other_mark : (mark : ℕ) → (mark ≡ 3 → ⊥) → is_untouched (status_of mark) ≡ false
other_mark mark other = grind arith

-- a byte without bit 0 is not that mark
not_untouched : (mark : ℕ) → bit_and mark 1 ≡ 0 → is_untouched (status_of mark) ≡ false
not_untouched mark none = grind arith

-- a byte without bit 1 is the mark of a place that was written
written_mark : (mark : ℕ) → bit_and mark 2 ≡ 0 → (status_after_write (status_of mark) ≡ status_of mark) × (is_untouched (status_of mark) ≡ false)
written_mark mark none = grind arith

-- places one after another of which none counts as untouched
pub all_touched : (n : ℕ) (statuses : List Status) (place : ℕ) → untouched_count (Told 0 statuses []) (places_from place n) ≡ 0
    → (k : ℕ) → place ≤ k → k < place + n → is_untouched (status_at statuses k) ≡ false
all_touched zero statuses place none k least most = absurd (omega arith)
all_touched (suc n) statuses place none k least most =
    grind (arith, untouched_count-cons (Told 0 statuses []) place (places_from (place + 1) n), place_touched 0 statuses [] place, all_touched n statuses (place + 1))

none_touched : (n : ℕ) (statuses : List Status) (place : ℕ) → ((k : ℕ) → place ≤ k → k < place + n → is_untouched (status_at statuses k) ≡ false)
    → untouched_count (Told 0 statuses []) (places_from place n) ≡ 0
unfolding untouched_count
none_touched zero statuses place all = refl
none_touched (suc n) statuses place all =
    let here : untouched_count (Told 0 statuses []) (place ∷ []) ≡ 0 = untouched_count-one 0 statuses [] place ∙ rw (all place (omega arith) (omega arith)) in
    let rest = none_touched n statuses (place + 1) (λ k least most. all k (omega arith) (omega arith)) in
    omega (arith, here, rest, untouched_count-cons (Told 0 statuses []) place (places_from (place + 1) n))

-- the count of untouched places does not depend on the cap and the list of touched ones
pub count-list : (cap : ℕ) (statuses : List Status) (touched : List (ℕ × ℕ)) (places : List ℕ) → untouched_count (Told cap statuses touched) places ≡ untouched_count (Told 0 statuses []) places
unfolding untouched_count
count-list cap statuses touched places = refl

-- ---- puts

-- a place was written
abbrev pub IsWritten : List Status → ℕ → Type 0
IsWritten statuses place = (status_after_write (status_at statuses place) ≡ status_at statuses place) × (is_untouched (status_at statuses place) ≡ false)

pub written_one : (statuses : List Status) (place : ℕ) (status : Status) → status_at statuses place ≡ status → status_after_write status ≡ status → is_untouched status ≡ false
    → AreWritten statuses (place ∷ [])
written_one statuses place status is after touched = All-cons (IsWritten statuses) place [] (rw is (after, touched)) (All-nil (IsWritten statuses))

-- a put at a touched place lists nothing
put_touched : (state : State) (cap : ℕ) (statuses : List Status) (touched : List (ℕ × ℕ)) (place byte : ℕ) → is_untouched (status_at statuses place) ≡ false
    → face_after_put (told state cap statuses touched) place byte
    ≡ told (record state { bytes = slice_set state.bytes place byte }) cap (slice_set statuses place (status_after_write (status_at statuses place))) touched
unfolding face_after_put
put_touched state cap statuses touched place byte known = rw known

-- puts at places that were written change no mark
pub puts_written : (state : State) (cap : ℕ) (statuses : List Status) (touched list : List (ℕ × ℕ)) → AreWritten statuses (map (λ c. c.0) list)
    → face_after_puts (told state cap statuses touched) list ≡ told (record state { bytes = bytes_after state.bytes list }) cap statuses touched
unfolding face_after_puts
puts_written state cap statuses touched [] were = refl
puts_written state cap statuses touched (cell ∷ list) were =
    let first = were 0 0 (omega arith) in
    let later : State = record state { bytes = slice_set state.bytes cell.0 cell.1 } in
    rw (put_touched state cap statuses touched cell.0 cell.1 first.1, first.0, set-get_or statuses cell.0 Untouched)
    (puts_written later cap statuses touched list (λ k d lt. were (suc k) d (omega (arith, lt))))

-- ---- what a mask of the marks of a word tells

pub statuses_at : (marks : List ℕ) (place : ℕ) → place < length marks → status_at (statuses_of marks) place ≡ status_of (slice_index marks place)
statuses_at marks place within = get_or-map status_of marks place 0 Untouched within

-- a word by its bytes
word_at-bytes : (bytes : List ℕ) (place : ℕ) → word_at bytes place
    ≡ slice_index bytes place + 2 ^ 8 * (slice_index bytes (place + 1) + 2 ^ 8 * (slice_index bytes (place + 1 + 1) + 2 ^ 8 * (slice_index bytes (place + 1 + 1 + 1) + 2 ^ 8 * 0)))
word_at-bytes bytes place =
    rw (number_at-suc 3 bytes place, number_at-suc 2 bytes (place + 1), number_at-suc 1 bytes (place + 1 + 1), number_at-suc 0 bytes (place + 1 + 1 + 1))

-- what holds of four places holds of each of them
each_of_four : (P : ℕ → Type 0) (place k : ℕ) → P place × (P (place + 1) × (P (place + 1 + 1) × P (place + 1 + 1 + 1))) → place ≤ k → k < place + 4 → P k
each_of_four P place k four least most = grind arith

-- what holds of places one after another
All-row : (P : ℕ → Type 0) (n place : ℕ) → ((k : ℕ) → place ≤ k → k < place + n → P k) → All P (places_from place n)
All-row P zero place all = All-nil P
All-row P (suc n) place all =
    All-cons P place (places_from (place + 1) n) (all place (omega arith) (omega arith)) (All-row P n (place + 1) (λ k least most. all k (omega arith) (omega arith)))

-- what a mask leaves of the bytes of a word
masked_at : (bytes : List ℕ) (place m : ℕ) → AreBytes bytes → m < 2 ^ 8 → bit_and (word_at bytes place) (m + 2 ^ 8 * (m + 2 ^ 8 * (m + 2 ^ 8 * (m + 2 ^ 8 * 0))))
    ≡ bit_and (slice_index bytes place) m + 2 ^ 8 * (bit_and (slice_index bytes (place + 1)) m
    + 2 ^ 8 * (bit_and (slice_index bytes (place + 1 + 1)) m + 2 ^ 8 * bit_and (slice_index bytes (place + 1 + 1 + 1)) m))
masked_at bytes place m low lm =
    rw (word_at-bytes bytes place) (masked_word _ _ _ _ m (low place) (low (place + 1)) (low (place + 1 + 1)) (low (place + 1 + 1 + 1)) lm)

-- a mask that finds nothing in a word finds nothing in each of its bytes
none_in : (marks : List ℕ) (place m : ℕ) → AreBytes marks → m < 2 ^ 8 → bit_and (word_at marks place) (m + 2 ^ 8 * (m + 2 ^ 8 * (m + 2 ^ 8 * (m + 2 ^ 8 * 0)))) ≡ 0
    → (k : ℕ) → place ≤ k → k < place + 4 → bit_and (slice_index marks k) m ≡ 0
none_in marks place m low lm none k = each_of_four (λ i. bit_and (slice_index marks i) m ≡ 0) place k (omega (arith, masked_at marks place m low lm, none))

pub none_of_word : (marks : List ℕ) (place : ℕ) → AreBytes marks → place + 4 ≤ length marks → bit_and (word_at marks place) 16843009 ≡ 0
    → untouched_count (Told 0 (statuses_of marks) []) (places_from place 4) ≡ 0
none_of_word marks place bytes within none =
    none_touched 4 (statuses_of marks) place (λ k least most.
    rw (statuses_at marks k (omega arith)) (not_untouched (slice_index marks k) (none_in marks place 1 bytes (omega arith) none k least most)))

pub all_of_word : (marks : List ℕ) (place : ℕ) → AreBytes marks → place + 4 ≤ length marks → bit_and (word_at marks place) 33686018 ≡ 0
    → AreWritten (statuses_of marks) (places_from place 4)
all_of_word marks place bytes within none =
    All-row (IsWritten (statuses_of marks)) 4 place (λ k least most. rw (statuses_at marks k (omega arith)) (written_mark (slice_index marks k) (none_in marks place 2 bytes (omega arith) none k least most)))

pub mark_of_word : (marks : List ℕ) (place mark : ℕ) → AreBytes marks → mark < 2 ^ 8 → place + 4 ≤ length marks
    → word_at marks place ≡ mark + mark * 256 + mark * 65536 + mark * 16777216 → HaveMark marks mark place
mark_of_word marks place mark low byte within is k =
    each_of_four (λ i. slice_index marks i ≡ mark) place k
    (omega (arith, word_at-bytes marks place, is, byte, low place, low (place + 1), low (place + 1 + 1), low (place + 1 + 1 + 1)))

pub status_of_word : (marks : List ℕ) (place mark : ℕ) → place + 4 ≤ length marks → HaveMark marks mark place → HaveStatus (statuses_of marks) (status_of mark) place 4
status_of_word marks place mark within have = λ k least most. statuses_at marks k (omega arith) ∙ ap status_of (have k least most)

-- ---- a word that was only read

-- without bit 7 both marks of a place that was only read are one
read_mark : (mark : ℕ) → mark < 2 ^ 8 → mark % 128 ≡ 2 → status_of mark ≡ Read
read_mark mark byte is = grind arith

pub read_of_word : (marks : List ℕ) (place : ℕ) → AreBytes marks → place + 4 ≤ length marks → bit_and (word_at marks place) 2139062143 ≡ 33686018 → HaveStatus (statuses_of marks) Read place 4
read_of_word marks place bytes within is k least most =
    let low : (n : ℕ) → bit_and n 127 ≡ n % 128 = λ n. and_mask n 7 in
    let each = each_of_four (λ i. slice_index marks i % 128 ≡ 2) place k (omega (
      arith,
      masked_at marks place 127 bytes (omega arith),
      is,
      low (slice_index marks place),
      low (slice_index marks (place + 1)),
      low (slice_index marks (place + 1 + 1)),
      low (slice_index marks (place + 1 + 1 + 1)),
    )) least most in
    statuses_at marks k (omega arith) ∙ read_mark (slice_index marks k) (bytes k) each
