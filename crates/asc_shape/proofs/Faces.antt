-- Lemmas on faces: what reads and puts leave, and how many places they touch for the first time.
use Rattle.std.proofs.Common.{◌≡◌, ℕ, ◌+◌, ◌*◌, ◌-◌, ◌≤◌, Bool, true, false, cond, List, [], ◌∷◌, ◌++◌, length, map, refl, sym, ap, ◌∙◌, inl, inr, slice_index, slice_set, arith}
use Rattle.std.proofs.lemmas.List.{get_or-set_same, get_or-set_other, set_past, length-set, length-append}
use Rattle.std.proofs.lemmas.List.Sums.{count_by-le-length, sum_by-append, sum_by-cons}
use Rattle.std.specs.List.{count_by}
use Rattle.std.proofs.lemmas.Bool.{cases_eq, cases_lt, cond_both, false≢true}
use Rattle.asc_model.specs.declared.status.Status.{Status}
use Rattle.asc_model.specs.declared.status.Status.TheVariants.{Untouched, Read, Written, ReadWritten}
use Rattle.asc_model.specs.Number.{word_at, bytes_of}
use Rattle.asc_model.specs.Places.{bytes_after, places_from, cells}
use Rattle.asc_model.proofs.Numbers.{word_at-from_le_bytes}
use Rattle.asc_shape.specs.Face.{Face, Marks, Untold, Told, status_at, is_untouched, status_after_read, status_after_write, marks_after, face_after_read, face_after_put, face_after_reads, face_after_puts, untouched_count, room_of}

-- reads leave the state
pub state-reads : (f : Face) (places : List ℕ) → (face_after_reads f places).state ≡ f.state
unfolding face_after_reads face_after_read
state-reads f [] = refl
state-reads f (place ∷ places) = state-reads (face_after_read f place) places

-- puts write their bytes
pub state-puts : (f : Face) (cells : List (ℕ × ℕ)) → (face_after_puts f cells).state ≡ record f.state { bytes = bytes_after f.state.bytes cells }
unfolding face_after_puts face_after_put
state-puts f [] = refl
state-puts f (cell ∷ cells) = state-puts (face_after_put f cell.0 cell.1) cells

-- reads in two parts
pub face_after_reads-append : (f : Face) (a b : List ℕ) → face_after_reads f (a ++ b) ≡ face_after_reads (face_after_reads f a) b
unfolding face_after_reads
face_after_reads-append f [] b = refl
face_after_reads-append f (place ∷ a) b = face_after_reads-append (face_after_read f place) a b

-- puts in two parts
pub face_after_puts-append : (f : Face) (a b : List (ℕ × ℕ)) → face_after_puts f (a ++ b) ≡ face_after_puts (face_after_puts f a) b
unfolding face_after_puts
face_after_puts-append f [] b = refl
face_after_puts-append f (cell ∷ a) b = face_after_puts-append (face_after_put f cell.0 cell.1) a b

-- where marks are not told a read changes nothing
pub read_untold : (f : Face) (place : ℕ) → f.marks ≡ Untold → face_after_read f place ≡ f
unfolding face_after_read
read_untold f place e = rw e cc

-- where marks are not told reads change nothing
pub reads_untold : (f : Face) (places : List ℕ) → f.marks ≡ Untold → face_after_reads f places ≡ f
unfolding face_after_reads
reads_untold f [] e = refl
reads_untold f (place ∷ places) e = let same = read_untold f place e in rw same (reads_untold f places e)

-- where marks are not told a put only writes
pub put_untold : (f : Face) (place byte : ℕ) → f.marks ≡ Untold → face_after_put f place byte ≡ record f { state = record f.state { bytes = slice_set f.state.bytes place byte } }
unfolding face_after_put
put_untold f place byte e = rw e cc

-- marks that are not told stay so
pub marks-put_untold : (f : Face) (place byte : ℕ) → f.marks ≡ Untold → (face_after_put f place byte).marks ≡ Untold
unfolding face_after_put
marks-put_untold f place byte e = rw e refl

-- where marks are not told puts only write
pub puts_untold : (f : Face) (cells : List (ℕ × ℕ)) → f.marks ≡ Untold → face_after_puts f cells ≡ record f { state = record f.state { bytes = bytes_after f.state.bytes cells } }
unfolding face_after_puts face_after_put
puts_untold f [] e = refl
puts_untold f (cell ∷ cells) e =
    let unmarked : (face_after_put f cell.0 cell.1).marks ≡ Untold = marks-put_untold f cell.0 cell.1 e in
    puts_untold (face_after_put f cell.0 cell.1) cells unmarked
    ∙ ap (λ (m : Marks). record { state = record f.state { bytes = bytes_after f.state.bytes (cell ∷ cells) }; marks = m }) (unmarked ∙ sym e)

-- no more places are fresh than there are
pub untouched_count-le-length : (marks : Marks) (places : List ℕ) → untouched_count marks places ≤ length places
unfolding untouched_count
untouched_count-le-length Untold places = omega arith
untouched_count-le-length (Told cap statuses touched) places = count_by-le-length _ places

-- the fresh places of two lists
pub untouched_count-append : (marks : Marks) (a b : List ℕ) → untouched_count marks (a ++ b) ≡ untouched_count marks a + untouched_count marks b
unfolding untouched_count
untouched_count-append Untold a b = refl
untouched_count-append (Told cap statuses touched) a b = sum_by-append _ a b

-- the fresh places of a list by its first place
pub untouched_count-cons : (marks : Marks) (place : ℕ) (places : List ℕ) → untouched_count marks (place ∷ places) ≡ untouched_count marks (place ∷ []) + untouched_count marks places
untouched_count-cons marks place places = untouched_count-append marks (place ∷ []) places

-- a count rises with its test
pub count_by-le-count_by : (p q : ℕ → Bool) → ((x : ℕ) → p x ≡ true → q x ≡ true) → (xs : List ℕ) → count_by p xs ≤ count_by q xs
count_by-le-count_by p q h [] = omega arith
count_by-le-count_by p q h (x ∷ xs) =
    let rest = count_by-le-count_by p q h xs in
    let first : cond (p x) 1 0 ≤ cond (q x) 1 0 = cond_both (p x) 1 0 (λ n. n ≤ cond (q x) 1 0)
    (λ yes. rw (h x yes) (omega arith))
    (λ no. omega arith) in
    omega (arith, sum_by-cons (λ y. cond (p y) 1 0) x xs, sum_by-cons (λ y. cond (q y) 1 0) x xs)

-- what is untouched beside a touched place was so before
untouched-set : (statuses : List Status) (place k : ℕ) (status : Status) → is_untouched status ≡ false
    → is_untouched (status_at (slice_set statuses place status) k) ≡ true → is_untouched (status_at statuses k) ≡ true
untouched-set statuses place k status touched untouched = elim (cases_eq k place) [
  | inl same ↦ elim (cases_lt place (length statuses)) [
    | inl within ↦ let here = get_or-set_same statuses place status Untouched within in
        absurd (false≢true (sym touched ∙ ap is_untouched (sym here) ∙ ap (λ j. is_untouched (status_at (slice_set statuses place status) j)) (sym same) ∙ untouched))
    | inr past ↦ ap (λ (list : List Status). is_untouched (status_at list k)) (sym (set_past statuses place status past)) ∙ untouched
  ]
  | inr other ↦ ap is_untouched (sym (get_or-set_other statuses place k status Untouched other)) ∙ untouched
]

-- a touch makes no place fresh
untouched_count-marks_after-le : (after_change : Status → Status) → ((s : Status) → is_untouched (after_change s) ≡ false) → (marks : Marks) (place byte : ℕ) (places : List ℕ)
    → untouched_count (marks_after after_change marks place byte) places ≤ untouched_count marks places
unfolding untouched_count
untouched_count-marks_after-le after_change touches Untold place byte places = omega arith
untouched_count-marks_after-le after_change touches (Told cap statuses touched) place byte places =
    count_by-le-count_by _ _ (λ k. untouched-set statuses place k _ (touches _)) places

-- a status after a read is not untouched
touched-status_after_read : (s : Status) → is_untouched (status_after_read s) ≡ false
touched-status_after_read Untouched = refl
touched-status_after_read Read = refl
touched-status_after_read Written = refl
touched-status_after_read ReadWritten = refl

-- a status after a write is not untouched
touched-status_after_write : (s : Status) → is_untouched (status_after_write s) ≡ false
touched-status_after_write Untouched = refl
touched-status_after_write Read = refl
touched-status_after_write Written = refl
touched-status_after_write ReadWritten = refl

-- a read makes no place fresh
pub untouched_count-read-le : (f : Face) (place : ℕ) (places : List ℕ) → untouched_count (face_after_read f place).marks places ≤ untouched_count f.marks places
unfolding face_after_read
untouched_count-read-le f place places = untouched_count-marks_after-le status_after_read touched-status_after_read f.marks place _ places

-- a put makes no place fresh
pub untouched_count-put-le : (f : Face) (place byte : ℕ) (places : List ℕ) → untouched_count (face_after_put f place byte).marks places ≤ untouched_count f.marks places
unfolding face_after_put
untouched_count-put-le f place byte places = untouched_count-marks_after-le status_after_write touched-status_after_write f.marks place _ places

-- a read leaves the number of bytes
pub length-read : (f after : Face) (place : ℕ) → after ≡ face_after_read f place → length after.state.bytes ≡ length f.state.bytes
unfolding face_after_read
length-read f after place e = ap (λ (face : Face). length face.state.bytes) e

-- a put leaves the number of bytes
pub length-put : (f after : Face) (place byte : ℕ) → after ≡ face_after_put f place byte → length after.state.bytes ≡ length f.state.bytes
unfolding face_after_put
length-put f after place byte e = ap (λ (face : Face). length face.state.bytes) e ∙ length-set f.state.bytes place byte

-- four reads, one after another
pub face_after_reads-span_4 : (f f1 f2 f3 f4 : Face) (place : ℕ) → f1 ≡ face_after_read f place → f2 ≡ face_after_read f1 (place + 1) → f3 ≡ face_after_read f2 (place + 2) → f4 ≡ face_after_read f3 (place + 3)
    → f4 ≡ face_after_reads f (places_from place 4)
unfolding face_after_reads
face_after_reads-span_4 f f1 f2 f3 f4 place e1 e2 e3 e4 =
    let third : place + 1 + 1 ≡ place + 2 = omega arith in
    let fourth : place + 1 + 1 + 1 ≡ place + 3 = omega arith in
    cc

-- a touch takes the room of its place where that was untouched
room-marks_after : (after_change : Status → Status) (marks : Marks) (place byte : ℕ)
    → room_of marks ≤ room_of (marks_after after_change marks place byte) + untouched_count marks (place ∷ [])
unfolding untouched_count
room-marks_after after_change Untold place byte = omega arith
room-marks_after after_change (Told cap statuses touched) place byte =
    let untouched = is_untouched (status_at statuses place) in
    let taken : cap - length touched ≤ cap - length (cond untouched (touched ++ (place, byte) ∷ []) touched) + cond untouched 1 0 =
    cond_both untouched (touched ++ (place, byte) ∷ []) touched
    (λ list. cap - length touched ≤ cap - length list + cond untouched 1 0)
    (λ yes. rw yes (omega (arith, length-append touched ((place, byte) ∷ []))))
    (λ no. omega arith) in
    omega arith

-- a read takes the room of its place where that was untouched
pub room-read : (f after : Face) (place : ℕ) → after ≡ face_after_read f place → room_of f.marks ≤ room_of after.marks + untouched_count f.marks (place ∷ [])
unfolding face_after_read
room-read f after place e = rw e (room-marks_after status_after_read f.marks place _)

-- a put takes the room of its place where that was untouched
pub room-put : (f after : Face) (place byte : ℕ) → after ≡ face_after_put f place byte → room_of f.marks ≤ room_of after.marks + untouched_count f.marks (place ∷ [])
unfolding face_after_put
room-put f after place byte e = rw e (room-marks_after status_after_write f.marks place _)

-- reads take the room of their untouched places
pub room-reads : (f : Face) (places : List ℕ) → room_of f.marks ≤ room_of (face_after_reads f places).marks + untouched_count f.marks places
unfolding face_after_reads
room-reads f [] = omega arith
room-reads f (place ∷ places) =
    omega (arith, room-read f (face_after_read f place) place refl, room-reads (face_after_read f place) places, untouched_count-read-le f place places, untouched_count-cons f.marks place places)

-- puts take the room of their untouched places
pub room-puts : (f : Face) (list : List (ℕ × ℕ)) → room_of f.marks ≤ room_of (face_after_puts f list).marks + untouched_count f.marks (map (λ cell. cell.0) list)
unfolding face_after_puts
room-puts f [] = omega arith
room-puts f (cell ∷ list) =
    omega (arith, room-put f (face_after_put f cell.0 cell.1) cell.0 cell.1 refl, room-puts (face_after_put f cell.0 cell.1) list, untouched_count-put-le f cell.0 cell.1 (map (λ cell. cell.0) list), untouched_count-cons f.marks cell.0 (map (λ cell. cell.0) list))

-- a byte after a read
pub slice_index-read : (f after : Face) (place k : ℕ) → after ≡ face_after_read f place → slice_index after.state.bytes k ≡ slice_index f.state.bytes k
unfolding face_after_read
slice_index-read f after place k e = ap (λ (face : Face). slice_index face.state.bytes k) e

-- the word of four bytes that were read
pub word_at-reads : (bytes : List ℕ) (place b0 b1 b2 b3 : ℕ) → b0 ≡ slice_index bytes place → b1 ≡ slice_index bytes (place + 1)
    → b2 ≡ slice_index bytes (place + 2) → b3 ≡ slice_index bytes (place + 3) → b0 + b1 * 256 + b2 * 65536 + b3 * 16777216 ≡ word_at bytes place
word_at-reads bytes place b0 b1 b2 b3 e0 e1 e2 e3 = omega (arith, word_at-from_le_bytes bytes place)

-- four puts of the bytes of a word, one after another
pub face_after_puts-cells_4 : (f f1 f2 f3 f4 : Face) (place word : ℕ) (list : List ℕ) → list ≡ bytes_of 4 word → f1 ≡ face_after_put f place (slice_index list 0)
    → f2 ≡ face_after_put f1 (place + 1) (slice_index list 1) → f3 ≡ face_after_put f2 (place + 2) (slice_index list 2) → f4 ≡ face_after_put f3 (place + 3) (slice_index list 3)
    → f4 ≡ face_after_puts f (cells place (bytes_of 4 word))
unfolding face_after_puts
face_after_puts-cells_4 f f1 f2 f3 f4 place word list e e1 e2 e3 e4 =
    let third : place + 1 + 1 ≡ place + 2 = omega arith in
    let fourth : place + 1 + 1 + 1 ≡ place + 3 = omega arith in
    let b0 : slice_index list 0 ≡ slice_index (bytes_of 4 word) 0 = ap (λ (bytes : List ℕ). slice_index bytes 0) e in
    let b1 : slice_index list 1 ≡ slice_index (bytes_of 4 word) 1 = ap (λ (bytes : List ℕ). slice_index bytes 1) e in
    let b2 : slice_index list 2 ≡ slice_index (bytes_of 4 word) 2 = ap (λ (bytes : List ℕ). slice_index bytes 2) e in
    let b3 : slice_index list 3 ≡ slice_index (bytes_of 4 word) 3 = ap (λ (bytes : List ℕ). slice_index bytes 3) e in
    cc
