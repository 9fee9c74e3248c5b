-- Lemmas on the bytes that a tracer stands for: those of its start where a place is untouched, and others elsewhere.
use Rattle.std.proofs.Common.{◌≡◌, ℕ, zero, suc, ◌+◌, false, List, [], ◌∷◌, ◌++◌, length, map, take, drop, replicate, refl, ap, slice_index, slice_set, arith, if◌then◌else◌}
use Rattle.asc_model.specs.declared.status.Status.{Status}
use Rattle.asc_model.specs.declared.status.Status.TheVariants.{Untouched}
use Rattle.asc_model.specs.Number.{AreBytes}
use Rattle.asc_model.specs.Places.{bytes_after, cells, places_from}
use Rattle.asc_shape.specs.Face.{status_at, is_untouched}
use Rattle.asc_shape.proofs.Guesses.{bytes_at}
use Rattle.asc_depvec.specs.Tracer.{HaveStatus, untouch}
use Rattle.asc_depvec.specs.Inside.{AreWritten, given, mixed, noted, with_statuses, without}

-- ---- the bytes

pub length-mixed : (start bytes : List ℕ) (statuses : List Status) → length bytes ≡ length start → length statuses ≡ length start → length (mixed start bytes statuses) ≡ length start
length-mixed (x ∷ start) (b ∷ bytes) (s ∷ statuses) e f = ap suc (length-mixed start bytes statuses (omega (arith, e)) (omega (arith, f)))
length-mixed start bytes statuses e f = grind arith

-- the byte at a place
pub mixed-at : (start bytes : List ℕ) (statuses : List Status) (i : ℕ) → length bytes ≡ length start → length statuses ≡ length start
    → slice_index (mixed start bytes statuses) i ≡ (if is_untouched (status_at statuses i) then slice_index start i else slice_index bytes i)
mixed-at [] [] [] i e f = refl
mixed-at (x ∷ start) (b ∷ bytes) (s ∷ statuses) zero e f = refl
mixed-at (x ∷ start) (b ∷ bytes) (s ∷ statuses) (suc i) e f = mixed-at start bytes statuses i (omega (arith, e)) (omega (arith, f))
mixed-at start bytes statuses i e f = absurd (omega (arith, e, f))

-- a touch of a place, with its byte
pub mixed-touch : (start bytes : List ℕ) (statuses : List Status) (place byte : ℕ) (status : Status) → is_untouched status ≡ false
    → mixed start (slice_set bytes place byte) (slice_set statuses place status) ≡ slice_set (mixed start bytes statuses) place byte
mixed-touch (x ∷ start) (b ∷ bytes) (s ∷ statuses) zero byte status e = rw e
mixed-touch (x ∷ start) (b ∷ bytes) (s ∷ statuses) (suc place) byte status e = rw (mixed-touch start bytes statuses place byte status e)
mixed-touch start bytes statuses zero byte status e = refl
mixed-touch start bytes statuses (suc place) byte status e = refl

-- a byte put at a touched place
pub mixed-put : (start bytes : List ℕ) (statuses : List Status) (place byte : ℕ) → is_untouched (status_at statuses place) ≡ false
    → mixed start (slice_set bytes place byte) statuses ≡ slice_set (mixed start bytes statuses) place byte
mixed-put (x ∷ start) (b ∷ bytes) (s ∷ statuses) zero byte e = rw e
mixed-put (x ∷ start) (b ∷ bytes) (s ∷ statuses) (suc place) byte e = rw (mixed-put start bytes statuses place byte e)
mixed-put start bytes statuses zero byte e = refl
mixed-put start bytes statuses (suc place) byte e = refl

-- a place untouched again has the start's byte
mixed-back : (start bytes : List ℕ) (statuses : List Status) (place : ℕ)
    → mixed start bytes (slice_set statuses place Untouched) ≡ slice_set (mixed start bytes statuses) place (slice_index start place)
mixed-back (x ∷ start) (b ∷ bytes) (s ∷ statuses) (suc place) = rw (mixed-back start bytes statuses place)
mixed-back start bytes statuses place = refl

-- while nothing is touched they are the start's
pub mixed-fresh : (start bytes : List ℕ) → length bytes ≡ length start → mixed start bytes (replicate (length start) Untouched) ≡ start
mixed-fresh [] bytes e = refl
mixed-fresh (x ∷ start) [] e = absurd (omega (arith, e))
mixed-fresh (x ∷ start) (b ∷ bytes) e = rw (mixed-fresh start bytes (omega (arith, e)))

pub AreBytes-mixed : (start bytes : List ℕ) (statuses : List Status) → AreBytes start → AreBytes bytes → AreBytes (mixed start bytes statuses)
AreBytes-mixed [] bytes statuses p q i = p i
AreBytes-mixed (x ∷ start) [] statuses p q i = q i
AreBytes-mixed (x ∷ start) (b ∷ bytes) [] p q i = omega arith
AreBytes-mixed (x ∷ start) (b ∷ bytes) (s ∷ statuses) p q zero = let first = p 0 in let second = q 0 in grind arith
AreBytes-mixed (x ∷ start) (b ∷ bytes) (s ∷ statuses) p q (suc i) = AreBytes-mixed start bytes statuses (λ k. p (suc k)) (λ k. q (suc k)) i

-- ---- several places

-- a touch of places one after another, with their bytes
pub mixed-row : (row start bytes : List ℕ) (statuses : List Status) (place : ℕ) (status : Status) → is_untouched status ≡ false
    → mixed start (bytes_after bytes (cells place row)) (with_statuses statuses place status (length row))
    ≡ bytes_after (mixed start bytes statuses) (cells place row)
mixed-row [] start bytes statuses place status e = refl
mixed-row (byte ∷ row) start bytes statuses place status e =
    rw (mixed-row row start (slice_set bytes place byte) (slice_set statuses place status) (place + 1) status e, mixed-touch start bytes statuses place byte status e)

-- bytes put at written places
pub mixed-puts : (start bytes : List ℕ) (statuses : List Status) (list : List (ℕ × ℕ)) → AreWritten statuses (map (λ cell. cell.0) list)
    → mixed start (bytes_after bytes list) statuses ≡ bytes_after (mixed start bytes statuses) list
mixed-puts start bytes statuses [] were = refl
mixed-puts start bytes statuses (cell ∷ list) were =
    rw (mixed-puts start (slice_set bytes cell.0 cell.1) statuses list (λ k d lt. were (suc k) d (omega (arith, lt))), mixed-put start bytes statuses cell.0 cell.1 (were 0 0 (omega arith)).1)

-- two places untouched in either order
pub set-apart : (statuses : List Status) (a b : ℕ) → slice_set (slice_set statuses a Untouched) b Untouched ≡ slice_set (slice_set statuses b Untouched) a Untouched
set-apart (status ∷ statuses) (suc a) (suc b) = rw (set-apart statuses a b)
set-apart [] a b = refl
set-apart statuses zero zero = refl
set-apart statuses zero (suc b) = refl
set-apart statuses (suc a) zero = refl

-- one place untouched first is as it untouched last
pub without-set : (statuses : List Status) (place : ℕ) (places : List ℕ) → without (slice_set statuses place Untouched) places ≡ slice_set (without statuses places) place Untouched
without-set statuses place [] = refl
without-set statuses place (k ∷ places) = rw (without-set statuses place places, set-apart (without statuses places) place k)

-- in either order
pub without-swap : (statuses : List Status) (a b : List ℕ) → without (without statuses a) b ≡ without statuses (a ++ b)
without-swap statuses [] b = refl
without-swap statuses (place ∷ a) b = rw (without-set (without statuses a) place b, without-swap statuses a b)

-- places untouched again have the start's bytes
pub mixed-without : (start bytes : List ℕ) (statuses : List Status) (places : List ℕ)
    → mixed start bytes (without statuses places) ≡ bytes_after (mixed start bytes statuses) (noted start places)
mixed-without start bytes statuses [] = refl
mixed-without start bytes statuses (place ∷ places) =
    rw (← without-set statuses place places, mixed-without start bytes (slice_set statuses place Untouched) places, mixed-back start bytes statuses place)

-- whatever stands there in memory
mixed-over : (start bytes : List ℕ) (statuses : List Status) (place byte : ℕ)
    → mixed start (slice_set bytes place byte) (slice_set statuses place Untouched) ≡ mixed start bytes (slice_set statuses place Untouched)
mixed-over (x ∷ start) (b ∷ bytes) (s ∷ statuses) zero byte = refl
mixed-over (x ∷ start) (b ∷ bytes) (s ∷ statuses) (suc place) byte = rw (mixed-over start bytes statuses place byte)
mixed-over start bytes statuses zero byte = refl
mixed-over start bytes statuses (suc place) byte = refl

pub mixed-given : (start bytes : List ℕ) (statuses : List Status) (places : List ℕ)
    → mixed start (given start bytes places) (without statuses places) ≡ mixed start bytes (without statuses places)
mixed-given start bytes statuses [] = refl
mixed-given start bytes statuses (place ∷ places) =
    rw (mixed-over start (given start bytes places) (without statuses places) place (slice_index start place), mixed-back, mixed-given start bytes statuses places, mixed-back)

-- ---- places with their bytes

pub length-noted : (bytes places : List ℕ) → length (noted bytes places) ≡ length places
length-noted bytes [] = refl
length-noted bytes (place ∷ places) = ap suc (length-noted bytes places)

pub noted-append : (bytes a b : List ℕ) → noted bytes (a ++ b) ≡ noted bytes a ++ noted bytes b
noted-append bytes [] b = refl
noted-append bytes (place ∷ a) b = rw (noted-append bytes a b)

-- their places
pub places-noted : (bytes places : List ℕ) → map (λ cell. cell.0) (noted bytes places) ≡ places
places-noted bytes [] = refl
places-noted bytes (place ∷ places) = rw (places-noted bytes places)

pub noted-drop : (n : ℕ) (bytes places : List ℕ) → drop n (noted bytes places) ≡ noted bytes (drop n places)
noted-drop zero bytes places = refl
noted-drop (suc n) bytes [] = refl
noted-drop (suc n) bytes (place ∷ places) = noted-drop n bytes places

pub noted-take : (n : ℕ) (bytes places : List ℕ) → take n (noted bytes places) ≡ noted bytes (take n places)
noted-take zero bytes places = refl
noted-take (suc n) bytes [] = refl
noted-take (suc n) bytes (place ∷ places) = rw (noted-take n bytes places)

-- places one after another
pub noted-row : (n : ℕ) (bytes : List ℕ) (place : ℕ) → noted bytes (places_from place n) ≡ cells place (bytes_at bytes place n)
noted-row zero bytes place = refl
noted-row (suc n) bytes place = rw (noted-row n bytes (place + 1))

-- taken back as places with bytes
pub untouch-noted : (statuses : List Status) (bytes places : List ℕ) → untouch statuses (noted bytes places) ≡ without statuses places
untouch-noted statuses bytes [] = refl
untouch-noted statuses bytes (place ∷ places) = rw (untouch-noted statuses bytes places)

-- untouched places have the start's bytes
pub bytes_at-mixed : (n : ℕ) (start bytes : List ℕ) (statuses : List Status) (place : ℕ) → length bytes ≡ length start → length statuses ≡ length start
    → HaveStatus statuses Untouched place n → bytes_at (mixed start bytes statuses) place n ≡ bytes_at start place n
bytes_at-mixed zero start bytes statuses place e f all = refl
bytes_at-mixed (suc n) start bytes statuses place e f all =
    rw (mixed-at start bytes statuses place e f, all place (omega arith) (omega arith), bytes_at-mixed n start bytes statuses (place + 1) e f (λ k least most. all k (omega arith) (omega arith)))
