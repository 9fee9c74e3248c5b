-- Where the bytes of the start stand in memory too.
use Rattle.std.proofs.Common.{◌≡◌, ℕ, suc, ◌+◌, ◌<◌, ◌≤◌, true, false, List, [], ◌∷◌, length, map, replicate, refl, ◌∙◌, slice_index, slice_set, arith}
use Rattle.std.specs.Prelude.{All}
use Rattle.std.proofs.lemmas.Bool.{ltb-true}
use Rattle.std.proofs.lemmas.Grind.{get_or-set_at}
use Rattle.std.proofs.lemmas.List.{get_or-set_other, length-set}
use Rattle.std.proofs.lemmas.List.Elements.{All-head, All-tail}
use Rattle.asc_model.specs.declared.status.Status.{Status}
use Rattle.asc_model.specs.declared.status.Status.TheVariants.{Untouched}
use Rattle.asc_model.specs.Places.{bytes_after, cells}
use Rattle.asc_shape.specs.Face.{status_at, is_untouched, status_after_write}
use Rattle.asc_shape.proofs.Guesses.{bytes_at}
use Rattle.asc_depvec.specs.Inside.{AreWritten, Keeps, given, is_kept, with_statuses, without}
use Rattle.asc_depvec.proofs.Fresh.{status_at-replicate}

-- ---- touches

-- a byte put at a place that has a status then
pub kept-touch : (start bytes : List ℕ) (statuses : List Status) (place byte : ℕ) (status : Status) → place < length bytes → place < length statuses
    → (is_kept place status ≡ true → byte ≡ slice_index start place) → Keeps start bytes statuses → Keeps start (slice_set bytes place byte) (slice_set statuses place status)
kept-touch start bytes statuses place byte status within has fetched keeps k e = grind (arith, get_or-set_at, get_or-set_other)

-- bytes put at places one after another
pub kept-row : (row start bytes : List ℕ) (statuses : List Status) (place : ℕ) (status : Status) → place + length row ≤ length bytes → place + length row ≤ length statuses
    → ((k : ℕ) → is_kept k status ≡ true → row ≡ bytes_at start place (length row)) → Keeps start bytes statuses
    → Keeps start (bytes_after bytes (cells place row)) (with_statuses statuses place status (length row))
kept-row [] start bytes statuses place status within has fetched keeps = keeps
kept-row (byte ∷ row) start bytes statuses place status within has fetched keeps =
    kept-row row start (slice_set bytes place byte) (slice_set statuses place status) (place + 1) status (omega (arith, within, length-set bytes place byte))
    (omega (arith, has, length-set statuses place status)) (λ k e. let all = fetched k e in cc)
    (kept-touch start bytes statuses place byte status (omega (arith, within)) (omega (arith, has)) (λ e. let all = fetched place e in cc) keeps)

-- a written place has no such byte
unkept : (place : ℕ) (status : Status) → status_after_write status ≡ status → is_untouched status ≡ false → is_kept place status ≡ true → ⊥
unkept place status after touched e = grind arith

kept-put : (start bytes : List ℕ) (statuses : List Status) (place byte : ℕ) → (is_kept place (status_at statuses place) ≡ true → ⊥) → Keeps start bytes statuses
    → Keeps start (slice_set bytes place byte) statuses
kept-put start bytes statuses place byte not keeps k e = grind (arith, get_or-set_other)

-- bytes put at written places
pub kept-puts : (start bytes : List ℕ) (statuses : List Status) (list : List (ℕ × ℕ)) → AreWritten statuses (map (λ cell. cell.0) list) → Keeps start bytes statuses
    → Keeps start (bytes_after bytes list) statuses
kept-puts start bytes statuses [] were keeps = keeps
kept-puts start bytes statuses (cell ∷ list) were keeps =
    let first = were 0 0 (omega arith) in
    kept-puts start (slice_set bytes cell.0 cell.1) statuses list (λ k d lt. were (suc k) d (omega (arith, lt)))
    (kept-put start bytes statuses cell.0 cell.1 (unkept cell.0 (status_at statuses cell.0) first.0 first.1) keeps)

-- ---- touches taken back

pub length-given : (start bytes places : List ℕ) → length (given start bytes places) ≡ length bytes
length-given start bytes [] = refl
length-given start bytes (place ∷ places) = length-set (given start bytes places) place (slice_index start place) ∙ length-given start bytes places

pub length-without : (statuses : List Status) (places : List ℕ) → length (without statuses places) ≡ length statuses
length-without statuses [] = refl
length-without statuses (place ∷ places) = length-set (without statuses places) place Untouched ∙ length-without statuses places

pub kept-back : (start bytes : List ℕ) (statuses : List Status) (places : List ℕ) → length statuses ≡ length bytes → All (λ place. place < length bytes) places → Keeps start bytes statuses
    → Keeps start (given start bytes places) (without statuses places)
kept-back start bytes statuses [] size within keeps = keeps
kept-back start bytes statuses (place ∷ places) size within keeps =
    let here = All-head (λ p. p < length bytes) place places within in
    kept-touch start (given start bytes places) (without statuses places) place (slice_index start place) Untouched (omega (arith, here, length-given start bytes places))
    (omega (arith, here, size, length-without statuses places)) (λ e. refl) (kept-back start bytes statuses places size (All-tail (λ p. p < length bytes) place places within) keeps)

-- ---- starts

first_four : (bytes start : List ℕ) (place : ℕ) → 4 ≤ length bytes → place < 4 → slice_index (bytes_after bytes (cells 0 (bytes_at start 0 4))) place ≡ slice_index start place
first_four (a ∷ b ∷ c ∷ d ∷ rest) start place long low = grind arith
first_four bytes start place long low = absurd (omega (arith, long))

-- the pc put where nothing is touched
pub kept-fresh : (n : ℕ) (start bytes row : List ℕ) (statuses : List Status) → 4 ≤ length bytes → row ≡ bytes_at start 0 4 → statuses ≡ replicate n Untouched
    → Keeps start (bytes_after bytes (cells 0 row)) statuses
kept-fresh n start bytes row statuses long fetched all place e =
    rw fetched (first_four bytes start place long (ltb-true place 4 (rw (all, status_at-replicate) at e)))
