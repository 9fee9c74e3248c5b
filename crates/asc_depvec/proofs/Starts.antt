-- Where a tracer started, through reads and puts.
use Rattle.std.proofs.Common.{◌≡◌, ℕ, ◌<◌, ◌≤◌, suc, Bool, true, false, List, [], ◌∷◌, ◌++◌, length, map, refl, ◌∙◌, slice_index, slice_set, arith, if◌then◌else◌}
use Rattle.std.specs.Prelude.{All}
use Rattle.std.proofs.lemmas.List.{set-set, set_comm, set-get_or, get_or-set_same, get_or-set_other, length-set}
use Rattle.std.proofs.lemmas.List.Elements.{All-nil, All-cons}
use Rattle.asc_model.specs.declared.status.Status.{Status}
use Rattle.asc_model.specs.State.{State}
use Rattle.asc_model.specs.Places.{bytes_after}
use Rattle.asc_model.proofs.Numbers.{bytes_after-append}
use Rattle.asc_shape.specs.Face.{Face, Told, status_at, is_untouched, status_after_read, status_after_write, face_after_read, face_after_put, face_after_reads, face_after_puts}
use Rattle.asc_depvec.specs.Tracer.{cap_of, face_of, start_of_face}
use Rattle.asc_depvec.specs.Laws.{StartsStay, StartsAreTold}
use Rattle.asc_depvec.proofs.Marking.{Fits, times, times-first, FitPlaces-touch, touched-after_read, touched-after_write, times-once}
use Rattle.asc_depvec.proofs.Undoing.{touched-within}

-- a place that is not listed keeps its byte
byte_kept : (bytes : List ℕ) (list : List (ℕ × ℕ)) (place : ℕ) → times place list ≡ 0 → slice_index (bytes_after bytes list) place ≡ slice_index bytes place
byte_kept bytes [] place none = refl
byte_kept bytes (cell ∷ list) place none =
    grind (arith, times-first place cell list, byte_kept (slice_set bytes cell.0 cell.1) list place, get_or-set_other)

-- a byte that is written before others is written as well behind them where its place is not among theirs
written_behind : (bytes : List ℕ) (list : List (ℕ × ℕ)) (place byte : ℕ) → times place list ≡ 0
    → bytes_after (slice_set bytes place byte) list ≡ slice_set (bytes_after bytes list) place byte
written_behind bytes [] place byte none = refl
written_behind bytes (cell ∷ list) place byte none =
    grind (arith, times-first place cell list, set_comm, written_behind (slice_set bytes cell.0 cell.1) list place byte)

-- and is lost where its place is among theirs
written_over : (bytes : List ℕ) (list : List (ℕ × ℕ)) (place byte : ℕ) → 1 ≤ times place list → bytes_after (slice_set bytes place byte) list ≡ bytes_after bytes list
written_over bytes [] place byte some = absurd (omega arith)
written_over bytes (cell ∷ list) place byte some =
    grind (arith, times-first place cell list, set-set, set_comm, written_over (slice_set bytes cell.0 cell.1) list place byte)

-- The start through a read and through a put: the first byte of a place that was untouched is put back behind all others.
start_read : (bytes : List ℕ) (touched : List (ℕ × ℕ)) (place : ℕ) (b : Bool) → times place touched ≡ (if b then 0 else 1)
    → bytes_after bytes (if b then touched ++ (place, slice_index bytes place) ∷ [] else touched) ≡ bytes_after bytes touched
start_read bytes touched place true count = rw (bytes_after-append, ← byte_kept bytes touched place count, set-get_or)
start_read bytes touched place false count = refl

start_put : (bytes : List ℕ) (touched : List (ℕ × ℕ)) (place byte : ℕ) (b : Bool) → times place touched ≡ (if b then 0 else 1)
    → bytes_after (slice_set bytes place byte) (if b then touched ++ (place, slice_index bytes place) ∷ [] else touched) ≡ bytes_after bytes touched
start_put bytes touched place byte true count = rw (bytes_after-append, written_behind bytes touched place byte count, set-set, ← byte_kept bytes touched place count, set-get_or)
start_put bytes touched place byte false count = written_over bytes touched place byte (omega arith)

-- a face that tells marks, which fit it, and started from this state
record StartsFrom (start : State) (n : ℕ) (f : Face) : Type 0 where
  pub cap : ℕ
  pub statuses : List Status
  pub touched : List (ℕ × ℕ)
  pub told : f.marks ≡ Told cap statuses touched
  pub size : length f.state.bytes ≡ n
  pub fits : Fits n statuses touched
  pub begin : start_of_face f ≡ start

after_read : (start : State) (n : ℕ) (f : Face) (place : ℕ) → place < n → StartsFrom start n f → StartsFrom start n (face_after_read f place)
unfolding face_after_read
after_read start n f place within from =
    let status = status_at from.statuses place in
    record {
      cap = from.cap;
      statuses = slice_set from.statuses place (status_after_read status);
      touched = if is_untouched status then from.touched ++ (place, slice_index f.state.bytes place) ∷ [] else from.touched;
      told = rw from.told;
      size = from.size;
      fits = FitPlaces-touch n from.statuses from.touched place _ (status_after_read status) within (touched-after_read status) from.fits;
      begin = rw (from.told, start_read f.state.bytes from.touched place (is_untouched status) (from.fits.1 place)) (rw from.told at from.begin);
    }

after_put : (start : State) (n : ℕ) (f : Face) (place byte : ℕ) → place < n → StartsFrom start n f → StartsFrom start n (face_after_put f place byte)
unfolding face_after_put
after_put start n f place byte within from =
    let status = status_at from.statuses place in
    record {
      cap = from.cap;
      statuses = slice_set from.statuses place (status_after_write status);
      touched = if is_untouched status then from.touched ++ (place, slice_index f.state.bytes place) ∷ [] else from.touched;
      told = rw from.told;
      size = length-set f.state.bytes place byte ∙ from.size;
      fits = FitPlaces-touch n from.statuses from.touched place _ (status_after_write status) within (touched-after_write status) from.fits;
      begin = rw (from.told, start_put f.state.bytes from.touched place byte (is_untouched status) (from.fits.1 place)) (rw from.told at from.begin);
    }

after_reads : (start : State) (n : ℕ) (f : Face) (places : List ℕ) → All (λ place. place < n) places → StartsFrom start n f → StartsFrom start n (face_after_reads f places)
unfolding face_after_reads
after_reads start n f [] all from = from
after_reads start n f (place ∷ places) all from =
    after_reads start n (face_after_read f place) places (λ k d lt. all (suc k) d (omega (arith, lt))) (after_read start n f place (all 0 0 (omega arith)) from)

after_puts : (start : State) (n : ℕ) (f : Face) (cells : List (ℕ × ℕ)) → All (λ place. place < n) (map (λ cell. cell.0) cells) → StartsFrom start n f → StartsFrom start n (face_after_puts f cells)
unfolding face_after_puts
after_puts start n f [] all from = from
after_puts start n f (cell ∷ cells) all from =
    after_puts start n (face_after_put f cell.0 cell.1) cells (λ k d lt. all (suc k) d (omega (arith, lt))) (after_put start n f cell.0 cell.1 (all 0 0 (omega arith)) from)

pub starts_stay : StartsStay
starts_stay t places cells fits reads puts =
    let n = length t.state.bytes in
    let start = start_of_face (face_of t) in
    let first : StartsFrom start n (face_of t) = record { cap = cap_of t; statuses = t.statuses; touched = t.touched; told = refl; size = refl; fits = fits; begin = refl } in
    (after_puts start n _ cells puts (after_reads start n (face_of t) places reads first)).begin

-- ---- what a tracer tells of its start

-- bytes that are written at places of which each is listed once
listed_bytes : (n : ℕ) (bytes : List ℕ) (list : List (ℕ × ℕ)) → length bytes ≡ n → All (λ noted. noted.0 < n) list → ((place : ℕ) → times place list ≤ 1)
    → All (λ noted. slice_index (bytes_after bytes list) noted.0 ≡ noted.1) list
listed_bytes n bytes [] size within once = All-nil (λ noted. slice_index bytes noted.0 ≡ noted.1)
listed_bytes n bytes (cell ∷ list) size within once =
    let later = slice_set bytes cell.0 cell.1 in
    let none : times cell.0 list ≡ 0 = grind (arith, times-first cell.0 cell list, once cell.0) in
    let here : cell.0 < length bytes = rw size (within 0 (0, 0) (omega arith)) in
    All-cons (λ noted. slice_index (bytes_after later list) noted.0 ≡ noted.1) cell list
    (byte_kept later list cell.0 none ∙ get_or-set_same bytes cell.0 cell.1 0 here)
    (listed_bytes n later list (length-set bytes cell.0 cell.1 ∙ size) (λ k d lt. within (suc k) d (omega (arith, lt))) (λ place. omega (arith, times-first place cell list, once place)))

pub starts_are_told : StartsAreTold
starts_are_told t fits = record {
  touched = listed_bytes (length t.state.bytes) t.state.bytes t.touched refl
      (touched-within (length t.state.bytes) t.statuses t.touched fits)
      (λ place. times-once _ _ (fits.1 place));
  untouched = λ place e. byte_kept t.state.bytes t.touched place (fits.1 place ∙ rw e);
}
