-- Places one after another of which none was touched before, or each was only read: what a touch of all of them leaves.
use Rattle.std.proofs.Common.{◌≡◌, ℕ, zero, suc, ◌+◌, ◌<◌, ◌≤◌, false, List, [], ◌∷◌, ◌++◌, length, refl, sym, ap, ◌∙◌, slice_index, slice_set, arith, append_assoc}
use Rattle.std.proofs.lemmas.List.{append-nil, get_or-set_other, map-set, set-get_or}
use Rattle.asc_model.specs.declared.status.Status.{Status}
use Rattle.asc_model.specs.declared.status.Status.TheVariants.{Untouched, Read, Written, ReadWritten}
use Rattle.asc_model.specs.State.{State}
use Rattle.asc_model.specs.Places.{bytes_after, cells, places_from}
use Rattle.asc_shape.specs.Face.{Face, Told, is_untouched, face_after_read, face_after_put, face_after_reads, face_after_puts}
use Rattle.asc_shape.proofs.Guesses.{bytes_at}
use Rattle.asc_depvec.specs.Tracer.{HaveStatus}
use Rattle.asc_depvec.specs.Inside.{noted, status_of, statuses_of, with_statuses}
use Rattle.asc_depvec.proofs.Marking.{Fits, FitPlaces-touch}
use Rattle.asc_depvec.proofs.Mixed.{noted-append}

abbrev pub told : State → (cap : ℕ) → List Status → List (ℕ × ℕ) → Face
told state cap statuses touched = record { state = state; marks = Told cap statuses touched }

-- a byte set before them is none of them
bytes_at-set : (n : ℕ) (bytes : List ℕ) (place k byte : ℕ) → k < place → bytes_at (slice_set bytes k byte) place n ≡ bytes_at bytes place n
bytes_at-set zero bytes place k byte before = refl
bytes_at-set (suc n) bytes place k byte before =
    rw (get_or-set_other bytes k place byte 0 (omega arith), bytes_at-set n bytes (place + 1) k byte (omega arith))

-- bytes put where they stand
pub put-same : (n : ℕ) (bytes : List ℕ) (place : ℕ) → bytes_after bytes (cells place (bytes_at bytes place n)) ≡ bytes
put-same zero bytes place = refl
put-same (suc n) bytes place =
    ap (λ (list : List ℕ). bytes_after list (cells (place + 1) (bytes_at bytes (place + 1) n))) (set-get_or bytes place 0) ∙ put-same n bytes (place + 1)

-- the places behind the first one have their status still
pub status_behind : (n : ℕ) (statuses : List Status) (was : Status) (place : ℕ) (status : Status) → HaveStatus statuses was place (suc n)
    → HaveStatus (slice_set statuses place status) was (place + 1) n
status_behind n statuses was place status all =
    λ k least within. get_or-set_other statuses place k status Untouched (omega arith) ∙ all k (omega arith) (omega arith)

-- reads of untouched places
pub reads_new : (n : ℕ) (state : State) (cap : ℕ) (statuses : List Status) (touched : List (ℕ × ℕ)) (place : ℕ) → HaveStatus statuses Untouched place n
    → face_after_reads (told state cap statuses touched) (places_from place n)
    ≡ told state cap (with_statuses statuses place Read n) (touched ++ cells place (bytes_at state.bytes place n))
unfolding face_after_reads face_after_read
reads_new zero state cap statuses touched place all = ap (told state cap statuses) (sym (append-nil touched))
reads_new (suc n) state cap statuses touched place all =
    let first = slice_index state.bytes place in
    let once : face_after_read (told state cap statuses touched) place ≡ told state cap (slice_set statuses place Read) (touched ++ (place, first) ∷ []) =
    rw (all place (omega arith) (omega arith)) in
    ap (λ (f : Face). face_after_reads f (places_from (place + 1) n)) once
    ∙ reads_new n state cap (slice_set statuses place Read) (touched ++ (place, first) ∷ []) (place + 1) (status_behind n statuses Untouched place Read all)
    ∙ ap (told state cap (with_statuses statuses place Read (suc n))) (append_assoc touched ((place, first) ∷ []) (cells (place + 1) (bytes_at state.bytes (place + 1) n)))

-- puts at untouched places
pub puts_new : (row : List ℕ) (state : State) (cap : ℕ) (statuses : List Status) (touched : List (ℕ × ℕ)) (place : ℕ) → HaveStatus statuses Untouched place (length row)
    → face_after_puts (told state cap statuses touched) (cells place row)
    ≡ told (record state { bytes = bytes_after state.bytes (cells place row) }) cap (with_statuses statuses place Written (length row)) (touched ++ cells place (bytes_at state.bytes place (length row)))
unfolding face_after_puts face_after_put
puts_new [] state cap statuses touched place all = ap (told state cap statuses) (sym (append-nil touched))
puts_new (byte ∷ row) state cap statuses touched place all =
    let n = length row in
    let first = slice_index state.bytes place in
    let later : State = record state { bytes = slice_set state.bytes place byte } in
    let once : face_after_put (told state cap statuses touched) place byte ≡ told later cap (slice_set statuses place Written) (touched ++ (place, first) ∷ []) =
    rw (all place (omega arith) (omega arith)) in
    let written = bytes_after state.bytes (cells place (byte ∷ row)) in
    ap (λ (f : Face). face_after_puts f (cells (place + 1) row)) once
    ∙ puts_new row later cap (slice_set statuses place Written) (touched ++ (place, first) ∷ []) (place + 1) (status_behind n statuses Untouched place Written all)
    ∙ ap (told (record state { bytes = written }) cap (with_statuses statuses place Written (suc n)))
    (append_assoc touched ((place, first) ∷ []) (cells (place + 1) (bytes_at (slice_set state.bytes place byte) (place + 1) n))
    ∙ ap (λ (list : List ℕ). touched ++ (place, first) ∷ cells (place + 1) list) (bytes_at-set n state.bytes (place + 1) place byte (omega arith)))

-- marks that fit their places do so after a touch of untouched places
pub Fits-new : (m n : ℕ) (start : List ℕ) (statuses : List Status) (places : List ℕ) (place : ℕ) (status : Status) → is_untouched status ≡ false → place + m ≤ n
    → HaveStatus statuses Untouched place m → Fits n statuses (noted start places) → Fits n (with_statuses statuses place status m) (noted start (places ++ places_from place m))
Fits-new zero n start statuses places place status touches within all fits = rw append-nil fits
Fits-new (suc m) n start statuses places place status touches within all fits =
    let once = FitPlaces-touch n statuses (noted start places) place (slice_index start place) status (omega arith) touches fits in
    rw (append_assoc places (place ∷ []) (places_from (place + 1) m)) at
    (Fits-new m n start (slice_set statuses place status) (places ++ place ∷ []) (place + 1) status touches (omega arith) (status_behind m statuses Untouched place status all)
    (rw noted-append (rw (all place (omega arith) (omega arith)) at once)))

-- puts at places that were only read
pub puts_read : (row : List ℕ) (state : State) (cap : ℕ) (statuses : List Status) (touched : List (ℕ × ℕ)) (place : ℕ) → HaveStatus statuses Read place (length row)
    → face_after_puts (told state cap statuses touched) (cells place row)
    ≡ told (record state { bytes = bytes_after state.bytes (cells place row) }) cap (with_statuses statuses place ReadWritten (length row)) touched
unfolding face_after_puts face_after_put
puts_read [] state cap statuses touched place all = refl
puts_read (byte ∷ row) state cap statuses touched place all =
    let first = slice_index state.bytes place in
    let later : State = record state { bytes = slice_set state.bytes place byte } in
    let once : face_after_put (told state cap statuses touched) place byte ≡ told later cap (slice_set statuses place ReadWritten) touched =
    rw (all place (omega arith) (omega arith)) in
    ap (λ (f : Face). face_after_puts f (cells (place + 1) row)) once
    ∙ puts_read row later cap (slice_set statuses place ReadWritten) touched (place + 1) (status_behind (length row) statuses Read place ReadWritten all)

-- marks that fit their places do so after a put at places that were read
pub Fits-read : (m n : ℕ) (statuses : List Status) (touched : List (ℕ × ℕ)) (place : ℕ) → place + m ≤ n → HaveStatus statuses Read place m → Fits n statuses touched
    → Fits n (with_statuses statuses place ReadWritten m) touched
Fits-read zero n statuses touched place within all fits = fits
Fits-read (suc m) n statuses touched place within all fits =
    Fits-read m n (slice_set statuses place ReadWritten) touched (place + 1) (omega arith) (status_behind m statuses Read place ReadWritten all)
    (rw (all place (omega arith) (omega arith)) at (FitPlaces-touch n statuses touched place 0 ReadWritten (omega arith) refl fits))

-- four marks set, one after another
pub statuses-set_4 : (marks : List ℕ) (place mark : ℕ)
    → statuses_of (slice_set (slice_set (slice_set (slice_set marks place mark) (place + 1) mark) (place + 2) mark) (place + 3) mark)
    ≡ with_statuses (statuses_of marks) place (status_of mark) 4
statuses-set_4 marks place mark =
    let second : place + 2 ≡ place + 1 + 1 = omega arith in
    let third : place + 3 ≡ place + 1 + 1 + 1 = omega arith in
    rw (map-set, map-set, map-set, map-set, second, third)
