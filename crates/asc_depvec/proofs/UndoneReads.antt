-- Reads that are taken back.
use Rattle.std.proofs.Common.{◌≡◌, ℕ, Bool, true, false, List, [], ◌∷◌, ◌++◌, length, take, drop, refl, ap, ◌∙◌, slice_index, slice_set, append_assoc, arith, if◌then◌else◌}
use Rattle.std.proofs.lemmas.List.{set-set, set-get_or, append-nil, take_at, drop_at}
use Rattle.asc_model.specs.declared.status.Status.{Status}
use Rattle.asc_model.specs.State.{State}
use Rattle.asc_model.specs.Places.{bytes_after}
use Rattle.asc_model.proofs.Numbers.{bytes_after-append}
use Rattle.asc_shape.specs.Face.{Face, Marks, Untold, Told, status_at, is_untouched, status_after_read, face_after_read, face_after_reads}
use Rattle.asc_depvec.specs.Tracer.{cap_of, face_of, untouch}
use Rattle.asc_depvec.specs.Laws.{ReadsAreUndone}
use Rattle.asc_depvec.proofs.Marking.{untouched_is}
use Rattle.asc_depvec.proofs.Rows.{told}
use Rattle.asc_depvec.proofs.Undoing.{untouch-append}

-- A face to which reads lead: more places are listed, and these untouched again leave the statuses from before. They
-- are listed with the bytes that they have.
record IsReadFrom (state : State) (cap : ℕ) (statuses : List Status) (touched : List (ℕ × ℕ)) (f : Face) : Type 0 where
  pub later : List Status
  pub fresh : List (ℕ × ℕ)
  pub face : f ≡ told state cap later (touched ++ fresh)
  pub back : untouch later fresh ≡ statuses
  pub bytes : bytes_after state.bytes fresh ≡ state.bytes

-- a read of a place that is touched leaves its status
touched_stays : (s : Status) → is_untouched s ≡ false → status_after_read s ≡ s
touched_stays s e = grind arith

-- one read
read_by : (state : State) (cap : ℕ) (statuses : List Status) (touched : List (ℕ × ℕ)) (place : ℕ) (b : Bool) → is_untouched (status_at statuses place) ≡ b
    → IsReadFrom state cap statuses touched (told state cap (slice_set statuses place (status_after_read (status_at statuses place))) (if b then touched ++ (place, slice_index state.bytes place) ∷ [] else touched))
read_by state cap statuses touched place true e = record {
  later = slice_set statuses place (status_after_read (status_at statuses place));
  fresh = (place, slice_index state.bytes place) ∷ [];
  face = refl;
  back = rw (set-set, ← untouched_is (status_at statuses place) e, set-get_or);
  bytes = set-get_or state.bytes place 0;
}
read_by state cap statuses touched place false e = record {
  later = slice_set statuses place (status_after_read (status_at statuses place));
  fresh = [];
  face = rw append-nil;
  back = rw (touched_stays (status_at statuses place) e, set-get_or);
  bytes = refl;
}

read_once : (state : State) (cap : ℕ) (statuses : List Status) (touched : List (ℕ × ℕ)) (place : ℕ) → IsReadFrom state cap statuses touched (face_after_read (told state cap statuses touched) place)
unfolding face_after_read
read_once state cap statuses touched place = read_by state cap statuses touched place (is_untouched (status_at statuses place)) refl

-- one read more
read_more : (state : State) (cap : ℕ) (statuses : List Status) (touched : List (ℕ × ℕ)) (f : Face) (place : ℕ) → IsReadFrom state cap statuses touched f → IsReadFrom state cap statuses touched (face_after_read f place)
read_more state cap statuses touched f place before =
    let once = read_once state cap before.later (touched ++ before.fresh) place in
    record {
      later = once.later;
      fresh = before.fresh ++ once.fresh;
      face = rw (before.face, once.face, append_assoc);
      back = rw (untouch-append, once.back, before.back);
      bytes = rw (bytes_after-append, before.bytes, once.bytes);
    }

read_all : (state : State) (cap : ℕ) (statuses : List Status) (touched : List (ℕ × ℕ)) (f : Face) (places : List ℕ) → IsReadFrom state cap statuses touched f → IsReadFrom state cap statuses touched (face_after_reads f places)
unfolding face_after_reads
read_all state cap statuses touched f [] before = before
read_all state cap statuses touched f (place ∷ places) before = read_all state cap statuses touched (face_after_read f place) places (read_more state cap statuses touched f place before)

-- what taking back makes of a face
undone_marks : Marks → ℕ → Marks
undone_marks Untold count = Untold
undone_marks (Told cap statuses touched) count = Told cap (untouch statuses (drop count touched)) (take count touched)

undone_state : State → Marks → ℕ → State
undone_state state Untold count = state
undone_state state (Told cap statuses touched) count = record state { bytes = bytes_after state.bytes (drop count touched) }

undone_face : Face → ℕ → Face
undone_face f count = record { state = undone_state f.state f.marks count; marks = undone_marks f.marks count }

undone_read : (state : State) (cap : ℕ) (statuses : List Status) (touched : List (ℕ × ℕ)) (f : Face) → IsReadFrom state cap statuses touched f → undone_face f (length touched) ≡ told state cap statuses touched
unfolding undone_face undone_marks undone_state
undone_read state cap statuses touched f read =
    rw (read.face, drop_at touched read.fresh (length touched) refl, take_at touched read.fresh (length touched) refl, read.back, read.bytes)

pub reads_are_undone : ReadsAreUndone
unfolding undone_face undone_marks undone_state
reads_are_undone before now places e =
    let nothing : IsReadFrom before.state (cap_of before) before.statuses before.touched (face_of before) =
    record { later = before.statuses; fresh = []; face = rw append-nil; back = refl; bytes = refl } in
    ap (λ (f : Face). undone_face f (length before.touched)) e
    ∙ undone_read before.state (cap_of before) before.statuses before.touched (face_after_reads (face_of before) places)
    (read_all before.state (cap_of before) before.statuses before.touched (face_of before) places nothing)
