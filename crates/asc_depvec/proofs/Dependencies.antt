-- The statuses of steps.
use Rattle.std.proofs.Common.{◌≡◌, ℕ, zero, suc, ◌<◌, ◌==◌, ◌&&◌, ◌||◌, Bool, true, false, not, List, [], ◌∷◌, ◌++◌, length, map, refl, sym, ap, ◌∙◌, slice_index, arith, if◌then◌else◌}
use Rattle.std.proofs.lemmas.List.{get_or-set_other, length-set}
use Rattle.std.proofs.lemmas.Grind.{get_or-set_at}
use Rattle.std.proofs.lemmas.List.Folds.{list_any-append}
use Rattle.asc_model.specs.declared.status.Status.{Status}
use Rattle.asc_model.specs.declared.status.Status.TheVariants.{Untouched}
use Rattle.asc_model.specs.State.{State}
use Rattle.asc_model.specs.Step.{Went, next}
use Rattle.asc_model.specs.Plain.{plain}
use Rattle.asc_model.specs.Places.{places_read, places_written, writes}
use Rattle.asc_model.specs.DependencyVector.{is_among, without, first_reads, written_in}
use Rattle.asc_model.proofs.Numbers.{length-bytes_after}
use Rattle.asc_model.proofs.PlainSteps.{plain-none, plain-first}
use Rattle.asc_shape.specs.Face.{Face, Marks, Untold, Told, status_at, status_after_read, status_after_write, marks_after, face_after_read, face_after_put, face_after_reads, face_after_puts}
use Rattle.asc_shape.proofs.Faces.{state-reads, state-puts}
use Rattle.asc_depvec.specs.Tracer.{face_of}
use Rattle.asc_depvec.specs.Dependency.{status_by}
use Rattle.asc_depvec.specs.Laws.{StatusesFollow, NoStatuses}

-- ---- a status after reads and then writes

abbrev after : (read written : Bool) → Status → Status
after true true status = status_after_write (status_after_read status)
after true false status = status_after_read status
after false true status = status_after_write status
after false false status = status

read_twice : (s : Status) → status_after_read (status_after_read s) ≡ status_after_read s
read_twice s = grind arith

written_twice : (s : Status) → status_after_write (status_after_write s) ≡ status_after_write s
written_twice s = grind arith

-- Reads and writes, and then others: a read counts where it comes before all writes.
after-after : (r w r' w' : Bool) (s : Status) → after (r || (r' && not w)) (w || w') s ≡ after r' w' (after r w s)
after-after r w r' w' s = grind arith

-- from an untouched place it is the status by whether it was read and written
status_by-after : (r w : Bool) → status_by r w ≡ after r w Untouched
status_by-after r w = grind arith

-- ---- the places of steps

-- a place is among those left if it is among all and not among the others
among_by : (place first : ℕ) (others places : List ℕ) → is_among place (without others places) ≡ is_among place places && not (is_among place others)
    → is_among place (without others (first ∷ places)) ≡ (first == place || is_among place places) && not (is_among place others)
among_by place first others places rest = grind arith

among_without : (place : ℕ) (others places : List ℕ) → is_among place (without others places) ≡ is_among place places && not (is_among place others)
among_without place others [] = refl
among_without place others (first ∷ places) = among_by place first others places (among_without place others places)

first_reads-suc : (n : ℕ) (s first : State) → next s ≡ Went first → first_reads (suc n) s ≡ places_read s ++ without (places_written s) (first_reads n first)
unfolding first_reads
first_reads-suc n s first e = rw (e, first_reads)

written_in-suc : (n : ℕ) (s first : State) → next s ≡ Went first → written_in (suc n) s ≡ places_written s ++ written_in n first
unfolding written_in
written_in-suc n s first e = rw (e, written_in)

-- the status of a place after n steps, from any status before them
abbrev after_steps : ℕ → State → (place : ℕ) → Status → Status
after_steps n s place status = after (is_among place (first_reads n s)) (is_among place (written_in n s)) status

-- after one step
abbrev after_step : State → (place : ℕ) → Status → Status
after_step s place status = after (is_among place (places_read s)) (is_among place (places_written s)) status

after_steps-none : (s : State) (place : ℕ) (status : Status) → after_steps 0 s place status ≡ status
unfolding first_reads written_in
after_steps-none s place status = refl

-- by the first step
after_steps-first : (n : ℕ) (s first : State) (place : ℕ) (status : Status) → next s ≡ Went first → after_steps (suc n) s place status ≡ after_steps n first place (after_step s place status)
after_steps-first n s first place status e =
    simp (first_reads-suc n s first e, written_in-suc n s first e, list_any-append, among_without) (after-after _ _ _ _ status)

-- by the last step
after_steps-last : (n : ℕ) (s before later : State) (place : ℕ) (status : Status) → plain n s ≡ Went before → next before ≡ Went later
    → after_steps (suc n) s place status ≡ after_step before place (after_steps n s place status)
after_steps-last zero s before later place status h e =
    let same = plain-none s before h in
    rw (after_steps-first 0 s later place status (rw same e), after_steps-none, after_steps-none, same)
after_steps-last (suc n) s before later place status h e =
    let first = plain-first n s before h in
    rw (after_steps-first n s first.0 place status first.1, after_steps-first (suc n) s first.0 place status first.1)
    (after_steps-last n first.0 before later place (after_step s place status) first.2 e)

pub no_statuses : NoStatuses
no_statuses start place = status_by-after _ _ ∙ after_steps-none start place Untouched

-- ---- the statuses of a face

abbrev statuses_of : Marks → List Status
statuses_of Untold = []
statuses_of (Told cap statuses touched) = statuses

length-marked : (change : Status → Status) (marks : Marks) (place byte : ℕ) → length (statuses_of (marks_after change marks place byte)) ≡ length (statuses_of marks)
length-marked change Untold place byte = refl
length-marked change (Told cap statuses touched) place byte = length-set statuses place (change (status_at statuses place))

-- the status of a place after a touch of the same or another one
marked : (change : Status → Status) (marks : Marks) (place byte k : ℕ) → k < length (statuses_of marks)
    → status_at (statuses_of (marks_after change marks place byte)) k ≡ (if place == k then change (status_at (statuses_of marks) k) else status_at (statuses_of marks) k)
marked change Untold place byte k within = absurd (omega arith)
marked change (Told cap statuses touched) place byte k within = grind (arith, get_or-set_at, get_or-set_other)

read_marked : (f : Face) (place k : ℕ) → k < length (statuses_of f.marks) → status_at (statuses_of (face_after_read f place).marks) k ≡ after (place == k) false (status_at (statuses_of f.marks) k)
unfolding face_after_read
read_marked f place k within = let e = marked status_after_read f.marks place (slice_index f.state.bytes place) k within in grind arith

put_marked : (f : Face) (place byte k : ℕ) → k < length (statuses_of f.marks) → status_at (statuses_of (face_after_put f place byte).marks) k ≡ after false (place == k) (status_at (statuses_of f.marks) k)
unfolding face_after_put
put_marked f place byte k within = let e = marked status_after_write f.marks place (slice_index f.state.bytes place) k within in grind arith

read_join : (a b : Bool) (s : Status) → after b false (after a false s) ≡ after (a || b) false s
read_join a b s = grind (arith, read_twice)

put_join : (a b : Bool) (s : Status) → after false b (after false a s) ≡ after false (a || b) s
put_join a b s = grind (arith, written_twice)

both_join : (r w : Bool) (s : Status) → after false w (after r false s) ≡ after r w s
both_join r w s = grind arith

-- the status of a place after reads, and after puts
reads_marked : (f : Face) (places : List ℕ) (k : ℕ) → k < length (statuses_of f.marks) → status_at (statuses_of (face_after_reads f places).marks) k ≡ after (is_among k places) false (status_at (statuses_of f.marks) k)
unfolding face_after_reads face_after_read
reads_marked f [] k within = refl
reads_marked f (place ∷ places) k within =
    reads_marked (face_after_read f place) places k (omega (arith, length-marked status_after_read f.marks place (slice_index f.state.bytes place)))
    ∙ ap (after (is_among k places) false) (read_marked f place k within)
    ∙ read_join (place == k) (is_among k places) (status_at (statuses_of f.marks) k)

puts_marked : (f : Face) (cells : List (ℕ × ℕ)) (k : ℕ) → k < length (statuses_of f.marks)
    → status_at (statuses_of (face_after_puts f cells).marks) k ≡ after false (is_among k (map (λ cell. cell.0) cells)) (status_at (statuses_of f.marks) k)
unfolding face_after_puts face_after_put
puts_marked f [] k within = refl
puts_marked f (cell ∷ cells) k within =
    puts_marked (face_after_put f cell.0 cell.1) cells k (omega (arith, length-marked status_after_write f.marks cell.0 (slice_index f.state.bytes cell.0)))
    ∙ ap (after false (is_among k (map (λ c. c.0) cells))) (put_marked f cell.0 cell.1 k within)
    ∙ put_join (cell.0 == k) (is_among k (map (λ c. c.0) cells)) (status_at (statuses_of f.marks) k)

length-reads_marked : (f : Face) (places : List ℕ) → length (statuses_of (face_after_reads f places).marks) ≡ length (statuses_of f.marks)
unfolding face_after_reads face_after_read
length-reads_marked f [] = refl
length-reads_marked f (place ∷ places) = length-reads_marked (face_after_read f place) places ∙ length-marked status_after_read f.marks place (slice_index f.state.bytes place)

-- the number of bytes after them
length-touched : (f : Face) (places : List ℕ) (cells : List (ℕ × ℕ)) → length (face_after_puts (face_after_reads f places) cells).state.bytes ≡ length f.state.bytes
length-touched f places cells = rw (state-puts, length-bytes_after, state-reads)

pub statuses_follow : StatusesFollow
statuses_follow n start next_state t later h e fits has is = λ place within.
    let s = t.state in
    let f : Face = face_of t in
    let size : length later.state.bytes ≡ length s.bytes = ap (λ (g : Face). length g.state.bytes) is ∙ length-touched f (places_read s) (writes s) in
    let here : place < length t.state.bytes = omega arith in
    let known : place < length t.statuses = omega (arith, fits.0) in
    let read : Face = face_after_reads f (places_read s) in
    ap (λ (g : Face). status_at (statuses_of g.marks) place) is
    ∙ puts_marked read (writes s) place (omega (arith, length-reads_marked f (places_read s)))
    ∙ ap (after false (is_among place (places_written s))) (reads_marked f (places_read s) place known)
    ∙ both_join (is_among place (places_read s)) (is_among place (places_written s)) (status_at t.statuses place)
    ∙ ap (after_step s place) (has place here ∙ status_by-after (is_among place (first_reads n start)) (is_among place (written_in n start)))
    ∙ sym (after_steps-last n start s next_state place Untouched h e)
    ∙ sym (status_by-after (is_among place (first_reads (suc n) start)) (is_among place (written_in (suc n) start)))
