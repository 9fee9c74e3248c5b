-- How many places steps touch: a step at most so many as room is kept for. A trace touches no more than it may.
use Rattle.std.proofs.Common.{◌≡◌, ℕ, zero, suc, ◌+◌, ◌<◌, ◌≤◌, Bool, true, false, nat_lt, List, [], ◌∷◌, ◌++◌, map, length, replicate, slice_index, filter, Option, Some, None, if◌then◌else◌, refl, sym, ap, subst, ◌∙◌, inl, inr, arith}
use Rattle.std.specs.Prelude.{All, count_by}
use Rattle.std.specs.Option.{option_or}
use Rattle.std.proofs.lemmas.Bool.{cases_eq, cases_lt, lt-ltb, or_left, or_right}
use Rattle.std.proofs.lemmas.List.{length-map}
use Rattle.std.proofs.lemmas.List.Elements.{All-head, All-tail}
use Rattle.std.proofs.lemmas.List.Sums.{length-filter}
use Rattle.asc_model.specs.declared.limits.TheConstants.{STEP_ROOM}
use Rattle.asc_model.specs.declared.status.Status.{Status}
use Rattle.asc_model.specs.declared.status.Status.TheVariants.{Untouched}
use Rattle.asc_model.specs.declared.why.Why.{Why}
use Rattle.asc_model.specs.declared.why.Why.TheVariants as whys
use Rattle.asc_model.specs.Shape.{length_of, is_same_shape}
use Rattle.asc_model.specs.State.{State, IsState}
use Rattle.asc_model.specs.Step.{Next, Went, Call, Faulted, next}
use Rattle.asc_model.specs.Plain.{plain}
use Rattle.asc_model.specs.Places.{places_from, places_read, writes, bytes_after}
use Rattle.asc_model.specs.DependencyVector.{is_among, first_reads, written_in}
use Rattle.asc_model.specs.Entry.{Entry, cells_among, entry_of}
use Rattle.asc_model.specs.Reach.{Bounds, touched_in, bound_met, why_no_step, why_after, reach_from, reach_of}
use Rattle.asc_model.proofs.Entries.{made, entry_at, entry_of-is}
use Rattle.asc_model.proofs.LawsHold.{step_writes_bytes}
use Rattle.asc_model.proofs.PlainSteps.{plain-zero, plain-last, plain-suc_next, plain_steps_join, plain_steps_keep_states}
use Rattle.asc_model.proofs.Registers.{among-append}
use Rattle.asc_model.proofs.Shapes.{is_same_shape-refl}
use Rattle.asc_model.proofs.Touches.{state-TouchesPlaces}
use Rattle.asc_shape.specs.Face.{Face, Marks, Untold, Told, FitPlaces, is_untouched, status_at, status_after_read, status_after_write, marks_after, face_after_read, face_after_put, face_after_reads, face_after_puts}
use Rattle.asc_shape.proofs.Faces.{state-reads, state-puts, count_by-le-count_by}
use Rattle.asc_step.specs.Step.{face_after}
use Rattle.asc_step.proofs.Rooms.{room_after_step}
use Rattle.asc_depvec.specs.Laws.{HasStatusesOf}
use Rattle.asc_depvec.specs.Tracer.{Tracing, cap_of, face_of, fresh}
use Rattle.asc_depvec.proofs.Dependencies.{statuses_follow}
use Rattle.asc_depvec.proofs.Fresh.{Fits-fresh, status_at-replicate}
use Rattle.asc_depvec.proofs.Marking.{Fits, FitPlaces-touch, touched-after_read, touched-after_write}
use Rattle.asc_traj.proofs.Places.{length-touched}

-- ---- marks that are told

-- with this cap, for so many places
abbrev AreTold : (n cap : ℕ) → Marks → Type 0
AreTold n cap Untold = ⊥
AreTold n cap (Told told statuses touched) = (told ≡ cap) × Fits n statuses touched

touch-AreTold : (n cap : ℕ) (change : Status → Status) → ((s : Status) → is_untouched (change s) ≡ false) → (m : Marks) (place byte : ℕ) → place < n → AreTold n cap m → AreTold n cap (marks_after change m place byte)
touch-AreTold n cap change touches Untold place byte within told = told
touch-AreTold n cap change touches (Told told statuses touched) place byte within are =
    (are.0, FitPlaces-touch n statuses touched place byte (change (status_at statuses place)) within (touches (status_at statuses place)) are.1)

module _ (n cap : ℕ) where
  read-AreTold : (f : Face) (place : ℕ) → place < n → AreTold n cap f.marks → AreTold n cap (face_after_read f place).marks
  unfolding face_after_read
  read-AreTold f place within told = touch-AreTold n cap status_after_read touched-after_read f.marks place (slice_index f.state.bytes place) within told

  put-AreTold : (f : Face) (place byte : ℕ) → place < n → AreTold n cap f.marks → AreTold n cap (face_after_put f place byte).marks
  unfolding face_after_put
  put-AreTold f place byte within told = touch-AreTold n cap status_after_write touched-after_write f.marks place (slice_index f.state.bytes place) within told

  reads-AreTold : (f : Face) (places : List ℕ) → All (λ place. place < n) places → AreTold n cap f.marks → AreTold n cap (face_after_reads f places).marks
  unfolding face_after_reads
  reads-AreTold f [] within told = told
  reads-AreTold f (place ∷ places) within told =
      reads-AreTold (face_after_read f place) places (All-tail (λ p. p < n) place places within) (read-AreTold f place (All-head (λ p. p < n) place places within) told)

  puts-AreTold : (f : Face) (cells : List (ℕ × ℕ)) → All (λ place. place < n) (map (λ cell. cell.0) cells) → AreTold n cap f.marks → AreTold n cap (face_after_puts f cells).marks
  unfolding face_after_puts
  puts-AreTold f [] within told = told
  puts-AreTold f (cell ∷ cells) within told =
      puts-AreTold (face_after_put f cell.0 cell.1) cells (All-tail (λ p. p < n) cell.0 (map (λ c. c.0) cells) within) (put-AreTold f cell.0 cell.1 (All-head (λ p. p < n) cell.0 (map (λ c. c.0) cells) within) told)

-- a tracer with this face, which may touch so many places
record Has (cap : ℕ) (f : Face) : Type 0 where
  t : Tracing
  is : face_of t ≡ f
  told : cap_of t ≡ cap
  fits : FitPlaces (length f.state.bytes) (face_of t).marks

with_marks : (s : State) (cap : ℕ) (m : Marks) → AreTold (length s.bytes) cap m → Has cap (record { state = s; marks = m })
with_marks s cap Untold told = absurd told
with_marks s cap (Told told statuses touched) are =
    let same : (if is_same_shape s.shape s.shape then told else 0) ≡ told = ap (λ b. if b then told else 0) (is_same_shape-refl s.shape) in
    record {
      t = record { shape = s.shape; cap = told; state = s; statuses = statuses; touched = touched };
      is = ap (λ c. let f : Face = record { state = s; marks = Told c statuses touched } in f) same;
      told = same ∙ are.0;
      fits = are.1;
    }

-- ---- a tracer of steps

-- it stands where n steps of a start lead, with their statuses
record Traces (cap n : ℕ) (start : State) : Type 0 where
  t : Tracing
  goes : plain n start ≡ Went t.state
  statuses : HasStatusesOf n start t
  fits : FitPlaces (length t.state.bytes) (face_of t).marks
  told : cap_of t ≡ cap

traces-none : (cap : ℕ) (start : State) → IsState start → Traces cap 0 start
unfolding first_reads written_in
traces-none cap start good = record {
  t = fresh start.shape cap start;
  goes = plain-zero start;
  statuses = λ place within. status_at-replicate (length_of start.shape) place;
  fits = subst (λ n. FitPlaces n (face_of (fresh start.shape cap start)).marks) (sym good.length) (Fits-fresh (length_of start.shape) (replicate (length_of start.shape) Untouched) refl);
  told = ap (λ b. if b then cap else 0) (is_same_shape-refl start.shape);
}

at-same : (a b : State) → Went a ≡ Went b → a ≡ b
at-same a b e = cc

-- the state of a face after a step
state-after : (f : Face) (after : State) → IsState f.state → next f.state ≡ Went after → (face_after f).state ≡ after
state-after f after good e =
    state-puts (face_after_reads f (places_read f.state)) (writes f.state)
    ∙ ap (λ (s : State). record s { bytes = bytes_after s.bytes (writes f.state) }) (state-reads f (places_read f.state))
    ∙ sym ((step_writes_bytes f.state good).goes after e)

-- a tracer and that of one step more
record TracesOn (cap n : ℕ) (start : State) (before : Traces cap n start) : Type 0 where
  later : Traces cap (suc n) start
  is : face_of later.t ≡ face_after (face_of before.t)

traces-one : (cap n : ℕ) (start after : State) (before : Traces cap n start) → IsState before.t.state → next before.t.state ≡ Went after → TracesOn cap n start before
traces-one cap n start after before good e =
    let s = before.t.state in
    let f = face_of before.t in
    let g = face_after f in
    let places = state-TouchesPlaces s good in
    let read = face_after_reads f (places_read s) in
    let state : g.state ≡ after = state-after f after good e in
    let size : length g.state.bytes ≡ length s.bytes =
    let kept = plain_steps_keep_states 1 s after good (plain-suc_next 0 s (Went after) e ∙ plain-zero after) in
    ap (λ (u : State). length u.bytes) state ∙ kept.0.length ∙ ap length_of kept.1 ∙ sym good.length in
    let told : AreTold (length s.bytes) cap g.marks =
    puts-AreTold (length s.bytes) cap read (writes s) places.written (reads-AreTold (length s.bytes) cap f (places_read s) places.read (before.told, before.fits)) in
    let has = with_marks g.state cap g.marks (subst (λ m. AreTold m cap g.marks) (sym size) told) in
    let at : has.t.state ≡ after = ap (λ (h : Face). h.state) has.is ∙ state in
    record {
      later = record {
        t = has.t;
        goes = ap (λ k. plain k start) (let one : suc n ≡ n + 1 = omega arith in one) ∙ plain_steps_join n 1 start s before.goes ∙ plain-suc_next 0 s (Went after) e ∙ plain-zero after ∙ ap Went (sym at);
        statuses = statuses_follow n start after before.t has.t before.goes e before.fits before.statuses has.is;
        fits = subst (λ (u : State). FitPlaces (length u.bytes) (face_of has.t).marks) (sym (ap (λ (h : Face). h.state) has.is)) has.fits;
        told = has.told;
      };
      is = has.is;
    }

traces : (cap n : ℕ) (start after : State) → IsState start → plain n start ≡ Went after → Traces cap n start
traces cap zero start after good goes = traces-none cap start good
traces cap (suc n) start after good goes =
    let last = plain-last n start after goes in
    let before = traces cap n start last.0 good last.1 in
    let same : last.0 ≡ before.t.state = at-same last.0 before.t.state (sym last.1 ∙ before.goes) in
    (traces-one cap n start after before (plain_steps_keep_states n start before.t.state good before.goes).0 (ap next (sym same) ∙ last.2)).later

-- it has touched as many places as the steps
touched-all : (cap n : ℕ) (start : State) (x : Traces cap n start) → IsState start → length x.t.touched ≡ touched_in n start
touched-all cap n start x good =
    let kept = plain_steps_keep_states n start x.t.state good x.goes in
    length-touched n start x.t x.fits x.statuses (good.length ∙ sym (ap length_of kept.1) ∙ sym kept.0.length)

-- ---- steps

-- one step more touches no more places than room is kept for
pub touched-more : (n : ℕ) (start after : State) → IsState start → plain (suc n) start ≡ Went after → touched_in (suc n) start ≤ touched_in n start + STEP_ROOM
touched-more n start after good goes =
    let cap = touched_in n start + STEP_ROOM + 1 in
    let last = plain-last n start after goes in
    let before = traces cap n start last.0 good last.1 in
    let same : last.0 ≡ before.t.state = at-same last.0 before.t.state (sym last.1 ∙ before.goes) in
    let state = (plain_steps_keep_states n start before.t.state good before.goes).0 in
    let on = traces-one cap n start after before state (ap next (sym same) ∙ last.2) in
    let room = room_after_step (face_of before.t) (face_of on.later.t) state before.fits on.is in
    let first = touched-all cap n start before good in
    let second = touched-all cap (suc n) start on.later good in
    omega (arith, room, first, second, before.told, on.later.told)

-- the cells of places are no more than are touched
cells-few : (places : List ℕ) (n : ℕ) (s t : State) → length t.bytes ≡ length s.bytes → ((place : ℕ) → is_among place places ≡ true → is_among place (first_reads n s ++ written_in n s) ≡ true)
    → length (cells_among places t) ≤ touched_in n s
cells-few places n s t size among =
    let all = places_from 0 (length s.bytes) in
    let count : length (cells_among places t) ≡ count_by (λ place. is_among place places) all =
    length-map (filter (λ place. is_among place places) (places_from 0 (length t.bytes))) (λ place. (place, slice_index t.bytes place))
    ∙ length-filter (λ place. is_among place places) (places_from 0 (length t.bytes))
    ∙ ap (λ k. count_by (λ place. is_among place places) (places_from 0 k)) size in
    omega (arith, count, count_by-le-count_by (λ place. is_among place places) (λ place. is_among place (first_reads n s ++ written_in n s)) among all)

-- an entry of steps has no more reads than they touch places, and no more writes
pub record IsFew (n : ℕ) (e : Entry) : Type 0 where
  pub reads : length e.reads ≤ n
  pub writes : length e.writes ≤ n

made-few : (n : ℕ) (s after : State) → IsState s → plain n s ≡ Went after → IsFew (touched_in n s) (made n s after)
made-few n s after good goes =
    let kept = plain_steps_keep_states n s after good goes in
    let size : length after.bytes ≡ length s.bytes = kept.0.length ∙ ap length_of kept.1 ∙ sym good.length in
    record {
      reads = cells-few (first_reads n s) n s s refl
          (λ place h. among-append place (first_reads n s) (written_in n s) ∙ or_left (is_among place (first_reads n s)) (is_among place (written_in n s)) h);
      writes = cells-few (written_in n s) n s after size
          (λ place h. among-append place (first_reads n s) (written_in n s) ∙ or_right (is_among place (first_reads n s)) (is_among place (written_in n s)) h);
    }

-- ---- traces

met_none : (found : Option Why) (x : Next) → option_or found (why_no_step x) ≡ None → found ≡ None
met_none None x e = refl
met_none (Some why) x e = absurd (cc)

roomy : (a b : Bool) (touched cap : ℕ) → (if a then Some whys.Lap else (if b then Some whys.Span else (if nat_lt cap (touched + STEP_ROOM) then Some whys.Room else None))) ≡ None → touched + STEP_ROOM ≤ cap
roomy true b touched cap e = absurd (cc)
roomy false true touched cap e = absurd (cc)
roomy false false touched cap e = elim (cases_lt cap (touched + STEP_ROOM)) [
  | inl few ↦
      let test : (if true then Some whys.Room else None) ≡ None = ap (λ b. if b then Some whys.Room else None) (sym (lt-ltb cap (touched + STEP_ROOM) few)) ∙ e in
      absurd (cc)
  | inr many ↦ many
]

-- a trace goes so far, within its span, and before its last step there was room for one
record Goes (bounds : Bounds) (start : State) (least most n : ℕ) : Type 0 where
  from : least ≤ n
  to : n ≤ most
  room : (m : ℕ) → n ≡ suc m → least ≤ m → touched_in m start + STEP_ROOM ≤ bounds.cap

goes-none : (bounds : Bounds) (start : State) (k most n : ℕ) → n ≡ k → k ≤ most → Goes bounds start k most n
goes-none bounds start k most n e le = record {
  from = omega arith;
  to = omega arith;
  room = λ m is least. absurd (omega arith);
}

-- where a trace that goes on after k steps ends
abbrev turn : Bounds → State → (k fuel : ℕ) → Option Why → Next → ℕ
turn bounds start k fuel (Some why) x = k
turn bounds start k fuel None (Went after) = reach_from bounds start (k + 1) fuel after
turn bounds start k fuel None Call = k
turn bounds start k fuel None (Faulted fault) = k

reach_from-suc : (bounds : Bounds) (start : State) (k fuel : ℕ) (now : State) → reach_from bounds start k (suc fuel) now ≡ turn bounds start k fuel (why_after bounds k start now) (next now)
unfolding reach_from
reach_from-suc bounds start k fuel now =
    elim (why_after bounds k start now) as (λ w. elim w [
      | Some why ↦ k
      | None ↦ elim (next now) [ Went after ↦ reach_from bounds start (k + 1) fuel after | Call ↦ k | Faulted fault ↦ k ]
    ] ≡ turn bounds start k fuel w (next now)) [
      | Some why ↦ refl
      | None ↦ elim (next now) as (λ x. elim x [ Went after ↦ reach_from bounds start (k + 1) fuel after | Call ↦ k | Faulted fault ↦ k ] ≡ turn bounds start k fuel None x) [
        | Went after ↦ refl
        | Call ↦ refl
        | Faulted fault ↦ refl
      ]
    ]

goes-turn : (bounds : Bounds) (start : State) (k fuel : ℕ) (now : State) (w : Option Why) (x : Next) → why_after bounds k start now ≡ w
    → ((after : State) → Goes bounds start (k + 1) (k + 1 + fuel) (reach_from bounds start (k + 1) fuel after)) → Goes bounds start k (k + suc fuel) (turn bounds start k fuel w x)
goes-turn bounds start k fuel now (Some why) x e rest = goes-none bounds start k (k + suc fuel) k refl (omega arith)
goes-turn bounds start k fuel now None Call e rest = goes-none bounds start k (k + suc fuel) k refl (omega arith)
goes-turn bounds start k fuel now None (Faulted fault) e rest = goes-none bounds start k (k + suc fuel) k refl (omega arith)
goes-turn bounds start k fuel now None (Went after) e rest =
    let later = rest after in
    let room = roomy _ _ (touched_in k start) bounds.cap (met_none (bound_met bounds k start) (next now) e) in
    record {
      from = omega (arith, later.from);
      to = omega (arith, later.to);
      room = λ m is least. elim (cases_eq m k) [
        | inl same ↦ subst (λ j. touched_in j start + STEP_ROOM ≤ bounds.cap) (sym same) room
        | inr other ↦ later.room m is (omega (arith, other))
      ];
    }

reach_from-zero : (bounds : Bounds) (start : State) (k : ℕ) (now : State) → reach_from bounds start k 0 now ≡ k
unfolding reach_from
reach_from-zero bounds start k now = refl

goes-from : (bounds : Bounds) (start : State) (fuel k : ℕ) (now : State) → Goes bounds start k (k + fuel) (reach_from bounds start k fuel now)
goes-from bounds start zero k now = goes-none bounds start k (k + 0) (reach_from bounds start k 0 now) (reach_from-zero bounds start k now) (omega arith)
goes-from bounds start (suc fuel) k now =
    subst (Goes bounds start k (k + suc fuel)) (sym (reach_from-suc bounds start k fuel now))
    (goes-turn bounds start k fuel now (why_after bounds k start now) (next now) refl (λ after. goes-from bounds start fuel (k + 1) after))

-- a trace takes at most the steps of its span
pub within_span : (bounds : Bounds) (start : State) → reach_of bounds start ≤ bounds.span
within_span bounds start = omega (arith, (goes-from bounds start bounds.span 0 start).to)

-- where it takes a step it touches no more places than it may
touched-within : (bounds : Bounds) (start after : State) (n : ℕ) → IsState start → reach_of bounds start ≡ n → 1 ≤ n → plain n start ≡ Went after → touched_in n start ≤ bounds.cap
touched-within bounds start after zero good is some goes = absurd (omega arith)
touched-within bounds start after (suc m) good is some goes =
    omega (arith, touched-more m start after good goes, (goes-from bounds start bounds.span 0 start).room m is (omega arith))

by_next : (bounds : Bounds) (start : State) (e : Entry) (x : Next) → IsState start → 1 ≤ reach_of bounds start → plain (reach_of bounds start) start ≡ x
    → entry_at (reach_of bounds start) start x ≡ Some e → IsFew bounds.cap e
by_next bounds start e (Went after) good some goes h =
    let n = reach_of bounds start in
    let few = made-few n start after good goes in
    let all = touched-within bounds start after n good refl some goes in
    let same : made n start after ≡ e = cc in
    subst (IsFew bounds.cap) same (record { reads = omega (arith, few.reads, all); writes = omega (arith, few.writes, all) })
by_next bounds start e Call good some goes h = absurd (cc)
by_next bounds start e (Faulted fault) good some goes h = absurd (cc)

-- the entry of a trace has no more reads, and no more writes, than the trace may touch places
pub trace-few : (bounds : Bounds) (start : State) (e : Entry) → IsState start → 1 ≤ reach_of bounds start → entry_of (reach_of bounds start) start ≡ Some e → IsFew bounds.cap e
trace-few bounds start e good some h =
    let n = reach_of bounds start in
    by_next bounds start e (plain n start) good some refl (sym (entry_of-is n start (plain n start) refl) ∙ h)

-- an entry of steps has the shape of their start, and their number
abbrev IsOf : ℕ → State → Entry → Type 0
IsOf n s e = (e.shape ≡ s.shape) × (e.steps ≡ n)

shape-by_next : (n : ℕ) (s : State) (e : Entry) (x : Next) → entry_at n s x ≡ Some e → IsOf n s e
shape-by_next n s e (Went after) h = let same : made n s after ≡ e = cc in subst (IsOf n s) same (refl, refl)
shape-by_next n s e Call h = absurd (cc)
shape-by_next n s e (Faulted fault) h = absurd (cc)

pub entry_of-shape : (n : ℕ) (s : State) (e : Entry) → entry_of n s ≡ Some e → (e.shape ≡ s.shape) × (e.steps ≡ n)
entry_of-shape n s e h = shape-by_next n s e (plain n s) (sym (entry_of-is n s (plain n s) refl) ∙ h)
