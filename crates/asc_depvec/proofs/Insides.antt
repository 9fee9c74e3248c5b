-- Lemmas on a tracer's fields: the tracer that they stand for, and what touches make of it.
use Rattle.std.proofs.Common.{◌≡◌, ◌≢◌, ℕ, zero, suc, ◌+◌, ◌-◌, ◌*◌, ◌/◌, ◌%◌, ◌^◌, ◌<◌, ◌≤◌, true, false, List, [], ◌∷◌, ◌++◌, length, map, take, drop, replicate, refl, sym, ap, subst, ◌∙◌, slice_index, slice_index_or, arith, length-append, if◌then◌else◌}
use Rattle.std.specs.Prelude.{All, vec_capacity, vec_len}
use Rattle.std.specs.Vec.{with_item, with_items}
use Rattle.std.specs.Global.{Vec}
use Rattle.std.proofs.lemmas.List.{get_or-map, get_or_read, length-map, length-replicate, map-set, set-get_or, with_items_is, take-append-drop}
use Rattle.std.proofs.lemmas.Bool.{false≢true, lt-ltb}
use Rattle.std.proofs.lemmas.List.Elements.{All-cons, All-nil}
use Rattle.asc_depvec.specs.declared.tracer.TheConstants.{MOST_CAP}
use Rattle.asc_model.specs.declared.status.Status.{Status}
use Rattle.asc_model.specs.declared.status.Status.TheVariants.{Untouched, Read, Written, ReadWritten}
use Rattle.asc_model.specs.Number.{AreBytes, bytes_of, word_at}
use Rattle.asc_model.specs.declared.version.Version.{Version}
use Rattle.asc_model.specs.declared.version.Version.TheVariants.{One, Two}
use Rattle.asc_model.specs.Shape.{Shape, IsShape, length_of, start_of}
use Rattle.asc_model.specs.State.{State, IsState}
use Rattle.asc_model.specs.Places.{bytes_after, cells, places_from}
use Rattle.asc_model.proofs.Numbers.{length-bytes_after}
use Rattle.asc_model.proofs.Shapes.{is_same_shape-same}
use Rattle.asc_shape.specs.Face.{Face, Told, FitPlaces, status_at, is_untouched, status_after_write, face_after_read, face_after_put, face_after_reads, face_after_puts, room_of, untouched_count}
use Rattle.asc_shape.specs.Settled.{IsReadWord, IsSettled, is_only_read, unwritten_count}
use Rattle.asc_shape.specs.State.{zero_state}
use Rattle.asc_shape.proofs.Guesses.{bytes_at, bytes_of-number_at}
use Rattle.asc_shape.proofs.Strides.{word_same}
use Rattle.asc_depvec.specs.declared.tracer.Tracer.TheInside.{Inside}
use Rattle.asc_depvec.specs.Touched.{Listing}
use Rattle.asc_depvec.specs.Tracer.{HaveStatus, IsTracing, Tracing, cap_of, face_of, fresh, places_of, start_of_face, undone}
use Rattle.asc_depvec.specs.Inside.{AreWritten, IsTracer, Keeps, TellAmong, TellNoMore, TellSettled, given, is_kept, marked, mixed, noted, settled_mark, status_of, statuses_of, tracing_of, with_statuses, without}
use Rattle.asc_depvec.proofs.Fresh.{Fits-fresh, status_at-replicate, statuses-replicate, untouch-all}
use Rattle.asc_depvec.proofs.Items.{All-behind, item_of_place, item_of_word, places_of-more}
use Rattle.asc_depvec.proofs.Kept.{kept-back, kept-fresh, kept-puts, kept-row, length-given}
use Rattle.asc_depvec.proofs.Marking.{Fits}
use Rattle.asc_depvec.proofs.Mixed.{AreBytes-mixed, bytes_at-mixed, length-mixed, length-noted, mixed-at, mixed-fresh, mixed-given, mixed-puts, mixed-row, mixed-without, noted-append, noted-drop, noted-row, noted-take, untouch-noted}
use Rattle.asc_depvec.proofs.Rows.{Fits-new, Fits-read, put-same, puts_new, puts_read, reads_new, told}
use Rattle.asc_depvec.proofs.Undoing.{FitPlaces-untouch, touched-within}
use Rattle.asc_shape.proofs.Settled.{have_statuses, read_touched, reads_touched, untouched_count-one}
use Rattle.asc_depvec.proofs.Settling.{less-marked, less-set, read_word_of, tell_after_puts, tell_after_reads, tell_fresh, tell_more, tell_none, written_all}
use Rattle.asc_depvec.proofs.Words.{all_touched, count-list, other_mark, puts_written, written_one}

-- ---- what holds of the tracer that fields stand for

pub length-statuses : (t : Inside) → IsTracer t → length (statuses_of t.marks.items) ≡ length t.start.bytes
length-statuses t inv = inv.places.0 ∙ sym (inv.start.length ∙ ap length_of inv.own)

pub length-bytes : (t : Inside) → IsTracer t → length t.bytes.items ≡ length t.start.bytes
length-bytes t inv = inv.size ∙ sym (inv.start.length ∙ ap length_of inv.own)

pub length-marks : (t : Inside) → IsTracer t → length t.marks.items ≡ length_of t.shape
length-marks t inv = sym (length-map t.marks.items status_of) ∙ inv.places.0

length-view : (t : Inside) → IsTracer t → length (mixed t.start.bytes t.bytes.items (statuses_of t.marks.items)) ≡ length_of t.shape
length-view t inv =
    length-mixed t.start.bytes t.bytes.items (statuses_of t.marks.items) (length-bytes t inv) (length-statuses t inv) ∙ inv.start.length ∙ ap length_of inv.own

pub size_told : (t : Inside) (now : Tracing) → tracing_of t ≡ now → IsTracer t → length now.state.bytes ≡ length_of t.shape
size_told t now is inv = rw (← is) (length-view t inv)

pub shape_told : (t : Inside) (now : Tracing) → tracing_of t ≡ now → now.state.shape ≡ t.shape
shape_told t now is = rw (← is)

pub IsState-view : (t : Inside) (now : Tracing) → tracing_of t ≡ now → IsTracer t → AreBytes t.bytes.items → IsState now.state
IsState-view t now is inv bytes = rw (← is) (record {
  shape = rw inv.own at inv.start.shape;
  length = length-view t inv;
  bytes = AreBytes-mixed t.start.bytes t.bytes.items (statuses_of t.marks.items) inv.start.bytes bytes;
})

pub Fits-view : (t : Inside) (now : Tracing) → tracing_of t ≡ now → IsTracer t → FitPlaces (length now.state.bytes) (face_of now).marks
Fits-view t now is inv = rw (← is, length-view t inv) inv.places

pub IsTracing-view : (t : Inside) (now : Tracing) → tracing_of t ≡ now → IsTracer t → IsTracing now
IsTracing-view t now is inv = rw (← is) (record { cap = inv.cap; room = rw length-noted inv.room; own = λ some. refl; same = refl })

pub room_told : (t : Inside) (now : Tracing) → tracing_of t ≡ now → t.cap - length (places_of t.touched.items) ≡ room_of (face_of now).marks
room_told t now is = rw (← is, is_same_shape-same t.shape t.shape refl, length-noted)

-- so many places more may be touched
pub room_for : (t : Inside) (now : Tracing) (least : ℕ) → tracing_of t ≡ now → 1 ≤ least → least ≤ room_of (face_of now).marks
    → length (places_of t.touched.items) + least ≤ t.cap
room_for t now least is some h = omega (arith, room_told t now is, some, h)

-- how many places are touched
pub count_told : (t : Inside) (now : Tracing) → tracing_of t ≡ now → length now.touched ≡ length (places_of t.touched.items)
count_told t now is = rw (← is) (length-noted t.start.bytes (places_of t.touched.items))

-- the byte at a place
pub byte_told : (t : Inside) (now : Tracing) (place : ℕ) → tracing_of t ≡ now → IsTracer t
    → slice_index now.state.bytes place ≡ (if is_untouched (status_at (statuses_of t.marks.items) place) then slice_index t.start.bytes place else slice_index t.bytes.items place)
byte_told t now place is inv = rw (← is) (mixed-at t.start.bytes t.bytes.items (statuses_of t.marks.items) place (length-bytes t inv) (length-statuses t inv))

-- words of which each byte is the same
word_alike : (a b : List ℕ) (place : ℕ) → ((k : ℕ) → place ≤ k → k < place + 4 → slice_index a k ≡ slice_index b k) → word_at a place ≡ word_at b place
word_alike a b place same =
    word_same a b place place (same place (omega arith) (omega arith)) (same (place + 1) (omega arith) (omega arith))
    (same (place + 2) (omega arith) (omega arith)) (same (place + 3) (omega arith) (omega arith))

-- ---- starts

-- all places untouched again
pub all_back : (t : Inside) → IsTracer t → without (statuses_of t.marks.items) (places_of t.touched.items) ≡ replicate (length_of t.shape) Untouched
all_back t inv =
    rw (← untouch-noted (statuses_of t.marks.items) t.start.bytes (places_of t.touched.items))
    (untouch-all (length_of t.shape) (statuses_of t.marks.items) (noted t.start.bytes (places_of t.touched.items)) inv.places)

mixed-all : (n : ℕ) (start bytes : List ℕ) (statuses : List Status) → length start ≡ n → length bytes ≡ n → statuses ≡ replicate n Untouched → mixed start bytes statuses ≡ start
mixed-all n start bytes statuses size same all = rw (all, ← size) (mixed-fresh start bytes (same ∙ sym size))

pub started : (t : Inside) (now : Tracing) → tracing_of t ≡ now → IsTracer t → t.start ≡ start_of_face (face_of now)
started t now is inv =
    let back = mixed-all (length_of t.shape) t.start.bytes t.bytes.items _ (inv.start.length ∙ ap length_of inv.own) inv.size (all_back t inv) in
    rw (← is, ← mixed-without t.start.bytes t.bytes.items (statuses_of t.marks.items) (places_of t.touched.items), back, ← inv.own)

-- fields of which nothing is touched stand for a tracer of the start
pub fresh_is : (shape : Shape) (cap : ℕ) (start : State) (bytes : List ℕ) (statuses : List Status) (items : List ℕ) → IsState start → start.shape ≡ shape → length bytes ≡ length_of shape
    → statuses ≡ replicate (length_of shape) Untouched → items ≡ []
    → (let v : Tracing = record { shape = shape; cap = cap; state = record { shape = shape; bytes = mixed start.bytes bytes statuses }; statuses = statuses; touched = noted start.bytes (places_of items) } in v)
    ≡ fresh shape cap start
fresh_is shape cap start bytes statuses items good own size all none =
    rw (none, mixed-all (length_of shape) start.bytes bytes statuses (good.length ∙ ap length_of own) size all, all, ← own)

-- ---- what is left

-- the fields with other bytes, marks and items
abbrev pub later : Inside → Vec ℕ → Vec ℕ → Listing → Inside
later t bytes marks touched = record { shape = t.shape; cap = t.cap; start = t.start; bytes = bytes; marks = marks; touched = touched; blocks = t.blocks; groups = t.groups; used = t.used }

-- They have these statuses and these touched places, which fit.
pub record Leaves (t : Inside) (bytes marks : Vec ℕ) (touched : Listing) (after : List Status) (list : List ℕ) : Type 0 where
  pub size : length bytes.items ≡ length t.bytes.items
  pub statuses : statuses_of marks.items ≡ after
  pub listed : places_of touched.items ≡ list
  pub room : length list ≤ t.cap
  pub cap : touched.cap ≡ t.touched.cap
  pub fits : Fits (length_of t.shape) after (noted t.start.bytes list)
  pub kept : Keeps t.start.bytes bytes.items after

-- they stand for a tracer again
pub IsTracer-later : (t : Inside) (bytes marks : Vec ℕ) (touched : Listing) (after : List Status) (list : List ℕ) → IsTracer t → Leaves t bytes marks touched after list
    → TellSettled (face_of (tracing_of (later t bytes marks touched))) marks.items → IsTracer (later t bytes marks touched)
IsTracer-later t bytes marks touched after list inv did settled = record {
  cap = inv.cap;
  own = inv.own;
  start = inv.start;
  size = did.size ∙ inv.size;
  room = rw did.listed did.room;
  filled = did.cap ∙ inv.filled;
  places = rw (did.statuses, did.listed) did.fits;
  kept = rw did.statuses did.kept;
  settled = settled;
  blocks = inv.blocks;
  groups = inv.groups;
  few_blocks = inv.few_blocks;
  clear = inv.clear;
  clear_groups = inv.clear_groups;
  none_used = inv.none_used;
  room_used = inv.room_used;
}

-- what code sees of these bytes, statuses and touched places
abbrev seen : Inside → List ℕ → List Status → List ℕ → Face
seen t bytes statuses places =
    told (record { shape = t.shape; bytes = mixed t.start.bytes bytes statuses }) (cap_of (tracing_of t)) statuses (noted t.start.bytes places)

-- What a call leaves: fields that stand for a tracer again, and what code sees of it then.
pub record Left (t : Inside) (bytes marks : Vec ℕ) (touched : Listing) (change : Face → Face) : Type 0 where
  pub inv : IsTracer (later t bytes marks touched)
  pub face : (now : Tracing) → tracing_of t ≡ now → face_of (tracing_of (later t bytes marks touched)) ≡ change (face_of now)

-- settled words stay so through reads
Left-reads : (t : Inside) (bytes marks : Vec ℕ) (touched : Listing) (after : List Status) (list places : List ℕ) → IsTracer t → Leaves t bytes marks touched after list
    → TellNoMore t.marks.items marks.items → seen t bytes.items after list ≡ face_after_reads (face_of (tracing_of t)) places
    → Left t bytes marks touched (λ f. face_after_reads f places)
Left-reads t bytes marks touched after list places inv did less is =
    let face : face_of (tracing_of (later t bytes marks touched)) ≡ face_after_reads (face_of (tracing_of t)) places = rw (did.statuses, did.listed) is in
    record {
      inv = IsTracer-later t bytes marks touched after list inv did (tell_after_reads (face_of (tracing_of t)) _ t.marks.items marks.items places inv.settled less face);
      face = λ now view. rw (← view) face;
    }

-- and those that are left so through puts
Left-puts : (t : Inside) (bytes marks : Vec ℕ) (touched : Listing) (after : List Status) (list : List ℕ) (puts : List (ℕ × ℕ)) → IsTracer t
    → Leaves t bytes marks touched after list → TellNoMore t.marks.items marks.items → seen t bytes.items after list ≡ face_after_puts (face_of (tracing_of t)) puts
    → Left t bytes marks touched (λ f. face_after_puts f puts)
Left-puts t bytes marks touched after list puts inv did less is =
    let face : face_of (tracing_of (later t bytes marks touched)) ≡ face_after_puts (face_of (tracing_of t)) puts = rw (did.statuses, did.listed) is in
    record {
      inv = IsTracer-later t bytes marks touched after list inv did
          (tell_after_puts (face_of (tracing_of t)) _ t.marks.items marks.items puts (have_statuses (length (tracing_of t).state.bytes) (face_of (tracing_of t)).marks (Fits-view t _ refl inv))
          (λ place have. read_word_of (cap_of (tracing_of t)) marks.items (tracing_of (later t bytes marks touched)).touched place have) inv.settled less face);
      face = λ now view. rw (← view) face;
    }

-- what was put into a list
pub items_is : (v : Vec ℕ) (old new : List ℕ) → old ≡ v.items → length new ≡ length old → (with_items v new).items ≡ new
items_is v old new is size = with_items_is v new (size ∙ ap (λ (l : List ℕ). length l) is ∙ sym v.ok.0)

-- a word of places that were marked
marked_is : (t : Inside) (changed new : List ℕ) (place mark : ℕ) → changed ≡ t.marks.items → length new ≡ length changed → new ≡ marked changed place mark
    → (with_items t.marks new).items ≡ marked t.marks.items place mark
marked_is t changed new place mark is size put = items_is t.marks changed new is size ∙ rw (← is) put

length-places_from : (place n : ℕ) → length (places_from place n) ≡ n
length-places_from place zero = refl
length-places_from place (suc n) = ap suc (length-places_from (place + 1) n)

-- What a call did to the fields: it put these bytes, and these are the statuses and the touched places then.
pub record Changes (t : Inside) (bytes marks : Vec ℕ) (touched : Listing) (puts : List (ℕ × ℕ)) (after : List Status) (places : List ℕ) : Type 0 where
  pub put : bytes.items ≡ bytes_after t.bytes.items puts
  pub statuses : statuses_of marks.items ≡ after
  pub less : TellNoMore t.marks.items marks.items
  pub listed : places_of touched.items ≡ places
  pub cap : touched.cap ≡ t.touched.cap

Leaves-changed : (t : Inside) (bytes marks : Vec ℕ) (touched : Listing) (puts : List (ℕ × ℕ)) (after : List Status) (places : List ℕ) → length places ≤ t.cap
    → Fits (length_of t.shape) after (noted t.start.bytes places) → Keeps t.start.bytes (bytes_after t.bytes.items puts) after → Changes t bytes marks touched puts after places
    → Leaves t bytes marks touched after places
Leaves-changed t bytes marks touched puts after places room fits kept did = record {
  size = rw did.put (length-bytes_after t.bytes.items puts);
  statuses = did.statuses;
  listed = did.listed;
  room = room;
  cap = did.cap;
  fits = fits;
  kept = rw did.put kept;
}

-- ---- a first touch of places one after another

pub record IsNew (t : Inside) (row : List ℕ) (place : ℕ) : Type 0 where
  pub within : place + length row ≤ length_of t.shape
  pub room : length (places_of t.touched.items) + length row ≤ t.cap
  pub all : HaveStatus (statuses_of t.marks.items) Untouched place (length row)

Leaves-new : (t : Inside) (bytes marks : Vec ℕ) (touched : Listing) (row : List ℕ) (place : ℕ) (status : Status) → IsTracer t → is_untouched status ≡ false
    → ((k : ℕ) → is_kept k status ≡ true → row ≡ bytes_at t.start.bytes place (length row)) → IsNew t row place
    → Changes t bytes marks touched (cells place row) (with_statuses (statuses_of t.marks.items) place status (length row)) (places_of t.touched.items ++ places_from place (length row))
    → Leaves t bytes marks touched (with_statuses (statuses_of t.marks.items) place status (length row)) (places_of t.touched.items ++ places_from place (length row))
Leaves-new t bytes marks touched row place status inv touches fetched new =
    Leaves-changed t bytes marks touched _ _ _ (rw (length-append, length-places_from) new.room)
    (Fits-new (length row) (length_of t.shape) t.start.bytes (statuses_of t.marks.items) (places_of t.touched.items) place status touches new.within new.all inv.places)
    (kept-row row t.start.bytes t.bytes.items (statuses_of t.marks.items) place status (omega (arith, new.within, inv.size)) (omega (arith, new.within, inv.places.0)) fetched inv.kept)

-- they are listed with the bytes that they have
listed-new : (t : Inside) (row : List ℕ) (place : ℕ) → IsTracer t → IsNew t row place
    → noted t.start.bytes (places_of t.touched.items ++ places_from place (length row))
    ≡ noted t.start.bytes (places_of t.touched.items) ++ cells place (bytes_at (tracing_of t).state.bytes place (length row))
listed-new t row place inv new =
    rw (noted-append, noted-row, bytes_at-mixed (length row) t.start.bytes t.bytes.items (statuses_of t.marks.items) place (length-bytes t inv) (length-statuses t inv) new.all)

pub Left-read_new : (t : Inside) (bytes marks : Vec ℕ) (touched : Listing) (row : List ℕ) (place : ℕ) → IsTracer t → row ≡ bytes_at t.start.bytes place (length row) → IsNew t row place
    → Changes t bytes marks touched (cells place row) (with_statuses (statuses_of t.marks.items) place Read (length row)) (places_of t.touched.items ++ places_from place (length row))
    → Left t bytes marks touched (λ f. face_after_reads f (places_from place (length row)))
Left-read_new t bytes marks touched row place inv fetched new did =
    let now = tracing_of t in
    let n = length row in
    let there = bytes_at-mixed n t.start.bytes t.bytes.items (statuses_of t.marks.items) place (length-bytes t inv) (length-statuses t inv) new.all in
    let same : bytes_after now.state.bytes (cells place row) ≡ now.state.bytes = ap (λ (r : List ℕ). bytes_after now.state.bytes (cells place r)) (fetched ∙ sym there) ∙ put-same n now.state.bytes place in
    Left-reads t bytes marks touched _ _ (places_from place n) inv (Leaves-new t bytes marks touched row place Read inv refl (λ k e. fetched) new did) did.less
    (rw (did.put, mixed-row row t.start.bytes t.bytes.items (statuses_of t.marks.items) place Read refl, same, listed-new t row place inv new)
    (sym (reads_new n now.state (cap_of now) now.statuses now.touched place new.all)))

pub Left-put_new : (t : Inside) (bytes marks : Vec ℕ) (touched : Listing) (row : List ℕ) (place : ℕ) → IsTracer t → IsNew t row place
    → Changes t bytes marks touched (cells place row) (with_statuses (statuses_of t.marks.items) place Written (length row)) (places_of t.touched.items ++ places_from place (length row))
    → Left t bytes marks touched (λ f. face_after_puts f (cells place row))
Left-put_new t bytes marks touched row place inv new did =
    let now = tracing_of t in
    Left-puts t bytes marks touched _ _ (cells place row) inv (Leaves-new t bytes marks touched row place Written inv refl (λ k e. absurd (false≢true e)) new did) did.less
    (rw (did.put, mixed-row row t.start.bytes t.bytes.items (statuses_of t.marks.items) place Written refl, listed-new t row place inv new)
    (sym (puts_new row now.state (cap_of now) now.statuses now.touched place new.all)))

-- ---- puts of what was touched

-- a row that was only read
pub Left-put_read : (t : Inside) (bytes marks : Vec ℕ) (touched : Listing) (row : List ℕ) (place : ℕ) → IsTracer t → place + length row ≤ length_of t.shape
    → HaveStatus (statuses_of t.marks.items) Read place (length row)
    → Changes t bytes marks touched (cells place row) (with_statuses (statuses_of t.marks.items) place ReadWritten (length row)) (places_of t.touched.items)
    → Left t bytes marks touched (λ f. face_after_puts f (cells place row))
Left-put_read t bytes marks touched row place inv within all did =
    let now = tracing_of t in
    Left-puts t bytes marks touched _ _ (cells place row) inv
    (Leaves-changed t bytes marks touched _ _ _ inv.room (Fits-read (length row) (length_of t.shape) now.statuses now.touched place within all inv.places)
    (kept-row row t.start.bytes t.bytes.items now.statuses place ReadWritten (omega (arith, within, inv.size)) (omega (arith, within, inv.places.0)) (λ k e. absurd (false≢true e)) inv.kept) did) did.less
    (rw (did.put, mixed-row row t.start.bytes t.bytes.items now.statuses place ReadWritten refl) (sym (puts_read row now.state (cap_of now) now.statuses now.touched place all)))

-- places that were written
pub Left-put_written : (t : Inside) (bytes marks : Vec ℕ) (touched : Listing) (puts : List (ℕ × ℕ)) → IsTracer t → AreWritten (statuses_of t.marks.items) (map (λ cell. cell.0) puts)
    → Changes t bytes marks touched puts (statuses_of t.marks.items) (places_of t.touched.items) → Left t bytes marks touched (λ f. face_after_puts f puts)
Left-put_written t bytes marks touched puts inv were did =
    let now = tracing_of t in
    Left-puts t bytes marks touched _ _ puts inv
    (Leaves-changed t bytes marks touched _ _ _ inv.room inv.places (kept-puts t.start.bytes t.bytes.items now.statuses puts were inv.kept) did) did.less
    (rw (did.put, mixed-puts t.start.bytes t.bytes.items now.statuses puts were) (sym (puts_written now.state (cap_of now) now.statuses now.touched puts were)))

-- ---- touches taken back

All-noted : (P : ℕ → Type 0) (bytes places : List ℕ) → All (λ cell. P cell.0) (noted bytes places) → All P places
All-noted P bytes [] h = All-nil P
All-noted P bytes (place ∷ places) h = All-cons P place places (h 0 (0, 0) (omega arith)) (All-noted P bytes places (λ k d lt. h (suc k) d (omega (arith, lt))))

-- the touched places are places
pub places_within : (t : Inside) → IsTracer t → All (λ place. place < length_of t.shape) (places_of t.touched.items)
places_within t inv =
    All-noted (λ place. place < length_of t.shape) t.start.bytes (places_of t.touched.items)
    (touched-within (length_of t.shape) (statuses_of t.marks.items) (noted t.start.bytes (places_of t.touched.items)) inv.places)

pub Leaves-undone : (t : Inside) (bytes marks : Vec ℕ) (touched : Listing) (mark : ℕ) → IsTracer t
    → bytes.items ≡ given t.start.bytes t.bytes.items (drop mark (places_of t.touched.items))
    → statuses_of marks.items ≡ without (statuses_of t.marks.items) (drop mark (places_of t.touched.items)) → places_of touched.items ≡ take mark (places_of t.touched.items)
    → touched.cap ≡ t.touched.cap
    → Leaves t bytes marks touched (without (statuses_of t.marks.items) (drop mark (places_of t.touched.items))) (take mark (places_of t.touched.items))
Leaves-undone t bytes marks touched mark inv put marked cut cap =
    let statuses = statuses_of t.marks.items in
    let places = places_of t.touched.items in
    let start = t.start.bytes in
    let parts : noted start places ≡ noted start (take mark places) ++ noted start (drop mark places) = rw (← noted-append start (take mark places), take-append-drop) in
    let within = All-behind (λ place. place < length t.bytes.items) (take mark places) (drop mark places) (rw (take-append-drop, inv.size) (places_within t inv)) in
    record {
      size = rw (put, length-given);
      statuses = marked;
      listed = cut;
      room = let sum = rw take-append-drop at (length-append (take mark places) (drop mark places)) in omega (arith, inv.room, sum);
      cap = cap;
      fits = rw (← untouch-noted statuses start (drop mark places))
          (FitPlaces-untouch (length_of t.shape) statuses (noted start (take mark places)) (noted start (drop mark places)) (rw parts at inv.places));
      kept = rw put (kept-back start t.bytes.items statuses (drop mark places) (inv.places.0 ∙ sym inv.size) within inv.kept);
    }

-- what is left then
pub undone-view : (t : Inside) (now : Tracing) (bytes marks : Vec ℕ) (touched : Listing) (mark : ℕ) → tracing_of t ≡ now
    → bytes.items ≡ given t.start.bytes t.bytes.items (drop mark (places_of t.touched.items))
    → statuses_of marks.items ≡ without (statuses_of t.marks.items) (drop mark (places_of t.touched.items)) → places_of touched.items ≡ take mark (places_of t.touched.items)
    → tracing_of (later t bytes marks touched) ≡ undone now mark
undone-view t now bytes marks touched mark is put marked cut = rw (← is, marked, cut, put, mixed-given, mixed-without, noted-drop, noted-take, untouch-noted)

-- ---- what the code read and wrote

-- a place of the state is one of the tracer
pub IsPlace-from : (t : Inside) (now : Tracing) (place : ℕ) → tracing_of t ≡ now → IsTracer t → place < length now.state.bytes → place < length_of t.shape
IsPlace-from t now place is inv within = omega (arith, within, size_told t now is inv)

pub of_marks : (t : Inside) (place : ℕ) → IsTracer t → place < length_of t.shape → place < vec_len t.marks
of_marks t place inv within = omega (arith, within, t.marks.ok.0, length-marks t inv)

pub of_bytes : (t : Inside) (place : ℕ) → IsTracer t → place < length_of t.shape → place < vec_len t.bytes
of_bytes t place inv within = omega (arith, within, t.bytes.ok.0, inv.size)

-- what a mark tells
status_read : (t : Inside) (place read : ℕ) → IsTracer t → place < length_of t.shape → read ≡ slice_index_or t.marks.items place read
    → status_of read ≡ status_at (statuses_of t.marks.items) place
status_read t place read inv within e =
    ap status_of e ∙ sym (get_or-map status_of t.marks.items place read Untouched (omega (arith, length-marks t inv, within)))

-- one place has a status
one_status : (statuses : List Status) (status : Status) (place : ℕ) → status_at statuses place ≡ status → HaveStatus statuses status place 1
one_status statuses status place is k least most = let same : k ≡ place = omega arith in rw same is

IsNew-place : (t : Inside) (now : Tracing) (place byte : ℕ) → tracing_of t ≡ now → IsTracer t → place < length now.state.bytes → 1 ≤ room_of (face_of now).marks
    → status_at (statuses_of t.marks.items) place ≡ Untouched → IsNew t (byte ∷ []) place
IsNew-place t now place byte is inv within room untouched = record {
  within = omega (arith, within, size_told t now is inv);
  room = room_for t now 1 is (omega arith) room;
  all = one_status (statuses_of t.marks.items) Untouched place untouched;
}

-- a first read of one place
pub Left-place : (t : Inside) (now : Tracing) (touched : Listing) (place byte : ℕ) → tracing_of t ≡ now → IsTracer t → place < length now.state.bytes
    → 1 ≤ room_of (face_of now).marks → status_at now.statuses place ≡ Untouched → byte ≡ slice_index t.start.bytes place
    → touched.items ≡ t.touched.items ++ 2 * place ∷ [] → touched.cap ≡ t.touched.cap
    → Left t (with_item t.bytes place byte) (with_item t.marks place 2) touched (λ f. face_after_read f place)
unfolding face_after_reads
Left-place t now touched place byte is inv within room untouched fetched listed cap =
    Left-read_new t (with_item t.bytes place byte) (with_item t.marks place 2) touched (byte ∷ []) place inv (ap (λ (b : ℕ). b ∷ []) fetched)
    (IsNew-place t now place byte is inv within room (rw (← is) at untouched)) (record {
      put = refl;
      statuses = map-set status_of t.marks.items place 2;
      less = less-set t.marks.items place 2 (λ e. omega (arith, e));
      listed = rw listed (places_of-more t.touched.items (place ∷ []) (2 * place) (item_of_place place));
      cap = cap;
    })

-- a put of one place, by its status
put_by : (t : Inside) (now : Tracing) (touched : Listing) (place byte mark : ℕ) (status : Status) → tracing_of t ≡ now → IsTracer t → place < length now.state.bytes
    → 1 ≤ room_of (face_of now).marks → status ≡ status_at (statuses_of t.marks.items) place → status_of mark ≡ status_after_write status → mark ≢ settled_mark
    → touched.items ≡ (if is_untouched status then t.touched.items ++ 2 * place ∷ [] else t.touched.items) → touched.cap ≡ t.touched.cap
    → Left t (with_item t.bytes place byte) (with_item t.marks place mark) touched (λ f. face_after_puts f ((place, byte) ∷ []))
put_by t now touched place byte mark Untouched is inv within room known tells other listed cap =
    Left-put_new t (with_item t.bytes place byte) (with_item t.marks place mark) touched (byte ∷ []) place inv (IsNew-place t now place byte is inv within room (sym known)) (record {
      put = refl;
      statuses = rw (map-set, tells);
      less = less-set t.marks.items place mark other;
      listed = rw listed (places_of-more t.touched.items (place ∷ []) (2 * place) (item_of_place place));
      cap = cap;
    })
put_by t now touched place byte mark Read is inv within room known tells other listed cap =
    Left-put_read t (with_item t.bytes place byte) (with_item t.marks place mark) touched (byte ∷ []) place inv (omega (arith, within, size_told t now is inv))
    (one_status (statuses_of t.marks.items) Read place (sym known))
    (record { put = refl; statuses = rw (map-set, tells); less = less-set t.marks.items place mark other; listed = ap places_of listed; cap = cap })
put_by t now touched place byte mark status is inv within room known tells other listed cap =
    Left-put_written t (with_item t.bytes place byte) (with_item t.marks place mark) touched ((place, byte) ∷ []) inv
    (written_one (statuses_of t.marks.items) place status (sym known) refl refl) (record {
      put = refl;
      statuses = rw (map-set, tells, known) (set-get_or (statuses_of t.marks.items) place Untouched);
      less = less-set t.marks.items place mark other;
      listed = ap places_of listed;
      cap = cap;
    })

pub Left-put : (t : Inside) (now : Tracing) (touched : Listing) (place byte read mark : ℕ) (status after : Status) → tracing_of t ≡ now → IsTracer t → place < length now.state.bytes
    → 1 ≤ room_of (face_of now).marks → read ≡ slice_index_or t.marks.items place read → status ≡ status_of read → after ≡ status_after_write status → status_of mark ≡ after → mark ≢ settled_mark
    → touched.items ≡ (if is_untouched status then t.touched.items ++ 2 * place ∷ [] else t.touched.items) → touched.cap ≡ t.touched.cap
    → Left t (with_item t.bytes place byte) (with_item t.marks place mark) touched (λ f. face_after_put f place byte)
unfolding face_after_puts
Left-put t now touched place byte read mark status after is inv within room reads tells writes told_mark other listed cap =
    put_by t now touched place byte mark status is inv within room (tells ∙ status_read t place read inv (IsPlace-from t now place is inv within) reads) (told_mark ∙ writes) other listed cap

-- ---- what the code wrote of a word

-- what the code found of the marks of a word
pub were : (t : Inside) (marks : List ℕ) (status : Status) (place : ℕ) → marks ≡ t.marks.items → HaveStatus (statuses_of marks) status place 4 → HaveStatus (statuses_of t.marks.items) status place 4
were t marks status place is have = rw (← is) have

-- the places of a word
pub IsNew-word : (t : Inside) (now : Tracing) (marks : List ℕ) (place word : ℕ) → tracing_of t ≡ now → IsTracer t → place + 4 ≤ length now.state.bytes → 4 ≤ room_of (face_of now).marks
    → marks ≡ t.marks.items → HaveStatus (statuses_of marks) Untouched place 4 → IsNew t (bytes_of 4 word) place
IsNew-word t now marks place word is inv within room is_marks have = record {
  within = omega (arith, within, size_told t now is inv);
  room = room_for t now 4 is (omega arith) room;
  all = were t marks Untouched place is_marks have;
}

-- the bytes that were put
pub put_is : (t : Inside) (bytes held : List ℕ) (place word : ℕ) → held ≡ t.bytes.items → length bytes ≡ length held → bytes ≡ bytes_after held (cells place (bytes_of 4 word))
    → (with_items t.bytes bytes).items ≡ bytes_after t.bytes.items (cells place (bytes_of 4 word))
put_is t bytes held place word is size put = items_is t.bytes held bytes is size ∙ rw (← is) put

-- a word that was put and marked
pub Changes-word : (t : Inside) (bytes marks held changed places : List ℕ) (touched : Listing) (place word mark : ℕ) → mark ≢ settled_mark
    → held ≡ t.bytes.items → length bytes ≡ length held → bytes ≡ bytes_after held (cells place (bytes_of 4 word))
    → changed ≡ t.marks.items → length marks ≡ length changed → statuses_of marks ≡ with_statuses (statuses_of changed) place (status_of mark) 4 → marks ≡ marked changed place mark
    → places_of touched.items ≡ places → touched.cap ≡ t.touched.cap
    → Changes t (with_items t.bytes bytes) (with_items t.marks marks) touched (cells place (bytes_of 4 word)) (with_statuses (statuses_of t.marks.items) place (status_of mark) 4) places
Changes-word t bytes marks held changed places touched place word mark other is_held size put is_changed marked_size statuses marked listed cap = record {
  put = put_is t bytes held place word is_held size put;
  statuses = rw (items_is t.marks changed marks is_changed marked_size, ← is_changed) statuses;
  less = rw (marked_is t changed marks place mark is_changed marked_size marked) (less-marked t.marks.items place mark other);
  listed = listed;
  cap = cap;
}

-- a word that is listed
pub listed_word : (t : Inside) (touched : Listing) (place : ℕ) → touched.items ≡ t.touched.items ++ (2 * place + 1) ∷ [] → places_of touched.items ≡ places_of t.touched.items ++ places_from place 4
listed_word t touched place is = rw is (places_of-more t.touched.items (places_from place 4) (2 * place + 1) (item_of_word place))

-- a put of a word that was written
pub Left-word_written : (t : Inside) (bytes held : List ℕ) (place word : ℕ) → IsTracer t → AreWritten (statuses_of t.marks.items) (places_from place 4)
    → held ≡ t.bytes.items → length bytes ≡ length held → bytes ≡ bytes_after held (cells place (bytes_of 4 word))
    → Left t (with_items t.bytes bytes) t.marks t.touched (λ f. face_after_puts f (cells place (bytes_of 4 word)))
Left-word_written t bytes held place word inv were is size put =
    Left-put_written t (with_items t.bytes bytes) t.marks t.touched (cells place (bytes_of 4 word)) inv were
    (record { put = put_is t bytes held place word is size put; statuses = refl; less = λ k e. e; listed = refl; cap = refl })

-- ---- settled words forgotten

forgotten_are : (t : Inside) (changed new : List ℕ) → changed ≡ t.marks.items → length new ≡ length changed → statuses_of new ≡ statuses_of changed
    → statuses_of (with_items t.marks new).items ≡ statuses_of t.marks.items
forgotten_are t changed new is size same = rw (items_is t.marks changed new is size, ← is) same

-- other marks with the statuses that were
Leaves-same : (t : Inside) (marks : Vec ℕ) → IsTracer t → statuses_of marks.items ≡ statuses_of t.marks.items → Leaves t t.bytes marks t.touched (statuses_of t.marks.items) (places_of t.touched.items)
Leaves-same t marks inv same = record { size = refl; statuses = same; listed = refl; room = inv.room; cap = refl; fits = inv.places; kept = inv.kept }

same-view : (t : Inside) (now : Tracing) (marks : Vec ℕ) → tracing_of t ≡ now → statuses_of marks.items ≡ statuses_of t.marks.items → tracing_of (later t t.bytes marks t.touched) ≡ now
same-view t now marks view same = rw (← view, same)

-- none of them that of a settled word
pub forgotten : (t : Inside) (changed new : List ℕ) → IsTracer t → changed ≡ t.marks.items → length new ≡ length changed → statuses_of new ≡ statuses_of changed → TellAmong new []
    → IsTracer (later t t.bytes (with_items t.marks new) t.touched)
forgotten t changed new inv is size same none =
    IsTracer-later t t.bytes (with_items t.marks new) t.touched _ _ inv (Leaves-same t (with_items t.marks new) inv (forgotten_are t changed new is size same))
    (tell_none _ new (with_items t.marks new).items none (rw (items_is t.marks changed new is size) (λ k e. e)))

pub forgotten-none : (t : Inside) (changed new : List ℕ) → changed ≡ t.marks.items → length new ≡ length changed → TellAmong new [] → TellAmong (with_items t.marks new).items []
forgotten-none t changed new is size none = rw (items_is t.marks changed new is size) none

-- and none of the marks after touches are taken back
pub forgotten-back : (t : Inside) (f : Face) (changed new : List ℕ) → changed ≡ t.marks.items → length new ≡ length changed → TellAmong t.marks.items [] → TellNoMore changed new
    → TellSettled f (with_items t.marks new).items
forgotten-back t f changed new is size none less = rw (items_is t.marks changed new is size) (tell_none f changed new (rw is none) less)

pub forgotten-view : (t : Inside) (now : Tracing) (changed new : List ℕ) → tracing_of t ≡ now → changed ≡ t.marks.items → length new ≡ length changed → statuses_of new ≡ statuses_of changed
    → tracing_of (later t t.bytes (with_items t.marks new) t.touched) ≡ now
forgotten-view t now changed new view is size same = same-view t now (with_items t.marks new) view (forgotten_are t changed new is size same)

-- ---- nothing touched any more

-- and so places of the marks that the code changes
pub marks_within : (t : Inside) (marks items : List ℕ) → IsTracer t → marks ≡ t.marks.items → items ≡ t.touched.items → All (λ place. place < length marks) (places_of items)
marks_within t marks items inv is_marks is_items = rw (is_items, is_marks, length-marks t inv) (places_within t inv)

-- the statuses once places were made untouched
pub back_items : (t : Inside) (changed marks places : List ℕ) → changed ≡ t.marks.items → length marks ≡ length changed → statuses_of marks ≡ without (statuses_of changed) places
    → statuses_of (with_items t.marks marks).items ≡ without (statuses_of t.marks.items) places
back_items t changed marks places is size back = rw (items_is t.marks changed marks is size, ← is) back

pub back_is : (t : Inside) (changed marks items : List ℕ) → IsTracer t → changed ≡ t.marks.items → length marks ≡ length changed → items ≡ t.touched.items
    → statuses_of marks ≡ without (statuses_of changed) (places_of items) → statuses_of (with_items t.marks marks).items ≡ replicate (length_of t.shape) Untouched
back_is t changed marks items inv is size is_items back = back_items t changed marks (places_of items) is size back ∙ rw is_items (all_back t inv)

start_bounds : (version : Version) → (128 ≤ start_of version) × ((start_of version ≤ 136) × (start_of version % 4 ≡ 0))
start_bounds One = omega arith
start_bounds Two = omega arith

pub low_shape : (shape : Shape) → IsShape shape → length_of shape ≤ 2 ^ 30
low_shape shape good = omega (arith, start_bounds shape.version, good.size.most)

pub whole_shape : (shape : Shape) → IsShape shape → length_of shape % 4 ≡ 0
whole_shape shape good = omega (arith, start_bounds shape.version, good.size.aligned)

-- the shape is one
pub IsShape-inside : (t : Inside) → IsTracer t → IsShape t.shape
IsShape-inside t inv = subst IsShape inv.own inv.start.shape

get_or-replicate_same : (n i : ℕ) → slice_index (replicate n 0) i ≡ 0
get_or-replicate_same zero i = refl
get_or-replicate_same (suc n) zero = refl
get_or-replicate_same (suc n) (suc i) = get_or-replicate_same n i

-- the bytes once places have the start's again
pub given_items : (t : Inside) (held bytes places : List ℕ) → held ≡ t.bytes.items → length bytes ≡ length held → bytes ≡ given t.start.bytes held places
    → (with_items t.bytes bytes).items ≡ given t.start.bytes t.bytes.items places
given_items t held bytes places is size put = items_is t.bytes held bytes is size ∙ rw (← is) put

pub IsTracer-fresh : (t : Inside) (start : State) (bytes held : List ℕ) (marks : Vec ℕ) (touched : Listing) (word : ℕ) → IsTracer t → IsState start → start.shape ≡ t.shape
    → word ≡ word_at start.bytes 0 → held ≡ t.bytes.items → length bytes ≡ length held → bytes ≡ bytes_after held (cells 0 (bytes_of 4 word))
    → statuses_of marks.items ≡ replicate (length_of t.shape) Untouched → touched.items ≡ [] → touched.cap ≡ t.touched.cap
    → IsTracer (record { shape = t.shape; cap = t.cap; start = start; bytes = with_items t.bytes bytes; marks = marks; touched = touched; blocks = t.blocks; groups = t.groups; used = t.used })
IsTracer-fresh t start bytes held marks touched word inv good own read is_held size put all none cap =
    let is = put_is t bytes held 0 word is_held size put in
    let long = start_bounds t.shape.version in
    record {
      cap = inv.cap;
      own = own;
      start = good;
      size = rw (is, length-bytes_after) inv.size;
      room = rw none (omega arith);
      filled = cap ∙ inv.filled;
      places = rw none (Fits-fresh (length_of t.shape) (statuses_of marks.items) all);
      kept = rw is (kept-fresh (length_of t.shape) start.bytes t.bytes.items (bytes_of 4 word) (statuses_of marks.items) (omega (arith, inv.size, long))
          (ap (bytes_of 4) read ∙ bytes_of-number_at 4 start.bytes 0 good.bytes) all);
      settled = tell_fresh _ marks.items (λ k. rw (all, status_at-replicate));
      blocks = inv.blocks;
      groups = inv.groups;
      few_blocks = inv.few_blocks;
      clear = inv.clear;
      clear_groups = inv.clear_groups;
      none_used = inv.none_used;
      room_used = inv.room_used;
    }

-- fields that were made anew
pub IsTracer-new : (shape : Shape) (cap : ℕ) (start : State) (bytes marks : Vec ℕ) (touched : Listing) (blocks groups used : Vec ℕ) → cap ≤ MOST_CAP → IsState start → start ≡ zero_state shape
    → bytes.items ≡ replicate (length_of shape) 0 → marks.items ≡ replicate (length_of shape) 3 → touched.items ≡ [] → touched.cap ≡ cap
    → blocks.items ≡ replicate (64 * (length_of shape / 16384 + 1)) 0 → groups.items ≡ replicate (length_of shape / 16384 + 1) 0
    → used.items ≡ [] → length_of shape / 16384 + 1 ≤ vec_capacity used
    → IsTracer (record { shape = shape; cap = cap; start = start; bytes = bytes; marks = marks; touched = touched; blocks = blocks; groups = groups; used = used })
IsTracer-new shape cap start bytes marks touched blocks groups used most good is zeros untouched none room clear clear_groups none_used room_used =
    let all : statuses_of marks.items ≡ replicate (length_of shape) Untouched = rw (untouched, statuses-replicate) in
    let own : start.shape ≡ shape = rw is in
    let size : length blocks.items ≡ 64 * (length_of shape / 16384 + 1) = rw (clear, length-replicate) in
    let size_groups : length groups.items ≡ length_of shape / 16384 + 1 = rw (clear_groups, length-replicate) in
    record {
      cap = most;
      own = own;
      start = good;
      size = rw (zeros, length-replicate);
      room = rw none (omega arith);
      filled = room;
      places = rw none (Fits-fresh (length_of shape) (statuses_of marks.items) all);
      kept = λ place e. rw (zeros, is);
      settled = tell_fresh _ marks.items (λ k. rw (all, status_at-replicate));
      blocks = omega (arith, size);
      groups = omega (arith, size, size_groups);
      few_blocks = omega (arith, size, low_shape shape (rw own at good.shape));
      clear = λ block. rw (clear, get_or-replicate_same);
      clear_groups = λ group. rw (clear_groups, get_or-replicate_same);
      none_used = none_used;
      room_used = omega (arith, room_used, size_groups);
    }

-- the pc stands in memory, touched or not
pub pc_told : (t : Inside) (now : Tracing) (bytes : List ℕ) (word : ℕ) → tracing_of t ≡ now → IsTracer t → bytes ≡ t.bytes.items → word ≡ word_at bytes 0 → word ≡ word_at now.state.bytes 0
pc_told t now bytes word is inv is_bytes read =
    read ∙ rw is_bytes (word_alike t.bytes.items now.state.bytes 0 (λ k least low. let kept = inv.kept k in let told = byte_told t now k is inv in grind (arith, lt-ltb k 4)))

-- ---- words that are read

-- a word of touched places is that of the bytes
pub word_told : (t : Inside) (now : Tracing) (marks bytes : List ℕ) (place word : ℕ) → tracing_of t ≡ now → IsTracer t → marks ≡ t.marks.items → bytes ≡ t.bytes.items
    → untouched_count (Told 0 (statuses_of marks) []) (places_from place 4) ≡ 0 → word ≡ word_at bytes place → word ≡ word_at now.state.bytes place
word_told t now marks bytes place word is inv is_marks is_bytes none read =
    read ∙ rw is_bytes (word_alike t.bytes.items now.state.bytes place (λ k least most.
    rw (all_touched 4 (statuses_of t.marks.items) place (rw (← is_marks) none) k least most) at (sym (byte_told t now k is inv))))

-- what code sees stays the same where touched places are read
pub face-same : (t : Inside) (now : Tracing) (marks places : List ℕ) → tracing_of t ≡ now → marks ≡ t.marks.items
    → untouched_count (Told 0 (statuses_of marks) []) places ≡ 0 → face_of now ≡ face_after_reads (face_of now) places
face-same t now marks places is is_marks none = sym (reads_touched (face_of now) places (rw (← is, count-list, ← is_marks) none))

-- a byte at an untouched place, and at a touched one
pub byte_first : (t : Inside) (now : Tracing) (place byte : ℕ) → tracing_of t ≡ now → IsTracer t → status_at now.statuses place ≡ Untouched → byte ≡ slice_index t.start.bytes place
    → byte ≡ slice_index now.state.bytes place
byte_first t now place byte is inv untouched read = let known = rw (← is) at untouched in read ∙ sym (rw known at (byte_told t now place is inv))

-- what the code found of the mark of a place
pub untouched_told : (t : Inside) (now : Tracing) (place mark : ℕ) → tracing_of t ≡ now → IsTracer t → place < length_of t.shape → mark ≡ slice_index_or t.marks.items place mark → mark ≡ 3
    → status_at now.statuses place ≡ Untouched
untouched_told t now place mark is inv within read e = rw (← is, ← status_read t place mark inv within read, e)

touched_told : (t : Inside) (place mark : ℕ) → IsTracer t → place < length_of t.shape → mark ≡ slice_index_or t.marks.items place mark → (mark ≡ 3 → ⊥)
    → is_untouched (status_at (statuses_of t.marks.items) place) ≡ false
touched_told t place mark inv within read other = rw (← status_read t place mark inv within read) (other_mark mark other)

pub byte_touched : (t : Inside) (now : Tracing) (place mark byte : ℕ) → tracing_of t ≡ now → IsTracer t → place < length_of t.shape → mark ≡ slice_index_or t.marks.items place mark → (mark ≡ 3 → ⊥)
    → byte ≡ slice_index_or t.bytes.items place byte → byte ≡ slice_index now.state.bytes place
byte_touched t now place mark byte is inv within read other held =
    get_or_read t.bytes.items place byte (omega (arith, inv.size, within)) held 0 ∙ sym (rw (touched_told t place mark inv within read other) at (byte_told t now place is inv))

-- what code sees stays the same where a touched place is read
pub face-touched : (t : Inside) (now : Tracing) (place mark : ℕ) → tracing_of t ≡ now → IsTracer t → place < length_of t.shape → mark ≡ slice_index_or t.marks.items place mark → (mark ≡ 3 → ⊥)
    → face_of now ≡ face_after_read (face_of now) place
face-touched t now place mark is inv within read other =
    sym (read_touched (face_of now) place (rw (← is, untouched_count-one, touched_told t place mark inv within read other)))

-- a word of untouched places is that of the start
pub word_first : (t : Inside) (now : Tracing) (marks : List ℕ) (place word : ℕ) → tracing_of t ≡ now → IsTracer t → marks ≡ t.marks.items → HaveStatus (statuses_of marks) Untouched place 4
    → word ≡ word_at t.start.bytes place → word ≡ word_at now.state.bytes place
word_first t now marks place word is inv is_marks all read =
    read ∙ word_alike t.start.bytes now.state.bytes place (λ k least most. rw (were t marks Untouched place is_marks all k least most) at (sym (byte_told t now k is inv)))

-- a word that was only read stands in memory as it does at the start
pub read_told : (t : Inside) (now : Tracing) (bytes : List ℕ) (place word : ℕ) → tracing_of t ≡ now → IsTracer t → bytes ≡ t.bytes.items → HaveStatus now.statuses Read place 4
    → word ≡ word_at bytes place → word ≡ word_at t.start.bytes place
read_told t now bytes place word is inv is_bytes all read =
    read ∙ rw is_bytes (word_alike t.bytes.items t.start.bytes place (λ k least most.
    inv.kept k (ap (is_kept k) (ap (λ (v : Tracing). status_at v.statuses k) is ∙ all k least most))))

-- ---- settled words

-- places that are told to be touched are so by their marks
pub marks_touched : (t : Inside) (now : Tracing) (places : List ℕ) → tracing_of t ≡ now → untouched_count (face_of now).marks places ≡ 0
    → untouched_count (Told 0 (statuses_of t.marks.items) []) places ≡ 0
marks_touched t now places is none = rw count-list at (rw (← is) at none)

-- and places that are told to be written
pub marks_written : (t : Inside) (now : Tracing) (places : List ℕ) → tracing_of t ≡ now → unwritten_count (face_of now).marks places ≡ 0 → AreWritten (statuses_of t.marks.items) places
marks_written t now places is none = written_all _ _ _ places (rw (← is) at none)

-- a status given to places that have it
with_same : (n : ℕ) (statuses : List Status) (place : ℕ) (status : Status) → HaveStatus statuses status place n → with_statuses statuses place status n ≡ statuses
with_same zero statuses place status all = refl
with_same (suc n) statuses place status all =
    rw (← all place (omega arith) (omega arith), set-get_or, all place (omega arith) (omega arith)) (with_same n statuses (place + 1) status (λ k least most. all k (omega arith) (omega arith)))

settled_are : (t : Inside) (changed new : List ℕ) (place : ℕ) → HaveStatus (statuses_of t.marks.items) Read place 4 → changed ≡ t.marks.items → length new ≡ length changed
    → statuses_of new ≡ with_statuses (statuses_of changed) place Read 4 → statuses_of (with_items t.marks new).items ≡ statuses_of t.marks.items
settled_are t changed new place all is size same =
    rw (items_is t.marks changed new is size, ← with_same 4 (statuses_of t.marks.items) place Read all, ← is) same

-- a settled word more
pub IsTracer-settled : (t : Inside) (now : Tracing) (changed new : List ℕ) (place : ℕ) → tracing_of t ≡ now → IsTracer t → place + 4 ≤ length now.state.bytes → place % 4 ≡ 0
    → HaveStatus (statuses_of t.marks.items) Read place 4 → (IsReadWord (face_of now).marks place → IsSettled (face_of now) place)
    → changed ≡ t.marks.items → length new ≡ length changed → new ≡ marked changed place settled_mark → statuses_of new ≡ with_statuses (statuses_of changed) place Read 4
    → IsTracer (later t t.bytes (with_items t.marks new) t.touched)
IsTracer-settled t now changed new place view inv within aligned all settled is size put same =
    let after = with_items t.marks new in
    let statuses = settled_are t changed new place all is size same in
    let here : IsSettled (face_of (tracing_of t)) place = rw (← view) at (settled (rw (← view) (λ k least most. ap is_only_read (all k least most)))) in
    IsTracer-later t t.bytes after t.touched _ _ inv (Leaves-same t after inv statuses)
    (rw (statuses, marked_is t changed new place settled_mark is size put) (tell_more (face_of (tracing_of t)) t.marks.items place aligned here inv.settled))

pub settled-view : (t : Inside) (now : Tracing) (changed new : List ℕ) (place : ℕ) → tracing_of t ≡ now
    → HaveStatus (statuses_of t.marks.items) Read place 4 → changed ≡ t.marks.items → length new ≡ length changed → statuses_of new ≡ with_statuses (statuses_of changed) place Read 4
    → tracing_of (later t t.bytes (with_items t.marks new) t.touched) ≡ now
settled-view t now changed new place view all is size same = same-view t now (with_items t.marks new) view (settled_are t changed new place all is size same)
