-- The marks of settled words: what touches leave of them.
use Rattle.std.proofs.Common.{◌≡◌, ◌≢◌, ℕ, ◌+◌, ◌%◌, ◌<◌, ◌≤◌, true, false, List, [], ◌∷◌, ◌++◌, length, drop, sym, ap, ◌∙◌, inl, inr, slice_index, slice_index_or, slice_set, arith}
use Rattle.std.specs.Prelude.{All}
use Rattle.std.proofs.lemmas.Bool.{cases_Bool, cases_eq, false≢true}
use Rattle.std.proofs.lemmas.Grind.{get_or-set_at}
use Rattle.std.proofs.lemmas.List.{drop_more, get_or-set_other, get_or_past, map-set, set-get_or, set_past}
use Rattle.std.proofs.lemmas.List.Elements.{All-cons, All-nil}
use Rattle.std.proofs.lemmas.List.Folds.{list_any-append}
use Rattle.asc_model.specs.declared.status.Status.{Status}
use Rattle.asc_model.specs.declared.status.Status.TheVariants.{Untouched, Read}
use Rattle.asc_model.specs.DependencyVector.{is_among}
use Rattle.asc_model.proofs.Frames.{one_of_all}
use Rattle.asc_shape.specs.Face.{Face, Told, status_at, is_untouched, status_after_write, face_after_reads, face_after_puts}
use Rattle.asc_shape.specs.Settled.{IsReadWord, IsSettled, is_only_read, is_unwritten, unwritten_count}
use Rattle.asc_shape.proofs.Settled.{HaveStatuses, place_written, settled-puts, settled-reads, unwritten_count-cons}
use Rattle.asc_depvec.specs.Tracer.{places_of, places_of_item}
use Rattle.asc_depvec.specs.Inside.{AreWritten, HaveMark, TellAmong, TellNoMore, TellSettled, marked, noted, settled_mark, status_of, statuses_of}
use Rattle.asc_depvec.proofs.Marking.{Fits, times, times-first}
use Rattle.asc_depvec.proofs.Words.{IsWritten, statuses_at}

-- ---- no more of them

pub less-join : (a b c : List ℕ) → TellNoMore a b → TellNoMore b c → TellNoMore a c
less-join a b c first second k e = first k (second k e)

pub less-set : (marks : List ℕ) (place mark : ℕ) → mark ≢ settled_mark → TellNoMore marks (slice_set marks place mark)
less-set marks place mark other k e = grind (arith, get_or-set_at, get_or-set_other, set_past)

pub less-marked : (marks : List ℕ) (place mark : ℕ) → mark ≢ settled_mark → TellNoMore marks (marked marks place mark)
less-marked marks place mark other k e =
    let one = slice_set marks place mark in
    let two = slice_set one (place + 1) mark in
    let three = slice_set two (place + 2) mark in
    less-set marks place mark other k (less-set one (place + 1) mark other k (less-set two (place + 2) mark other k (less-set three (place + 3) mark other k e)))

-- a place beside four that were marked
marked-other : (marks : List ℕ) (place mark k : ℕ) → k ≢ place → k ≢ place + 1 → k ≢ place + 2 → k ≢ place + 3 → slice_index (marked marks place mark) k ≡ slice_index marks k
marked-other marks place mark k e0 e1 e2 e3 = grind (arith, get_or-set_other)

-- ---- words that are settled

within_marks : (marks : List ℕ) (k : ℕ) → slice_index marks k ≡ settled_mark → k < length marks
within_marks marks k e = grind (arith, get_or_past)

settled_is_read : (marks : List ℕ) (k : ℕ) → slice_index marks k ≡ settled_mark → status_at (statuses_of marks) k ≡ Read
settled_is_read marks k e = statuses_at marks k (within_marks marks k e) ∙ ap status_of e

pub read_word_of : (cap : ℕ) (marks : List ℕ) (touched : List (ℕ × ℕ)) (place : ℕ) → HaveMark marks settled_mark place → IsReadWord (Told cap (statuses_of marks) touched) place
read_word_of cap marks touched place have k least most = ap is_only_read (settled_is_read marks k (have k least most))

pub tell_after_reads : (f g : Face) (before after list : List ℕ) → TellSettled f before → TellNoMore before after → g ≡ face_after_reads f list → TellSettled g after
tell_after_reads f g before after list tell less is place aligned have = rw is (settled-reads f list place (tell place aligned (λ k least most. less k (have k least most))))

pub tell_after_puts : (f g : Face) (before after : List ℕ) (list : List (ℕ × ℕ)) → HaveStatuses (length f.state.bytes) f.marks
    → ((place : ℕ) → HaveMark after settled_mark place → IsReadWord g.marks place) → TellSettled f before → TellNoMore before after → g ≡ face_after_puts f list → TellSettled g after
tell_after_puts f g before after list sized read tell less is place aligned have =
    rw is (settled-puts f list place sized (rw is at (read place have)) (tell place aligned (λ k least most. less k (have k least most))))

-- one word more is settled
pub tell_more : (f : Face) (marks : List ℕ) (place : ℕ) → place % 4 ≡ 0 → IsSettled f place → TellSettled f marks → TellSettled f (marked marks place settled_mark)
tell_more f marks place aligned settled tell p p_aligned have = elim (cases_eq p place) [
  | inl same ↦ rw same settled
  | inr apart ↦ tell p p_aligned (λ k least most. sym (marked-other marks place settled_mark k (omega arith) (omega arith) (omega arith) (omega arith)) ∙ have k least most)
]

-- ---- none of them

pub tell_none : (f : Face) (before after : List ℕ) → TellAmong before [] → TellNoMore before after → TellSettled f after
tell_none f before after none less place aligned have = absurd (false≢true (none place (less place (have place (omega arith) (omega arith)))))

-- where all places are untouched
pub tell_fresh : (f : Face) (marks : List ℕ) → ((k : ℕ) → status_at (statuses_of marks) k ≡ Untouched) → TellSettled f marks
tell_fresh f marks all place aligned have =
    let read = settled_is_read marks place (have place (omega arith) (omega arith)) in
    let none = all place in absurd (cc)

-- a place that is listed is among the places of the list
listed_among : (start places : List ℕ) (k : ℕ) → 1 ≤ times k (noted start places) → is_among k places ≡ true
listed_among start [] k some = absurd (omega (arith, some))
listed_among start (place ∷ places) k some = grind (arith, times-first k (place, slice_index start place) (noted start places), listed_among start places k)

-- only touched places have such a mark
pub tell_touched : (n : ℕ) (start marks places : List ℕ) → Fits n (statuses_of marks) (noted start places) → TellAmong marks places
tell_touched n start marks places fits k e =
    let once : times k (noted start places) ≡ 1 = fits.1 k ∙ rw (settled_is_read marks k e) in
    listed_among start places k (omega (arith, once))

-- ---- forgetting

pub statuses-forget : (marks : List ℕ) (place : ℕ) → place < length marks → slice_index marks place ≡ settled_mark → statuses_of (slice_set marks place 2) ≡ statuses_of marks
statuses-forget marks place within e = rw (map-set, ← settled_is_read marks place e, set-get_or)

-- an item's places are behind, and those of the others are still to come
pub among_more : (marks after items : List ℕ) (k d : ℕ) → k < length items → TellAmong marks (places_of (drop k items)) → TellNoMore marks after
    → All (λ place. slice_index after place ≢ settled_mark) (places_of_item (slice_index_or items k d)) → TellAmong after (places_of (drop (k + 1) items))
among_more marks after items k d within among less none place e =
    let item = slice_index_or items k d in
    let all : is_among place (places_of_item item ++ places_of (drop (k + 1) items)) ≡ true = rw (drop_more items k d within) at (among place (less place e)) in
    elim (cases_Bool (is_among place (places_of_item item))) [
      | inl here ↦ absurd (one_of_all (λ p. slice_index after p ≢ settled_mark) (places_of_item item) place here none e)
      | inr apart ↦ rw apart at (rw list_any-append at all)
    ]

-- ---- written places

written_by : (s : Status) → is_unwritten s ≡ false → (status_after_write s ≡ s) × (is_untouched s ≡ false)
written_by s e = grind arith

pub written_all : (cap : ℕ) (statuses : List Status) (touched : List (ℕ × ℕ)) (places : List ℕ) → unwritten_count (Told cap statuses touched) places ≡ 0 → AreWritten statuses places
written_all cap statuses touched [] none = All-nil (IsWritten statuses)
written_all cap statuses touched (place ∷ places) none =
    let parts = unwritten_count-cons (Told cap statuses touched) place places in
    All-cons (IsWritten statuses) place places (written_by (status_at statuses place) (place_written cap statuses touched place (omega (arith, none, parts))))
    (written_all cap statuses touched places (omega (arith, none, parts)))
