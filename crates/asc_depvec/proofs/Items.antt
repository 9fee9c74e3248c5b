-- Lemmas on the items of the list of touched places.
use Rattle.std.proofs.Common.{◌≡◌, ℕ, zero, suc, ◌+◌, ◌*◌, ◌/◌, ◌%◌, ◌<◌, ◌≤◌, List, [], ◌∷◌, ◌++◌, length, take, drop, refl, sym, ap, ◌∙◌, slice_index_or, slice_set, arith, append_assoc, append-nil, length-append}
use Rattle.std.proofs.lemmas.Bool.{eq-eqb, ne_eqb}
use Rattle.std.specs.Prelude.{All}
use Rattle.std.proofs.lemmas.List.{drop_at, drop_more, map-set, take-append-drop, take_at, take_more}
use Rattle.std.proofs.lemmas.List.Elements.{All-cons, All-head, All-nil, All-tail}
use Rattle.asc_model.specs.declared.status.Status.{Status}
use Rattle.asc_model.specs.declared.status.Status.TheVariants.{Untouched}
use Rattle.asc_model.specs.Places.{places_from}
use Rattle.asc_depvec.specs.Tracer.{places_of, places_of_item}
use Rattle.asc_depvec.specs.Inside.{statuses_of, with_statuses, without}
use Rattle.asc_depvec.proofs.Mixed.{without-set, without-swap}

-- one place
pub item_place : (item : ℕ) → item % 2 ≡ 0 → places_of_item item ≡ item / 2 ∷ []
item_place item even = rw (ne_eqb (item % 2) 1 (λ e. absurd (omega (arith, even, e))))

-- the places of a word
pub item_word : (item : ℕ) → item % 2 ≡ 1 → places_of_item item ≡ places_from (item / 2) 4
item_word item odd = rw (eq-eqb (item % 2) 1 odd)

pub item_of_place : (place : ℕ) → places_of_item (2 * place) ≡ place ∷ []
item_of_place place = let half : 2 * place / 2 ≡ place = omega arith in rw (item_place (2 * place) (omega arith), half)

pub item_of_word : (place : ℕ) → places_of_item (2 * place + 1) ≡ places_from place 4
item_of_word place = let half : (2 * place + 1) / 2 ≡ place = omega arith in rw (item_word (2 * place + 1) (omega arith), half)

-- two lists of items
pub places_of-append : (a b : List ℕ) → places_of (a ++ b) ≡ places_of a ++ places_of b
places_of-append [] b = refl
places_of-append (item ∷ a) b = rw (places_of-append a b, append_assoc)

-- an item more
pub places_of-more : (items places : List ℕ) (item : ℕ) → places_of_item item ≡ places → places_of (items ++ item ∷ []) ≡ places_of items ++ places
places_of-more items places item is = places_of-append items (item ∷ []) ∙ ap (λ (list : List ℕ). places_of items ++ list) (append-nil (places_of_item item) ∙ is)

-- each item has a place at least
some_place : (item : ℕ) → 1 ≤ length (places_of_item item)
some_place item = grind arith

pub fewer_items : (items : List ℕ) → length items ≤ length (places_of items)
fewer_items [] = omega arith
fewer_items (item ∷ items) = omega (arith, some_place item, fewer_items items, length-append (places_of_item item) (places_of items))

-- the last place of a word, and the first three as items
pub word_cut : (items : List ℕ) (item place : ℕ) → item % 2 ≡ 1 → item / 2 ≡ place
    → places_of (items ++ item ∷ []) ≡ places_of (items ++ 2 * place ∷ (2 * (place + 1)) ∷ (2 * (place + 2)) ∷ []) ++ (place + 3) ∷ []
word_cut items item place odd is =
    let third : place + 1 + 1 ≡ place + 2 = omega arith in
    let fourth : place + 2 + 1 ≡ place + 3 = omega arith in
    rw (places_of-more items (places_from place 4) item (rw (item_word item odd, is)), third, fourth)
    (rw (places_of-append items (2 * place ∷ (2 * (place + 1)) ∷ (2 * (place + 2)) ∷ []), item_of_place place, item_of_place (place + 1), item_of_place (place + 2), append_assoc))

-- ---- what holds of all places

pub All-first : {X : Type 0} (P : X → Type 0) (a b : List X) → All P (a ++ b) → All P a
All-first P [] b all = All-nil P
All-first P (x ∷ a) b all = All-cons P x a (All-head P x (a ++ b) all) (All-first P a b (All-tail P x (a ++ b) all))

pub All-behind : {X : Type 0} (P : X → Type 0) (a b : List X) → All P (a ++ b) → All P b
All-behind P [] b all = all
All-behind P (x ∷ a) b all = All-behind P a b (All-tail P x (a ++ b) all)

-- of those of each item
pub All-item : (P : ℕ → Type 0) (items : List ℕ) (k d : ℕ) → All P (places_of items) → k < length items → All P (places_of_item (slice_index_or items k d))
All-item P [] k d all within = absurd (omega (arith, within))
All-item P (item ∷ items) zero d all within = All-first P (places_of_item item) (places_of items) all
All-item P (item ∷ items) (suc k) d all within = All-item P items k d (All-behind P (places_of_item item) (places_of items) all) (omega (arith, within))

-- the place of an item for one place, and the last one of one for a word
pub place_within : (n item : ℕ) → item % 2 ≡ 0 → All (λ place. place < n) (places_of_item item) → item / 2 < n
place_within n item even all = (rw (item_place item even) at all) 0 0 (omega arith)

pub word_within : (n item : ℕ) → item % 2 ≡ 1 → All (λ place. place < n) (places_of_item item) → item / 2 + 4 ≤ n
word_within n item odd all = let last = (rw (item_word item odd) at all) 3 0 (omega arith) in omega (arith, last)

-- ---- items made untouched

with_without : (n : ℕ) (statuses : List Status) (place : ℕ) → with_statuses statuses place Untouched n ≡ without statuses (places_from place n)
with_without zero statuses place = refl
with_without (suc n) statuses place = rw (with_without n (slice_set statuses place Untouched) (place + 1), without-set statuses place (places_from (place + 1) n))

pub without_word : (statuses after : List Status) (item : ℕ) → item % 2 ≡ 1 → after ≡ with_statuses statuses (item / 2) Untouched 4 → after ≡ without statuses (places_of_item item)
without_word statuses after item odd is = rw (is, item_word item odd) (with_without 4 statuses (item / 2))

pub without_place : (marks : List ℕ) (item : ℕ) → item % 2 ≡ 0 → statuses_of (slice_set marks (item / 2) 3) ≡ without (statuses_of marks) (places_of_item item)
without_place marks item even = rw (map-set, item_place item even)

-- one item more
pub without_more : (statuses after first : List Status) (items : List ℕ) (k d : ℕ) → k < length items → after ≡ without statuses (places_of_item (slice_index_or items k d))
    → without statuses (places_of (drop k items)) ≡ first → without after (places_of (drop (k + 1) items)) ≡ first
without_more statuses after first items k d within is so_far = rw (is, without-swap) (rw (drop_more items k d within) at so_far)

-- ---- the last place taken back

pub pop_step : (all old new : List ℕ) (place : ℕ) → old ≡ take (length old) all → old ≡ new ++ place ∷ []
    → (new ≡ take (length new) all) × (drop (length new) all ≡ place ∷ drop (length old) all)
pop_step all old new place cut is =
    let rest = drop (length old) all in
    let split : all ≡ new ++ place ∷ rest =
    sym (take-append-drop (length old) all) ∙ ap (λ (list : List ℕ). list ++ rest) (sym cut ∙ is) ∙ append_assoc new (place ∷ []) rest in (
      sym (ap (take (length new)) split ∙ take_at new (place ∷ rest) (length new) refl),
      ap (drop (length new)) split ∙ drop_at new (place ∷ rest) (length new) refl,
    )

-- the places so far, and those of one item more
pub places_of-take : (items : List ℕ) (k d : ℕ) → k < length items
    → places_of (take (k + 1) items) ≡ places_of (take k items) ++ places_of_item (slice_index_or items k d)
places_of-take items k d within = rw (take_more items k d within) (places_of-more (take k items) _ (slice_index_or items k d) refl)
