-- Lemmas on the memory that holds the list of touched places.
use Rattle.std.proofs.Common.{◌≡◌, ℕ, ◌+◌, ◌-◌, ◌*◌, ◌/◌, ◌%◌, ◌<◌, ◌≤◌, List, [], ◌∷◌, ◌++◌, length, take, refl, sym, ap, ◌∙◌, inl, inr, slice_index_or, slice_set, arith, append_assoc, length-append}
use Rattle.std.specs.Prelude.{All}
use Rattle.std.specs.Vec.{with_items}
use Rattle.std.proofs.lemmas.Bool.{cases_eq}
use Rattle.std.proofs.lemmas.List.{length-set, length-take-le, take_more, with_items_is}
use Rattle.std.proofs.lemmas.Grind.{take-set_at}
use Rattle.asc_model.specs.Places.{places_from}
use Rattle.asc_depvec.specs.declared.touched.Touched.TheInside.{Inside}
use Rattle.asc_depvec.specs.Touched.{IsTouched, Listing}
use Rattle.asc_depvec.specs.Tracer.{places_of, places_of_item}
use Rattle.asc_depvec.proofs.Items.{All-behind, All-first, fewer_items, item_place, item_word, places_of-append, places_of-more, word_cut}

-- the list that fields stand for
abbrev pub listing_of : Inside → Listing
listing_of t = record { items = take t.count t.items.items; cap = length t.items.items }

-- there is room for an item where there is for places
pub room_left : (t : Inside) (now : Listing) (more : ℕ) → listing_of t ≡ now → IsTouched t → length (places_of now.items) + more ≤ now.cap → t.count + more ≤ length t.items.items
room_left t now more is inv room =
    let used : length (places_of (take t.count t.items.items)) + more ≤ length t.items.items = rw (← is) at room in
    omega (arith, used, fewer_items (take t.count t.items.items), length-take-le t.count t.items.items inv.count)

-- how many places more may be listed
pub left_told : (t : Inside) (now : Listing) → listing_of t ≡ now → IsTouched t → t.left + length (places_of now.items) ≡ now.cap
left_told t now is inv = rw (← is) inv.left

-- what was put into the list
kept_items : (t : Inside) (changed new : List ℕ) → changed ≡ t.items.items → length new ≡ length changed → (with_items t.items new).items ≡ new
kept_items t changed new is size = with_items_is t.items new (size ∙ ap (λ (l : List ℕ). length l) is ∙ sym t.items.ok.0)

same_size : (t : Inside) (changed new : List ℕ) → changed ≡ t.items.items → length new ≡ length changed → length (with_items t.items new).items ≡ length t.items.items
same_size t changed new is size = rw (kept_items t changed new is size, ← is) size

-- an item more
pub IsTouched-push : (t : Inside) (now : Listing) (changed new places : List ℕ) (item : ℕ) → listing_of t ≡ now → IsTouched t → length (places_of now.items) + length places ≤ now.cap → 1 ≤ length places
    → changed ≡ t.items.items → length new ≡ length changed → take (t.count + 1) new ≡ take t.count changed ++ item ∷ [] → places_of_item item ≡ places
    → IsTouched (record { items = with_items t.items new; count = t.count + 1; left = t.left - length places })
IsTouched-push t now changed new places item is inv room some is_changed size put is_item =
    let items = t.items.items in
    let listed : places_of (take (t.count + 1) (with_items t.items new).items) ≡ places_of (take t.count items) ++ places =
    rw (kept_items t changed new is_changed size, put, is_changed) (places_of-more (take t.count items) places item is_item) in
    let same = same_size t changed new is_changed size in
    let used : length (places_of (take t.count items)) + length places ≤ length items = rw (← is) at room in
    record {
      count = omega (arith, same, room_left t now (length places) is inv room, some);
      left = omega (arith, inv.left, used, same, ap (λ (l : List ℕ). length l) listed, length-append (places_of (take t.count items)) places);
    }

-- ---- the last place

-- the items before the last one, and that
last_item : (t : Inside) (item : ℕ) → IsTouched t → 1 ≤ t.count → item ≡ slice_index_or t.items.items (t.count - 1) item
    → take t.count t.items.items ≡ take (t.count - 1) t.items.items ++ item ∷ []
last_item t item inv some read =
    let within : t.count - 1 < length t.items.items = omega (arith, some, inv.count) in
    let next : t.count ≡ t.count - 1 + 1 = omega (arith, some) in
    ap (λ (n : ℕ). take n t.items.items) next ∙ take_more t.items.items (t.count - 1) item within ∙ ap (λ (k : ℕ). take (t.count - 1) t.items.items ++ k ∷ []) (sym read)

-- there is one where there is a place
pub some_item : (t : Inside) (now : Listing) → listing_of t ≡ now → IsTouched t → 0 < length (places_of now.items) → 1 ≤ t.count
some_item t now is inv some = let here = rw (← is) at some in grind arith

pub first_low : (P : ℕ → Type 0) (item : ℕ) → All P (places_of_item item) → P (item / 2)
first_low P item all = elim (cases_eq (item % 2) 1) [
  | inl odd ↦ (rw (item_word item odd) at all) 0 0 (omega arith)
  | inr even ↦ (rw (item_place item (omega (arith, even))) at all) 0 0 (omega arith)
]

-- its place is low where all are
pub last_low : (t : Inside) (now : Listing) (item : ℕ) (P : ℕ → Type 0) → listing_of t ≡ now → IsTouched t → 0 < length (places_of now.items) → item ≡ slice_index_or t.items.items (t.count - 1) item
    → All P (places_of now.items) → P (item / 2)
last_low t now item P is inv some read all =
    let before = take (t.count - 1) t.items.items in
    let split = last_item t item inv (some_item t now is inv some) read in
    let here : All P (places_of before ++ (places_of_item item ++ [])) = rw (split, places_of-append) at (rw (← is) at all) in
    first_low P item (All-first P (places_of_item item) [] (All-behind P (places_of before) (places_of_item item ++ []) here))

-- a list without its last item that has one place
pub cut_place : (t : Inside) (now : Listing) (item : ℕ) → listing_of t ≡ now → IsTouched t → 0 < length (places_of now.items) → item ≡ slice_index_or t.items.items (t.count - 1) item
    → item % 2 ≡ 0 → places_of now.items ≡ places_of (take (t.count - 1) t.items.items) ++ item / 2 ∷ []
cut_place t now item is inv some read even =
    rw (← is, last_item t item inv (some_item t now is inv some) read) (places_of-more (take (t.count - 1) t.items.items) (item / 2 ∷ []) item (item_place item even))

pub IsTouched-cut : (t : Inside) (now : Listing) (item : ℕ) → listing_of t ≡ now → IsTouched t → 0 < length (places_of now.items) → item ≡ slice_index_or t.items.items (t.count - 1) item
    → item % 2 ≡ 0 → IsTouched (record { items = t.items; count = t.count - 1; left = t.left + 1 })
IsTouched-cut t now item is inv some read even =
    let cut = cut_place t now item is inv some read even in
    let used : length (places_of (take t.count t.items.items)) ≡ length (places_of now.items) = ap (λ (l : Listing). length (places_of l.items)) is in
    record {
      count = omega (arith, inv.count);
      left = omega (arith, inv.left, used, ap (λ (l : List ℕ). length l) cut, length-append (places_of (take (t.count - 1) t.items.items)) (item / 2 ∷ []));
    }

-- a list in which the last item, a word, has become its first three places
pub cut_word : (t : Inside) (now : Listing) (changed new : List ℕ) (item : ℕ) → listing_of t ≡ now → IsTouched t → 0 < length (places_of now.items)
    → item ≡ slice_index_or t.items.items (t.count - 1) item → item % 2 ≡ 1 → changed ≡ t.items.items → length new ≡ length changed
    → take (t.count - 1 + 3) new ≡ take (t.count - 1) changed ++ 2 * (item / 2) ∷ (2 * (item / 2 + 1)) ∷ (2 * (item / 2 + 2)) ∷ []
    → places_of now.items ≡ places_of (take (t.count + 2) (with_items t.items new).items) ++ (item / 2 + 3) ∷ []
cut_word t now changed new item is inv some read odd is_changed size put =
    let one = some_item t now is inv some in
    let next : t.count + 2 ≡ t.count - 1 + 3 = omega (arith, one) in
    ap (λ (l : Listing). places_of l.items) (sym is) ∙ ap places_of (last_item t item inv one read) ∙ word_cut (take (t.count - 1) t.items.items) item (item / 2) odd refl
    ∙ rw (kept_items t changed new is_changed size, next, put, is_changed)

-- there is room for them
pub room_three : (t : Inside) (now : Listing) (item : ℕ) → listing_of t ≡ now → IsTouched t → 0 < length (places_of now.items) → item ≡ slice_index_or t.items.items (t.count - 1) item
    → item % 2 ≡ 1 → t.count + 2 < length t.items.items
room_three t now item is inv some read odd =
    let items = t.items.items in
    let one = some_item t now is inv some in
    let parts : places_of (take t.count items) ≡ places_of (take (t.count - 1) items) ++ places_from (item / 2) 4 =
    ap places_of (last_item t item inv one read) ∙ places_of-more (take (t.count - 1) items) (places_from (item / 2) 4) item (item_word item odd) in
    omega (
      arith,
      one,
      inv.left,
      ap (λ (l : List ℕ). length l) parts,
      length-append (places_of (take (t.count - 1) items)) (places_from (item / 2) 4),
      fewer_items (take (t.count - 1) items),
      length-take-le (t.count - 1) items (omega (arith, inv.count)),
    )

pub IsTouched-word : (t : Inside) (now : Listing) (changed new : List ℕ) (item : ℕ) → listing_of t ≡ now → IsTouched t → 0 < length (places_of now.items)
    → item ≡ slice_index_or t.items.items (t.count - 1) item → item % 2 ≡ 1 → changed ≡ t.items.items → length new ≡ length changed
    → take (t.count - 1 + 3) new ≡ take (t.count - 1) changed ++ 2 * (item / 2) ∷ (2 * (item / 2 + 1)) ∷ (2 * (item / 2 + 2)) ∷ []
    → IsTouched (record { items = with_items t.items new; count = t.count + 2; left = t.left + 1 })
IsTouched-word t now changed new item is inv some read odd is_changed size put =
    let same = same_size t changed new is_changed size in
    let cut = cut_word t now changed new item is inv some read odd is_changed size put in
    let used : length (places_of (take t.count t.items.items)) ≡ length (places_of now.items) = ap (λ (l : Listing). length (places_of l.items)) is in
    record {
      count = omega (arith, same, room_three t now item is inv some read odd);
      left = omega (arith, inv.left, used, same, ap (λ (l : List ℕ). length l) cut, length-append (places_of (take (t.count + 2) (with_items t.items new).items)) ((item / 2 + 3) ∷ []));
    }

-- three items put one after another
pub put-three : (items : List ℕ) (at a b c : ℕ) → at + 3 ≤ length items
    → take (at + 3) (slice_set (slice_set (slice_set items at a) (at + 1) b) (at + 2) c) ≡ take at items ++ a ∷ b ∷ c ∷ []
put-three items at a b c room =
    let one = slice_set items at a in
    let third = take-set_at (slice_set one (at + 1) b) (at + 2) (at + 3) c (omega arith) (omega (arith, room, length-set items at a, length-set one (at + 1) b)) in
    let second = take-set_at one (at + 1) (at + 2) b (omega arith) (omega (arith, room, length-set items at a)) in
    rw (third, second, take-set_at items at (at + 1) a (omega arith) (omega (arith, room)), append_assoc, append_assoc)
