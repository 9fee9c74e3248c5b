-- The masks of an index, head by head.
use Rattle.std.proofs.Common.{◌≡◌, ℕ, zero, suc, ◌+◌, ◌-◌, ◌<◌, ◌≤◌, List, [], ◌∷◌, ◌++◌, length, get_or, set, take, map, replicate, refl, sym, ap, subst, ◌∙◌, inl, inr, arith, add-one}
use Rattle.std.specs.Prelude.{All}
use Rattle.std.specs.List.{AllPairs, insert, remove}
use Rattle.std.proofs.lemmas.Bool.{cases_lt}
use Rattle.std.proofs.Math.Seq.{map-set_same}
use Rattle.std.proofs.lemmas.List.Edits.{insert-append_right, remove-append_right}
use Rattle.std.proofs.lemmas.List.{get_or-append_right, get_or-map, get_or-replicate, get_or_append_left, get_or_default, length-append, length-map, length-replicate}
use Rattle.std.proofs.lemmas.List.Elements.{All-set}
use Rattle.std.proofs.lemmas.List.Quantifiers.{all_pairs_remove}
use Rattle.std.proofs.lemmas.List.Sums.{sum_by-cons}
use Rattle.asc_shard.specs.declared.heads.Head.{Head}
use Rattle.asc_shard.proofs.Lists.{all-insert, all-remove, map-insert, map-remove, pairs-insert}
use Rattle.asc_shard.specs.Inside.{AreHeads, IsHead, count_at, mask_at, no_head, runs, total}

-- ---- one run before the others

inner : (c m : ℕ) (rest : List ℕ) (i : ℕ) → i < c → get_or (replicate c m ++ rest) i 0 ≡ m
inner c m rest i lt = get_or_append_left (replicate c m) rest 0 i (omega (arith, length-replicate c m, lt)) ∙ get_or-replicate c i m 0 lt

outer : (c m : ℕ) (rest : List ℕ) (i : ℕ) → c ≤ i → get_or (replicate c m ++ rest) i 0 ≡ get_or rest (i - c) 0
outer c m rest i le = get_or-append_right (replicate c m) rest c i 0 (length-replicate c m) le

insert-inner : (c m : ℕ) (rest : List ℕ) (at : ℕ) → at ≤ c → replicate (suc c) m ++ rest ≡ insert (replicate c m ++ rest) at m
insert-inner c m rest zero le = refl
insert-inner zero m rest (suc at) le = absurd (omega arith)
insert-inner (suc c) m rest (suc at) le = ap (λ list. m ∷ list) (insert-inner c m rest at (omega arith))

insert-outer : (c m x : ℕ) (rest : List ℕ) (at : ℕ) → c ≤ at → replicate c m ++ insert rest (at - c) x ≡ insert (replicate c m ++ rest) at x
insert-outer c m x rest at le = sym (insert-append_right (replicate c m) rest c at x (length-replicate c m) le)

remove-inner : (c m : ℕ) (rest : List ℕ) (at : ℕ) → at ≤ c → replicate c m ++ rest ≡ remove (replicate (suc c) m ++ rest) at
remove-inner c m rest zero le = refl
remove-inner zero m rest (suc at) le = absurd (omega arith)
remove-inner (suc c) m rest (suc at) le = ap (λ list. m ∷ list) (remove-inner c m rest at (omega arith))

remove-outer : (c m : ℕ) (rest : List ℕ) (at : ℕ) → c ≤ at → replicate c m ++ remove rest (at - c) ≡ remove (replicate c m ++ rest) at
remove-outer c m rest at le = sym (remove-append_right (replicate c m) rest c at (length-replicate c m) le)

-- ---- all runs

abbrev masks_in : List Head → List ℕ
masks_in heads = map (λ (head : Head). head.mask) heads

abbrev begin : List Head → ℕ → ℕ
begin heads h = total (take h heads)

one-more : (head : Head) (heads : List Head) → total (head ∷ heads) ≡ head.count + total heads
one-more head heads = sum_by-cons (λ (x : Head). x.count) head heads

pub runs-length : (heads : List Head) → length (runs heads) ≡ total heads
runs-length [] = refl
runs-length (head ∷ heads) =
    let here = length-append (replicate head.count head.mask) (runs heads) in
    let count = length-replicate head.count head.mask in
    omega (arith, here, count, runs-length heads, one-more head heads)

pub masks-up : (heads : List Head) (h k : ℕ) → AllPairs (λ a b. a < b) (masks_in heads) → h < k → k < length heads → mask_at heads h < mask_at heads k
masks-up heads h k rise lt below =
    let long = length-map heads (λ (head : Head). head.mask) in
    let up = rise h k 0 lt (omega (arith, long)) in
    omega (arith, up, get_or-map (λ (head : Head). head.mask) heads h no_head 0 (omega arith), get_or-map (λ (head : Head). head.mask) heads k no_head 0 below)

pub runs-at : (heads : List Head) (h i : ℕ) → h < length heads → begin heads h ≤ i → i < begin heads h + count_at heads h → get_or (runs heads) i 0 ≡ mask_at heads h
runs-at [] h i lt least most = absurd (omega arith)
runs-at (x ∷ xs) zero i lt least most = inner x.count x.mask (runs xs) i (omega (arith, most))
runs-at (x ∷ xs) (suc h) i lt least most =
    let more = one-more x (take h xs) in
    outer x.count x.mask (runs xs) i (omega (arith, least, more)) ∙ runs-at xs h (i - x.count) (omega arith) (omega (arith, least, more)) (omega (arith, least, most, more))

-- before a head all masks are below what the heads before it are below
pub runs-before : (y : ℕ) (heads : List Head) (h i : ℕ) → ((k : ℕ) → k < h → mask_at heads k < y) → h ≤ length heads → i < begin heads h → get_or (runs heads) i 0 < y
runs-before y heads zero i below most lt = absurd (omega arith)
runs-before y [] (suc h) i below most lt = absurd (omega arith)
runs-before y (x ∷ xs) (suc h) i below most lt =
    let more = one-more x (take h xs) in
    elim (cases_lt i x.count) [
      | inl here ↦ let first = below 0 (omega arith) in omega (arith, first, inner x.count x.mask (runs xs) i here)
      | inr past ↦
          let rest = runs-before y xs h (i - x.count) (λ k lt. below (suc k) (omega arith)) (omega arith) (omega (arith, lt, more, past)) in
          omega (arith, rest, outer x.count x.mask (runs xs) i past)
    ]

-- and behind one they are above what the heads from it on are above
pub runs-behind : (y : ℕ) (heads : List Head) (h i : ℕ) → ((k : ℕ) → h ≤ k → k < length heads → y < mask_at heads k) → h ≤ length heads → begin heads h ≤ i → i < total heads → y < get_or (runs heads) i 0
runs-behind y [] h i above most least lt = absurd (omega arith)
runs-behind y (x ∷ xs) zero i above most least lt = elim (cases_lt i x.count) [
  | inl here ↦ omega (arith, above 0 (omega arith) (omega arith), inner x.count x.mask (runs xs) i here)
  | inr past ↦
      let rest = runs-behind y xs 0 (i - x.count) (λ k le lt. above (suc k) (omega arith) (omega arith)) (omega arith) (omega arith) (omega (arith, lt, one-more x xs, past)) in
      omega (arith, rest, outer x.count x.mask (runs xs) i past)
]
runs-behind y (x ∷ xs) (suc h) i above most least lt =
    let more = one-more x (take h xs) in
    let rest = runs-behind y xs h (i - x.count) (λ k le below. above (suc k) (omega arith) (omega arith)) (omega arith)
    (omega (arith, least, more)) (omega (arith, lt, one-more x xs, least, more)) in
    omega (arith, rest, outer x.count x.mask (runs xs) i (omega (arith, least, more)))

-- ---- one entry more, and one less

abbrev counted : List Head → ℕ → ℕ → Head
counted heads h count = record (get_or heads h no_head) { count = count }

pub runs-raise : (heads : List Head) (h at : ℕ) → h < length heads → begin heads h ≤ at → at ≤ begin heads h + count_at heads h
    → runs (set heads h (counted heads h (count_at heads h + 1))) ≡ insert (runs heads) at (mask_at heads h)
runs-raise [] h at lt least most = absurd (omega arith)
runs-raise (x ∷ xs) zero at lt least most = ap (λ c. replicate c x.mask ++ runs xs) (add-one x.count) ∙ insert-inner x.count x.mask (runs xs) at (omega (arith, most))
runs-raise (x ∷ xs) (suc h) at lt least most =
    let more = one-more x (take h xs) in
    ap (λ list. replicate x.count x.mask ++ list) (runs-raise xs h (at - x.count) (omega arith) (omega (arith, least, more)) (omega (arith, least, most, more)))
    ∙ insert-outer x.count x.mask (mask_at xs h) (runs xs) at (omega (arith, least, more))

pub runs-new : (heads : List Head) (h : ℕ) (new : Head) → new.count ≡ 1 → h ≤ length heads → runs (insert heads h new) ≡ insert (runs heads) (begin heads h) new.mask
runs-new heads zero new one le = ap (λ c. replicate c new.mask ++ runs heads) one
runs-new [] (suc h) new one le = absurd (omega arith)
runs-new (x ∷ xs) (suc h) new one le =
    let more = one-more x (take h xs) in
    ap (λ list. replicate x.count x.mask ++ list) (runs-new xs h new one (omega arith)
    ∙ ap (λ k. insert (runs xs) k new.mask) (let e : begin xs h ≡ begin (x ∷ xs) (suc h) - x.count = omega (arith, more) in e))
    ∙ insert-outer x.count x.mask new.mask (runs xs) (begin (x ∷ xs) (suc h)) (omega (arith, more))

pub runs-lower : (heads : List Head) (h at : ℕ) → h < length heads → begin heads h ≤ at → at < begin heads h + count_at heads h
    → runs (set heads h (counted heads h (count_at heads h - 1))) ≡ remove (runs heads) at
runs-lower [] h at lt least most = absurd (omega arith)
runs-lower (x ∷ xs) zero at lt least most =
    remove-inner (x.count - 1) x.mask (runs xs) at (omega (arith, most))
    ∙ ap (λ c. remove (replicate c x.mask ++ runs xs) at) (let e : suc (x.count - 1) ≡ x.count = omega (arith, most) in e)
runs-lower (x ∷ xs) (suc h) at lt least most =
    let more = one-more x (take h xs) in
    ap (λ list. replicate x.count x.mask ++ list) (runs-lower xs h (at - x.count) (omega arith) (omega (arith, least, more)) (omega (arith, least, most, more)))
    ∙ remove-outer x.count x.mask (runs xs) at (omega (arith, least, more))

pub runs-gone : (heads : List Head) (h at : ℕ) → h < length heads → count_at heads h ≡ 1 → begin heads h ≤ at → at < begin heads h + count_at heads h
    → runs (remove heads h) ≡ remove (runs heads) at
runs-gone [] h at lt one least most = absurd (omega arith)
runs-gone (x ∷ xs) zero at lt one least most =
    ap (λ k. remove (replicate 1 x.mask ++ runs xs) k) (let e : 0 ≡ at = omega (arith, one, most) in e) ∙ ap (λ c. remove (replicate c x.mask ++ runs xs) at) (sym one)
runs-gone (x ∷ xs) (suc h) at lt one least most =
    let more = one-more x (take h xs) in
    ap (λ list. replicate x.count x.mask ++ list) (runs-gone xs h (at - x.count) (omega arith) one (omega (arith, least, more)) (omega (arith, least, most, more)))
    ∙ remove-outer x.count x.mask (runs xs) at (omega (arith, least, more))

-- ---- the same where code has read a head

-- the head that was read
pub read-head : (heads : List Head) (h : ℕ) (x : Head) → h < length heads → x ≡ get_or heads h x → x ≡ get_or heads h no_head
read-head heads h x lt is = is ∙ get_or_default heads h x no_head lt

pub heads-counted : (heads : List Head) (h count : ℕ) (x : Head) → AreHeads heads → h < length heads → x ≡ get_or heads h x → 0 < count → AreHeads (set heads h (record x { count = count }))
heads-counted heads h count x are here is lt = record {
  each = let head = subst IsHead (sym is) (are.each h x here) in
      All-set IsHead heads h (record x { count = count }) (record { fit = head.fit; low = head.low; places = head.places }) are.each;
  some = All-set (λ head. 0 < head.count) heads h (record x { count = count }) lt are.some;
  rise = subst (AllPairs (λ a b. a < b)) (sym (map-set_same (λ (head : Head). head.mask) heads h (record x { count = count }) x (ap (λ (head : Head). head.mask) is))) are.rise;
}

pub heads-new : (heads : List Head) (h mask : ℕ) (one : Head) → AreHeads heads → one.mask ≡ mask → one.count ≡ 1 → IsHead one → h ≤ length heads
    → ((k : ℕ) → k < h → mask_at heads k < mask) → (h < length heads → mask < mask_at heads h) → AreHeads (insert heads h one)
heads-new heads h mask one are masked counts is most before next =
    let long = length-map heads (λ (head : Head). head.mask) in
    let at = λ (k d : ℕ) (lt : k < length heads). get_or-map (λ (head : Head). head.mask) heads k no_head d lt in
    record {
      each = all-insert IsHead heads h one are.each is;
      some = all-insert (λ head. 0 < head.count) heads h one are.some (omega (arith, counts));
      rise = subst (AllPairs (λ a b. a < b)) (sym (map-insert (λ (head : Head). head.mask) heads h one))
          (pairs-insert (λ a b. a < b) (masks_in heads) h one.mask (omega (arith, long, most)) are.rise
          (λ k d lt. omega (arith, at k d (omega arith), before k lt, masked))
          (λ k d least lt. elim (cases_lt h k) [
            | inl behind ↦ omega (arith, at k d (omega (arith, long, lt)), next (omega (arith, long, lt, least)), masks-up heads h k are.rise behind (omega (arith, long, lt)), masked)
            | inr here ↦ let e : h ≡ k = omega arith in omega (arith, at k d (omega (arith, long, lt)), next (omega (arith, long, lt, least)), ap (mask_at heads) e, masked)
          ]));
    }

pub heads-gone : (heads : List Head) (h : ℕ) → AreHeads heads → h < length heads → AreHeads (remove heads h)
heads-gone heads h are lt = record {
  each = all-remove IsHead heads h are.each;
  some = all-remove (λ head. 0 < head.count) heads h are.some;
  rise = subst (AllPairs (λ a b. a < b)) (sym (map-remove (λ (head : Head). head.mask) heads h))
      (all_pairs_remove (λ a b. a < b) (masks_in heads) h (omega (arith, lt, length-map heads (λ (head : Head). head.mask))) are.rise);
}

-- a head that is not of many is of one
pub one-left : (heads : List Head) (h : ℕ) (x : Head) → AreHeads heads → h < length heads → x ≡ get_or heads h x → x.count ≤ 1 → count_at heads h ≡ 1
one-left heads h x are lt is few =
    let some = are.some h no_head lt in
    omega (arith, few, some, ap (λ (y : Head). y.count) (read-head heads h x lt is))

-- there are no more heads than entries
pub heads-few : (heads : List Head) → All (λ head. 0 < head.count) heads → length heads ≤ total heads
heads-few [] some = omega arith
heads-few (x ∷ xs) some =
    let here = some 0 x (omega arith) in
    let more = one-more x xs in
    omega (arith, here, more, heads-few xs (λ k d lt. some (suc k) d (omega arith)))
