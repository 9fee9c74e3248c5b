-- Runs of pairs that have one address, where the pairs are in order.
use Rattle.std.proofs.Common.{◌≡◌, ◌≢◌, inl, inr, ℕ, suc, ◌+◌, ◌-◌, ◌<◌, ◌≤◌, ◌^◌, Option, Some, None, IfSome, subst, Bool, true, false, cond, ◌==◌, List, [], ◌∷◌, ◌++◌, length, map, filter, take, drop, get_or, All, refl, sym, ap, ◌∙◌, arith, append-nil, length-take, length-drop, take-append-drop, ne_eqb, eq-eqb}
use Rattle.std.proofs.lemmas.Bool.{cases_lt}
use Rattle.std.proofs.lemmas.Grind.{get_or_default_zero}
use Rattle.std.proofs.lemmas.List.{get_or_default, get_or-map, get_or-take, get_or-drop}
use Rattle.std.proofs.lemmas.List.Elements.{filter-append, All-head, All-tail}
use Rattle.std.proofs.lemmas.List.Sorted.{sorted_far}
use Rattle.std.proofs.Math.ListN.{length-map}
use Rattle.asc_guess.specs.declared.choosing.Candidate.{Candidate}
use Rattle.asc_guess.specs.Choice.{counts_with, candidate_of, distance_in, is_better, better_of}
use Rattle.asc_guess.proofs.Counts.{AreInOrder, comes_before, in_order, not_before}
use Rattle.asc_guess.proofs.Best.{HasMore, Stands, IsBest, best-takes, best-skips}

-- ---- filters

keeps_none : {X : Type 0} (p : X → Bool) (xs : List X) → All (λ x. p x ≡ false) xs → filter p xs ≡ []
keeps_none p [] h = refl
keeps_none p (x ∷ xs) h = ap (λ b. cond b (x ∷ filter p xs) (filter p xs)) (All-head (λ y. p y ≡ false) x xs h) ∙ keeps_none p xs (All-tail (λ y. p y ≡ false) x xs h)

keeps_all : {X : Type 0} (p : X → Bool) (xs : List X) → All (λ x. p x ≡ true) xs → filter p xs ≡ xs
keeps_all p [] h = refl
keeps_all p (x ∷ xs) h = ap (λ b. cond b (x ∷ filter p xs) (filter p xs)) (All-head (λ y. p y ≡ true) x xs h) ∙ ap (λ l. x ∷ l) (keeps_all p xs (All-tail (λ y. p y ≡ true) x xs h))

-- ---- runs

-- from a place up to another, and nowhere else, the pairs have an address
pub record IsRun (sorted : List (ℕ × ℕ)) (from to a : ℕ) : Type 0 where
  pub some : from < to
  pub end : to ≤ length sorted
  pub before : (k : ℕ) (d : ℕ × ℕ) → k < from → (get_or sorted k d).0 < a
  pub here : (k : ℕ) (d : ℕ × ℕ) → from ≤ k → k < to → (get_or sorted k d).0 ≡ a
  pub behind : (k : ℕ) (d : ℕ × ℕ) → to ≤ k → k < length sorted → a < (get_or sorted k d).0

abbrev part : List (ℕ × ℕ) → (from to : ℕ) → List (ℕ × ℕ)
part sorted from to = take (to - from) (drop from sorted)

length-part : (sorted : List (ℕ × ℕ)) (from to : ℕ) → from < to → to ≤ length sorted → length (part sorted from to) ≡ to - from
length-part sorted from to some end = omega (arith, length-take (to - from) (drop from sorted), length-drop from sorted)

part_at : (sorted : List (ℕ × ℕ)) (from to k : ℕ) (d : ℕ × ℕ) → k < to - from → get_or (part sorted from to) k d ≡ get_or sorted (from + k) d
part_at sorted from to k d l = get_or-take (to - from) (drop from sorted) k d l ∙ get_or-drop from sorted k d

counts-run : (sorted : List (ℕ × ℕ)) (from to a : ℕ) → IsRun sorted from to a → counts_with sorted a ≡ map (λ (pair : ℕ × ℕ). pair.1) (part sorted from to)
counts-run sorted from to a run =
    let p : ℕ × ℕ → Bool = λ pair. pair.0 == a in
    let front = take from sorted in let mid = part sorted from to in let back = drop (to - from) (drop from sorted) in
    let whole : sorted ≡ front ++ (mid ++ back) = sym (ap (λ l. front ++ l) (take-append-drop (to - from) (drop from sorted)) ∙ take-append-drop from sorted) in
    let none_before : filter p front ≡ [] = keeps_none p front (λ k d l.
    let within : k < from = omega (arith, length-take from sorted) in
    ne_eqb (get_or front k d).0 a (λ e. omega (arith, run.before k d within, ap (λ (x : ℕ × ℕ). x.0) (get_or-take from sorted k d within)))) in
    let all_here : filter p mid ≡ mid = keeps_all p mid (λ k d l.
    let within : k < to - from = omega (arith, length-part sorted from to run.some run.end) in
    eq-eqb (get_or mid k d).0 a (ap (λ (x : ℕ × ℕ). x.0) (part_at sorted from to k d within) ∙ run.here (from + k) d (omega arith) (omega arith))) in
    let none_behind : filter p back ≡ [] = keeps_none p back (λ k d l.
    let within : to + k < length sorted = omega (arith, length-drop (to - from) (drop from sorted), length-drop from sorted, run.some, run.end) in
    let e = get_or-drop (to - from) (drop from sorted) k d in
    let f = get_or-drop from sorted (to - from + k) d in
    let g : from + (to - from + k) ≡ to + k = omega (arith, run.some) in
    let h = run.behind (to + k) d (omega arith) within in
    ne_eqb (get_or back k d).0 a (λ i. omega (arith, h, ap (λ (x : ℕ × ℕ). x.0) (e ∙ f ∙ ap (λ n. get_or sorted n d) g)))) in
    ap (map (λ (pair : ℕ × ℕ). pair.1)) (ap (filter p) whole ∙ filter-append p front (mid ++ back)
    ∙ ap (λ l. l ++ filter p (mid ++ back)) none_before ∙ filter-append p mid back ∙ ap (λ l. l ++ filter p back) all_here ∙ ap (λ l. mid ++ l) none_behind ∙ append-nil mid)

distance_by : (ns : List ℕ) → 0 < length ns → distance_in ns ≡ get_or ns (length ns - 1) 0 - get_or ns 0 0
distance_by [] h = absurd (omega arith)
distance_by (x ∷ xs) h =
    let e : suc (length xs) - 1 ≡ length xs = omega arith in
    ap (λ n. n - x) (get_or_default_zero (x ∷ xs) (length xs) x (omega arith) ∙ ap (λ k. get_or (x ∷ xs) k 0) (sym e))

-- the candidate of a run's address
pub candidate-run : (sorted : List (ℕ × ℕ)) (from to a : ℕ) → IsRun sorted from to a
    → candidate_of sorted a ≡ record { address = a; times = to - from; distance = (get_or sorted (to - 1) (0, 0)).1 - (get_or sorted from (0, 0)).1 }
candidate-run sorted from to a run =
    let mid = part sorted from to in let second : ℕ × ℕ → ℕ = λ pair. pair.1 in
    let size = length-part sorted from to run.some run.end in
    let count : length (map second mid) ≡ to - from = length-map mid second ∙ size in
    let some = run.some in
    let at : (k j : ℕ) → k < to - from → from + k ≡ j → get_or (map second mid) k 0 ≡ (get_or sorted j (0, 0)).1 = λ k j l e.
    get_or-map second mid k (0, 0) 0 (omega arith) ∙ ap second (part_at sorted from to k (0, 0) l ∙ ap (λ n. get_or sorted n (0, 0)) e) in
    let last : get_or (map second mid) (length (map second mid) - 1) 0 ≡ (get_or sorted (to - 1) (0, 0)).1 =
    at (length (map second mid) - 1) (to - 1) (omega arith) (omega arith) in
    let first : get_or (map second mid) 0 0 ≡ (get_or sorted from (0, 0)).1 = at 0 from (omega arith) (omega arith) in
    let apart : distance_in (map second mid) ≡ (get_or sorted (to - 1) (0, 0)).1 - (get_or sorted from (0, 0)).1 =
    distance_by (map second mid) (omega arith) ∙ ap (λ n. n - get_or (map second mid) 0 0) last ∙ ap (λ n. (get_or sorted (to - 1) (0, 0)).1 - n) first in
    let c : List ℕ → Candidate = λ counts. record { address = a; times = length counts; distance = distance_in counts } in
    ap c (counts-run sorted from to a run)
    ∙ ap (λ n. record { address = a; times = n; distance = distance_in (map second mid) }) count
    ∙ ap (λ n. record { address = a; times = to - from; distance = n }) apart

-- ---- the next run

address_up : (sorted : List (ℕ × ℕ)) (i j : ℕ) (d : ℕ × ℕ) → AreInOrder sorted → i ≤ j → j < length sorted → (get_or sorted i d).0 ≤ (get_or sorted j d).0
address_up sorted i j d order l m =
    let x = get_or sorted j d in let y = get_or sorted i d in
    let h = not_before x.0 x.1 y.0 y.1 (sorted_far comes_before in_order sorted order i j d l m) in h.address

-- the counts of a run do not fall
pub run_rises : (sorted : List (ℕ × ℕ)) (from to a : ℕ) (d : ℕ × ℕ) → AreInOrder sorted → IsRun sorted from to a → (get_or sorted from d).1 ≤ (get_or sorted (to - 1) d).1
run_rises sorted from to a d order run =
    let x = get_or sorted (to - 1) d in let y = get_or sorted from d in
    let some = run.some in let end = run.end in
    let h = not_before x.0 x.1 y.0 y.1 (sorted_far comes_before in_order sorted order from (to - 1) d (omega arith) (omega arith)) in
    h.count (run.here (to - 1) d (omega arith) (omega arith) ∙ sym (run.here from d (omega arith) some))

-- no pair before a place has the address that stands there
pub record IsStart (sorted : List (ℕ × ℕ)) (from : ℕ) : Type 0 where
  pub start : (k : ℕ) (d : ℕ × ℕ) → k < from → from < length sorted → (get_or sorted k d).0 < (get_or sorted from d).0

pub run_is : (sorted : List (ℕ × ℕ)) (from to : ℕ) → AreInOrder sorted → IsStart sorted from → from < to → to ≤ length sorted
    → ((k : ℕ) (d : ℕ × ℕ) → from ≤ k → k < to → (get_or sorted k d).0 ≡ (get_or sorted from d).0)
    → ((d : ℕ × ℕ) → to < length sorted → (get_or sorted to d).0 ≢ (get_or sorted from d).0)
    → IsRun sorted from to (get_or sorted from (0, 0)).0
run_is sorted from to order start some end here behind =
    let at : (d : ℕ × ℕ) → (get_or sorted from d).0 ≡ (get_or sorted from (0, 0)).0 = λ d.
    ap (λ (x : ℕ × ℕ). x.0) (get_or_default sorted from d (0, 0) (omega arith)) in record {
      some = some;
      end = end;
      before = λ k d l. omega (arith, start.start k d l (omega arith), at d);
      here = λ k d l m. here k d l m ∙ at d;
      behind = λ k d l m.
          let p = address_up sorted from to d order (omega arith) (omega arith) in
          let q = address_up sorted to k d order l m in
          let r = behind d (omega arith) in
          omega (arith, p, q, r, at d);
    }

-- behind a run another one starts
pub run_behind : (sorted : List (ℕ × ℕ)) (from to a : ℕ) → IsRun sorted from to a → IsStart sorted to
run_behind sorted from to a run = record {
  start = λ k d l m. elim (cases_lt k from) [
    | inl before ↦ omega (arith, run.before k d before, run.behind to d (omega arith) m)
    | inr here ↦ omega (arith, run.here k d here l, run.behind to d (omega arith) m)
  ];
}

-- a run has one address more
pub run_more : (sorted : List (ℕ × ℕ)) (from to a : ℕ) → IsRun sorted from to a → HasMore (Stands sorted from) (Stands sorted to) a
run_more sorted from to a run =
    let some = run.some in record {
      new = (from, some, run.here from (0, 0) (omega arith) some);
      old = λ b h. (h.0, omega (arith, h.1), h.2);
      only = λ b h. elim (cases_lt h.0 from) [
        | inl before ↦ inr (h.0, before, h.2)
        | inr here ↦ inl (sym h.2 ∙ run.here h.0 (0, 0) here h.1)
      ];
    }

-- ---- steps over runs

abbrev IsCounted : Candidate → Type 0
IsCounted c = (2 ≤ c.times) × (c.times ≤ 2 ^ 16)

one_of : (b : Bool) (c d : Candidate) → IsCounted c → IsCounted d → IfSome (cond b (Some c) (Some d)) IsCounted
one_of true c d h k = h
one_of false c d h k = k

pub better_counted : (best : Option Candidate) (c : Candidate) → IfSome best IsCounted → IsCounted c → IfSome (better_of best c) IsCounted
better_counted None c h k = k
better_counted (Some d) c h k = one_of (is_better c d) c d k h

-- the best after a run that is long enough, and after a shorter one
pub run_takes : (sorted : List (ℕ × ℕ)) (least from to a : ℕ) (best : Option Candidate) (c : Candidate) → 2 ≤ least → IsRun sorted from to a → least ≤ to - from
    → c ≡ record { address = a; times = to - from; distance = (get_or sorted (to - 1) (0, 0)).1 - (get_or sorted from (0, 0)).1 }
    → IsBest sorted least (Stands sorted from) best → IsBest sorted least (Stands sorted to) (better_of best c)
run_takes sorted least from to a best c two run enough is h =
    let e = candidate-run sorted from to a run in
    let f : (candidate_of sorted a).times ≡ to - from = ap (λ (d : Candidate). d.times) e in
    subst (λ (d : Candidate). IsBest sorted least (Stands sorted to) (better_of best d)) (e ∙ sym is)
    (best-takes sorted least (Stands sorted from) (Stands sorted to) a best two (run_more sorted from to a run) (omega arith) h)

pub run_skips : (sorted : List (ℕ × ℕ)) (least from to a : ℕ) (best : Option Candidate) → IsRun sorted from to a → to - from < least
    → IsBest sorted least (Stands sorted from) best → IsBest sorted least (Stands sorted to) best
run_skips sorted least from to a best run few h =
    let f : (candidate_of sorted a).times ≡ to - from = ap (λ (d : Candidate). d.times) (candidate-run sorted from to a run) in
    best-skips sorted least (Stands sorted from) (Stands sorted to) a best (run_more sorted from to a run) (omega arith) h
