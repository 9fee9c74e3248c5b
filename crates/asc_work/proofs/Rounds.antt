-- What each lane has run, and where the result of a job stands.
use Rattle.std.proofs.Common.{◌≡◌, ◌≢◌, ◌⊎◌, ◌↔◌, ℕ, zero, suc, ◌+◌, ◌-◌, ◌*◌, ◌/◌, ◌%◌, ◌<◌, ◌≤◌, List, [], ◌∷◌, ◌++◌, true, Option, Some, None, Vec, length, get_or, set, take, drop, replicate, nat_lt, vec_capacity, All, refl, sym, ap, subst, ◌∙◌, ⊎_elim, inl, inr, arith, length-append}
use Rattle.std.specs.Int.{div_ceil}
use Rattle.std.specs.Global.{Global}
use Rattle.std.specs.Option.{is_some}
use Rattle.std.proofs.Math.Nat.{div-lt_iff_lt-mul, div-mul-le_self, le_of_lt, lt_of_mul-lt-mul_right, mod-eq-sub-div-mul, mod-lt, mul-le-mul_right}
use Rattle.std.proofs.Math.Seq.{map-set_same}
use Rattle.std.proofs.lemmas.List.{ext_get_or, get_or-append-add, get_or_append_left, get_or-map, get_or_past, get_or-set_same, get_or-set_other, length-map, length-set, map-append, map-set, replicate-append-replicate}
use Rattle.std.proofs.lemmas.List.Elements.{All-push}
use Rattle.std.proofs.lemmas.List.FromFn.{get_or-map-range_with_len, length-map-range_with_len}
use Rattle.std.proofs.lemmas.Bool.{cases_lt, false≢true, le-ltb}
use Rattle.asc_model.specs.declared.limits.TheConstants.{MOST_GUESSES}
use Rattle.asc_model.specs.Shape.{Shape}
use Rattle.asc_traj.specs.declared.made.Made.{Made}
use Rattle.asc_guess.specs.Guess.{Task}
use Rattle.asc_work.specs.declared.lane.Lane.{Lane}
use Rattle.asc_work.specs.declared.lane.Round.{Round}
use Rattle.asc_work.specs.Inside.{HasOwn}
use Rattle.asc_work.specs.Lanes.{Lanes, AreShared, AreJobs, HasRunAll, HasRunFirst, HasRunOnly, IsDone, IsDoneAt, IsLane, ran_by, dealt, lists_of}
use Rattle.asc_work.proofs.Posts.{written}

-- ---- one lane

-- what holds of each element and of one put behind them
with_last : {X : Type 0} (P : ℕ → X → Type 0) (xs : List X) (x d : X) → ((j : ℕ) → j < length xs → P j (get_or xs j d)) → P (length xs) x
    → (j : ℕ) → j < length (xs ++ x ∷ []) → P j (get_or (xs ++ x ∷ []) j d)
with_last P [] x d each last zero l = last
with_last P [] x d each last (suc j) l = absurd (omega (arith, l))
with_last P (y ∷ ys) x d each last zero l = each zero (omega arith)
with_last P (y ∷ ys) x d each last (suc j) l =
    with_last (λ i. P (suc i)) ys x d (λ i m. each (suc i) (omega (arith, m))) last j (omega (arith, l))

size_of_last : {X : Type 0} (xs : List X) (x : X) → length (xs ++ x ∷ []) ≡ length xs + 1
size_of_last xs x = omega (arith, length-append xs (x ∷ []))

next_place : (at i count more lanes : ℕ) → i ≡ at + count * lanes → more ≡ count + 1 → i + lanes ≡ at + more * lanes
next_place at i count more lanes is one = let e : i + lanes ≡ at + (count + 1) * lanes = grind (arith, is) in e ∙ ap (λ (m : ℕ). at + m * lanes) (sym one)

-- a round has one job more for a lane
one_more : (round : Round) (at count i : ℕ) → i ≡ at + count * round.lanes → i < length round.jobs.now → AreJobs round at count → AreJobs round at (count + 1)
one_more round at count i is within first j l = ⊎_elim (λ (m : j < count). first j m)
    (λ (m : count ≤ j). let e : count ≡ j = omega (arith, l, m) in subst (λ (n : ℕ). at + n * round.lanes < length round.jobs.now) e (subst (λ (n : ℕ). n < length round.jobs.now) is within))
    (cases_lt j count)

-- a lane has run one job more, and kept its result
pub ran_next : (shape : Shape) (round : Round) (at i : ℕ) (old mid next : Lane) (made : Made) → mid.results ≡ old.results → HasOwn shape next.unfilled next.tracer
    → next.results.items ≡ mid.results.items ++ Some made ∷ [] → vec_capacity mid.results ≤ vec_capacity next.results → IsDoneAt round i (Some made) → i < length round.jobs.now
    → IsLane shape round.lanes old × (i ≡ at + length old.results.items * round.lanes) × HasRunFirst round at (length old.results.items) old × AreJobs round at (length old.results.items)
    → IsLane shape round.lanes next × (i + round.lanes ≡ at + length next.results.items * round.lanes) × HasRunFirst round at (length next.results.items) next × AreJobs round at (length next.results.items)
ran_next shape round at i old mid next made same own items room done within before =
    let P : ℕ → Option Made → Type 0 = λ j o. IsDoneAt round (at + j * round.lanes) o in
    let is : next.results.items ≡ old.results.items ++ Some made ∷ [] = items ∙ ap (λ (v : Vec (Option Made) Global). v.items ++ Some made ∷ []) same in
    let more : vec_capacity old.results ≤ vec_capacity next.results = subst (λ (v : Vec (Option Made) Global). vec_capacity v ≤ vec_capacity next.results) same room in
    let most = mul-le-mul_right round.lanes more in
    let enough = before.0.room in
    let last : P (length old.results.items) (Some made) = subst (λ k. IsDoneAt round k (Some made)) before.1 done in
    let size : length next.results.items ≡ length old.results.items + 1 = ap (λ (l : List (Option Made)). length l) is ∙ size_of_last old.results.items (Some made) in (
      record { own = own; room = omega (arith, most, enough) },
      next_place at i (length old.results.items) (length next.results.items) round.lanes before.1 size,
      subst (λ (l : List (Option Made)). (j : ℕ) → j < length l → P j (get_or l j None)) (sym is) (with_last P old.results.items (Some made) None before.2 last),
      subst (AreJobs round at) (sym size) (one_more round at (length old.results.items) i before.1 within before.3),
    )

-- where the next job is none, an earlier place holds each of the jobs
earlier : (round : Round) (at count j : ℕ) → length round.jobs.now ≤ at + count * round.lanes → at + j * round.lanes < length round.jobs.now → j < count
earlier round at count j ended within =
    let less : j * round.lanes < count * round.lanes = omega (arith, ended, within) in lt_of_mul-lt-mul_right round.lanes less

-- a lane has run all its jobs once the next one is none
pub ran_all : (round : Round) (at : ℕ) (lane : Lane) → HasRunFirst round at (length lane.results.items) lane
    → length round.jobs.now ≤ at + length lane.results.items * round.lanes → HasRunAll round at lane
ran_all round at lane first ended j within = first j (earlier round at (length lane.results.items) j ended within)

-- and it has run no other
pub ran_only : (round : Round) (at : ℕ) (lane : Lane) → AreJobs round at (length lane.results.items)
    → length round.jobs.now ≤ at + length lane.results.items * round.lanes → HasRunOnly round at lane
ran_only round at lane first ended j = (first j, earlier round at (length lane.results.items) j ended)

-- what a lane has run that was left so
pub left_so : (round : Round) (at : ℕ) (left lane : Lane) → left ≡ lane → HasRunAll round at left → HasRunAll round at lane
left_so round at left lane is all = subst (λ (l : Lane). HasRunAll round at l) is all

pub left_only : (round : Round) (at : ℕ) (left lane : Lane) → left ≡ lane → HasRunOnly round at left → HasRunOnly round at lane
left_only round at left lane is only = subst (λ (l : Lane). HasRunOnly round at l) is only

-- ---- all lanes

-- the job of a result
place : (n i : ℕ) → i ≡ i % n + i / n * n
place n i = omega (arith, mod-eq-sub-div-mul i n, div-mul-le_self i n)

-- rounded up there is room for all
ceil_enough : (x n : ℕ) → 1 ≤ n → x ≤ div_ceil x n * n
ceil_enough x n some = ⊎_elim
    (λ (none : x % n < 1). let most = mul-le-mul_right {m = x / n} {n = div_ceil x n} n (omega arith) in omega (arith, place n x, most, none))
    (λ (rest : 1 ≤ x % n). le_of_lt ((div-lt_iff_lt-mul {k = n} {x = x} {y = div_ceil x n} (omega (arith, some))).0 (omega (arith, rest))))
    (cases_lt (x % n) 1)

-- a further lane
pub lane_put : (shape : Shape) (lanes room counter : ℕ) (made more : List Lane) (lane : Lane) → 1 ≤ lanes → room ≡ div_ceil MOST_GUESSES lanes → more ≡ made ++ lane ∷ []
    → HasOwn shape lane.unfilled lane.tracer → room ≤ vec_capacity lane.results → lane.results.items ≡ []
    → (length made ≡ counter) × All (IsLane shape lanes) made × (ran_by made ≡ replicate counter 0)
    → (length more ≡ counter + 1) × All (IsLane shape lanes) more × (ran_by more ≡ replicate (counter + 1) 0)
lane_put shape lanes room counter made more lane some is put own enough empty before =
    let all = mul-le-mul_right lanes enough in
    let most : MOST_GUESSES ≤ room * lanes = subst (λ (n : ℕ). MOST_GUESSES ≤ n * lanes) (sym is) (ceil_enough MOST_GUESSES lanes some) in
    let fit : IsLane shape lanes lane = record { own = own; room = omega (arith, all, most) } in (
      ap (λ (l : List Lane). length l) put ∙ size_of_last made lane ∙ ap (λ (n : ℕ). n + 1) before.0,
      subst (All (IsLane shape lanes)) (sym put) (All-push (IsLane shape lanes) made lane before.1 fit),
      ap (λ (l : List Lane). ran_by l) put ∙ map-append (λ (l : Lane). length l.results.items) made (lane ∷ [])
          ∙ ap (λ (counts : List ℕ). counts ++ length lane.results.items ∷ []) before.2
          ∙ ap (λ (l : List (Option Made)). replicate counter 0 ++ length l ∷ []) empty ∙ replicate-append-replicate counter 1 0,
    )

-- the results of a lane
list_at : (lanes : List Lane) (k : ℕ) (d : Lane) → k < length lanes → get_or (lists_of lanes) k [] ≡ (get_or lanes k d).results.items
list_at lanes k d l = get_or-map (λ (lane : Lane). lane.results.items) lanes k d [] l

size_of : (lanes : List Lane) → length (lists_of lanes) ≡ length lanes
size_of lanes = length-map lanes (λ (lane : Lane). lane.results.items)

-- some lane, to read at
some_lane : (lanes : List Lane) → 1 ≤ length lanes → Lane
some_lane [] some = absurd (omega (arith, some))
some_lane (lane ∷ lanes) some = lane

-- the result of a job
pub dealt_at : (lists : List (List (Option Made))) (jobs i : ℕ) → i < jobs → get_or (dealt lists jobs) i None ≡ get_or (get_or lists (i % length lists) []) (i / length lists) None
dealt_at lists jobs i l =
    get_or-map-range_with_len (λ (k : ℕ). get_or (get_or lists (k % length lists) []) (k / length lists) None) 0 jobs i i None l (omega arith)

pub length-dealt : (lists : List (List (Option Made))) (jobs : ℕ) → length (dealt lists jobs) ≡ jobs
length-dealt lists jobs =
    length-map-range_with_len (λ (k : ℕ). get_or (get_or lists (k % length lists) []) (k / length lists) None) 0 jobs

-- Each lane has run all its jobs, so each job of the round was run.
pub round_done : (round : Round) (lanes : List Lane) → 1 ≤ round.lanes → length lanes ≡ round.lanes
    → ((k : ℕ) (d : Lane) → k < length lanes → HasRunAll round k (get_or lanes k d))
    → (i : ℕ) → i < length round.jobs.now → IsDoneAt round i (get_or (dealt (lists_of lanes) (length round.jobs.now)) i None)
round_done round lanes some size each i within =
    let n = length lanes in
    let k : i % n < n = mod-lt i (omega (arith, some, size)) in
    let d = some_lane lanes (omega (arith, some, size)) in
    let where_is : i ≡ i % n + i / n * round.lanes = place n i ∙ ap (λ (m : ℕ). i % n + i / n * m) size in
    let done = each (i % n) d k (i / n) (subst (λ (m : ℕ). m < length round.jobs.now) where_is within) in
    let made = dealt_at (lists_of lanes) (length round.jobs.now) i within in
    let made_is : get_or (dealt (lists_of lanes) (length round.jobs.now)) i None ≡ get_or (get_or lanes (i % n) d).results.items (i / n) None =
    made ∙ ap (λ (m : ℕ). get_or (get_or (lists_of lanes) (i % m) []) (i / m) None) (size_of lanes) ∙ ap (λ (l : List (Option Made)). get_or l (i / n) None) (list_at lanes (i % n) d k) in
    subst (IsDoneAt round i) (sym made_is) (subst (λ (m : ℕ). IsDoneAt round m (get_or (get_or lanes (i % n) d).results.items (i / n) None)) (sym where_is) done)

-- ---- a result that is taken

same_or_not : (j i : ℕ) → (j ≡ i) ⊎ (j ≢ i)
same_or_not j i = ⊎_elim (λ (l : j < i). inr (λ e. absurd (omega (arith, l, e))))
    (λ (m : i ≤ j). ⊎_elim (λ (l : i < j). inr (λ e. absurd (omega (arith, l, e)))) (λ (l : j ≤ i). inl (omega (arith, l, m))) (cases_lt i j)) (cases_lt j i)

set_none : (xs : List (Option Made)) (i : ℕ) → get_or (set xs i None) i None ≡ None
set_none [] i = refl
set_none (x ∷ xs) zero = refl
set_none (x ∷ xs) (suc i) = set_none xs i

-- another job stands elsewhere
apart : (n i j : ℕ) → j ≢ i → j % n ≡ i % n → j / n ≢ i / n
apart n i j other same e =
    other (place n j ∙ ap (λ (m : ℕ). m + j / n * n) same ∙ ap (λ (m : ℕ). i % n + m * n) e ∙ sym (place n i))

-- the result of a job, where one list of all is another one
set_elsewhere : (lists : List (List (Option Made))) (n i j : ℕ) (left : List (Option Made)) → j ≢ i → left ≡ set (get_or lists (i % n) []) (i / n) None → i % n < length lists
    → get_or (get_or (set lists (i % n) left) (j % n) []) (j / n) None ≡ get_or (get_or lists (j % n) []) (j / n) None
set_elsewhere lists n i j left other is l = ⊎_elim
    (λ (same : j % n ≡ i % n). let e = ap (λ (k : ℕ). get_or (get_or (set lists (i % n) left) k []) (j / n) None) same in
    let f = ap (λ (xs : List (Option Made)). get_or xs (j / n) None) (get_or-set_same lists (i % n) left [] l ∙ is) in
    let h = get_or-set_other (get_or lists (i % n) []) (i / n) (j / n) None None (apart n i j other same) in
    e ∙ f ∙ h ∙ ap (λ (k : ℕ). get_or (get_or lists k []) (j / n) None) (sym same))
    (λ (no : j % n ≢ i % n). ap (λ (xs : List (Option Made)). get_or xs (j / n) None) (get_or-set_other lists (i % n) (j % n) left [] no))
    (same_or_not (j % n) (i % n))

-- once a result was taken, it is none, and the others stay
pub dealt_set : (lists : List (List (Option Made))) (jobs i : ℕ) (left : List (Option Made)) → 1 ≤ length lists
    → left ≡ set (get_or lists (i % length lists) []) (i / length lists) None → dealt (set lists (i % length lists) left) jobs ≡ set (dealt lists jobs) i None
dealt_set lists jobs i left some is =
    let n = length lists in
    let k : i % n < n = mod-lt i (omega (arith, some)) in
    let new = set lists (i % n) left in
    let size : length new ≡ n = length-set lists (i % n) left in
    ext_get_or None (dealt new jobs) (set (dealt lists jobs) i None)
    (length-dealt new jobs ∙ sym (length-dealt lists jobs) ∙ sym (length-set (dealt lists jobs) i None))
    (λ j l. let m : j < jobs = subst (λ (x : ℕ). j < x) (length-dealt new jobs) l in
    let at = dealt_at new jobs j m ∙ ap (λ (x : ℕ). get_or (get_or new (j % x) []) (j / x) None) size in
    at ∙ ⊎_elim
    (λ (same : j ≡ i). let p = ap (λ (x : ℕ). get_or (get_or new (x % n) []) (x / n) None) same in
    let q = ap (λ (xs : List (Option Made)). get_or xs (i / n) None) (get_or-set_same lists (i % n) left [] k ∙ is) in
    let inside : i < length (dealt lists jobs) = subst (λ (x : ℕ). i < x) (sym (length-dealt lists jobs)) (subst (λ (x : ℕ). x < jobs) same m) in
    p ∙ q ∙ set_none (get_or lists (i % n) []) (i / n)
    ∙ sym (get_or-set_same (dealt lists jobs) i None None inside) ∙ ap (λ (x : ℕ). get_or (set (dealt lists jobs) i None) x None) (sym same))
    (λ (other : j ≢ i). set_elsewhere lists n i j left other is k ∙ sym (dealt_at lists jobs j m) ∙ sym (get_or-set_other (dealt lists jobs) i j None None other))
    (same_or_not j i))

-- ---- lanes in two parts

-- What holds of each of the first lanes, and of each behind them, by its place among all. `busy` is how many are first.
pub over_parts : {X : Type 0} (P : ℕ → X → Type 0) (busy first rest size : ℕ) (front back : List X) → first ≡ busy → rest + busy ≡ size → length front ≡ first → length back ≡ rest
    → ((k : ℕ) (d : X) → k < first → P (0 + k) (get_or front k d)) → ((k : ℕ) (d : X) → k < rest → P (busy + k) (get_or back k d))
    → (k : ℕ) (d : X) → k < size → P k (get_or (front ++ back) k d)
over_parts P busy first rest size front back first_is size_is front_size back_size before behind k d l = elim (cases_lt k (length front)) [
  | inl x ↦ let at : 0 + k ≡ k = omega arith in
      subst (λ lane. P k lane) (sym (get_or_append_left front back d k x))
      (subst (λ n. P n (get_or front k d)) at (before k d (omega (arith, x, front_size))))
  | inr x ↦ let i = k - length front in
      let at : busy + i ≡ k = omega (arith, x, first_is, front_size) in
      let place : length front + i ≡ k = omega (arith, x) in
      let here : get_or back i d ≡ get_or (front ++ back) k d = sym (get_or-append-add front back i d) ∙ ap (λ n. get_or (front ++ back) n d) place in
      subst (λ n. P n (get_or (front ++ back) k d)) at
      (subst (λ lane. P (busy + i) lane) here (behind i d (omega (arith, x, l, size_is, first_is, front_size))))
]

-- ---- the fields of lanes

-- each job was run, told of the fields that were written as a slice
pub round_run : (round : Round) (n laps span : ℕ) (now old new : List Lane) → round.laps ≡ laps → round.span ≡ span → now ≡ old → length now ≡ n → length new ≡ length now
    → 1 ≤ length old → round.lanes ≡ n → ((k : ℕ) (d : Lane) → k < length now → HasRunAll round k (get_or new k d)) → (i : ℕ) (d : Task) → i < length round.jobs.now
    → IsDone laps span round.prev.now.value round.last.now.value (get_or round.jobs.now i d) (get_or (dealt (lists_of (take n (new ++ drop (length new) old))) (length round.jobs.now)) i None)
round_run round n laps span now old new laps_is span_is same size count some lanes each i d within =
    let old_size : length now ≡ length old = ap (λ (l : List Lane). length l) same in
    let done = round_done round new (omega (arith, some, lanes, size, old_size)) (omega (arith, lanes, size, count)) (λ k e l. each k e (omega (arith, l, count))) i within in
    let all = subst (λ (l : List Lane). IsDoneAt round i (get_or (dealt (lists_of l) (length round.jobs.now)) i None)) (sym (written n now old new same size count)) done in
    let Told : ℕ → ℕ → Type 0 = λ a b. IsDone a b round.prev.now.value round.last.now.value (get_or round.jobs.now i d) (get_or (dealt (lists_of (take n (new ++ drop (length new) old))) (length round.jobs.now)) i None) in
    subst (λ (a : ℕ). Told a span) laps_is (subst (λ (b : ℕ). Told round.laps b) span_is (all d))

-- the jobs were shared, told of the fields that were written as a slice
pub round_shared : (round : Round) (n lanes : ℕ) (now old new : List Lane) → length old ≡ lanes → now ≡ old → length now ≡ n → length new ≡ length now
    → 1 ≤ length old → round.lanes ≡ n → ((k : ℕ) (d : Lane) → k < length now → HasRunOnly round k (get_or new k d))
    → AreShared (ran_by (take n (new ++ drop (length new) old))) lanes (length round.jobs.now)
round_shared round n lanes now old new lanes_is same size count some round_lanes each k j within =
    let old_size : length now ≡ length old = ap (λ (l : List Lane). length l) same in
    let d = some_lane old some in
    let here : k < length new = omega (arith, within, lanes_is, old_size, count) in
    let ran : get_or (ran_by new) k 0 ≡ length (get_or new k d).results.items = get_or-map (λ (lane : Lane). length lane.results.items) new k d 0 here in
    let ran_is : get_or (ran_by (take n (new ++ drop (length new) old))) k 0 ≡ length (get_or new k d).results.items =
    ap (λ (l : List Lane). get_or (ran_by l) k 0) (written n now old new same size count) ∙ ran in
    let number : round.lanes ≡ lanes = omega (arith, round_lanes, size, old_size, lanes_is) in
    let only = each k d (omega (arith, here, count)) j in
    subst (λ (r : ℕ). (j < r) ↔ (k + j * lanes < length round.jobs.now)) (sym ran_is)
    (subst (λ (m : ℕ). (j < length (get_or new k d).results.items) ↔ (k + j * m < length round.jobs.now)) number only)

-- where the result of a job stands
pub stands_in : (lanes : List Lane) (jobs i n : ℕ) (results : List (Option Made)) (lane : Lane) → dealt (lists_of lanes) jobs ≡ results → 1 ≤ length lanes → n ≡ length lanes
    → lane ≡ get_or lanes (i % n) lane → i < jobs → get_or results i None ≡ get_or lane.results.items (i / n) None
stands_in lanes jobs i n results lane view some size is within =
    let at = dealt_at (lists_of lanes) jobs i within in
    let all = size_of lanes ∙ sym size in
    let k : i % n < length lanes = subst (λ (m : ℕ). i % n < m) size (mod-lt i (omega (arith, some, size))) in
    ap (λ (l : List (Option Made)). get_or l i None) (sym view) ∙ at ∙ ap (λ (m : ℕ). get_or (get_or (lists_of lanes) (i % m) []) (i / m) None) all
    ∙ ap (λ (l : List (Option Made)). get_or l (i / n) None) (list_at lanes (i % n) lane k ∙ ap (λ (x : Lane). x.results.items) (sym is))

-- there is no result of a job that there was not
past : (lanes : List Lane) (jobs i : ℕ) (results : List (Option Made)) → dealt (lists_of lanes) jobs ≡ results → jobs ≤ i → get_or results i None ≡ None
past lanes jobs i results view beyond =
    let size : length results ≡ jobs = ap (λ (l : List (Option Made)). length l) (sym view) ∙ length-dealt (lists_of lanes) jobs in
    get_or_past results i None (omega (arith, size, beyond))

pub has_none : (lanes : List Lane) (jobs i : ℕ) (results : List (Option Made)) → dealt (lists_of lanes) jobs ≡ results → jobs ≤ i → nat_lt i jobs ≡ is_some (get_or results i None)
has_none lanes jobs i results view beyond = le-ltb i jobs beyond ∙ sym (ap (λ (o : Option Made). is_some o) (past lanes jobs i results view beyond))

-- so a result that is there is that of a job
pub stands : (lanes : List Lane) (jobs i n : ℕ) (results : List (Option Made)) (lane : Lane) → dealt (lists_of lanes) jobs ≡ results → 1 ≤ length lanes → n ≡ length lanes
    → lane ≡ get_or lanes (i % n) lane → is_some (get_or results i None) ≡ true → get_or results i None ≡ get_or lane.results.items (i / n) None
stands lanes jobs i n results lane view some size is there = ⊎_elim
    (λ (within : i < jobs). stands_in lanes jobs i n results lane view some size is within)
    (λ (beyond : jobs ≤ i). absurd (false≢true (sym (ap (λ (o : Option Made). is_some o) (past lanes jobs i results view beyond)) ∙ there)))
    (cases_lt i jobs)

abbrev fields : Shape → (laps span lanes : ℕ) → List (Option Made) → (ran : List ℕ) → Lanes
fields shape laps span lanes results ran = record { shape = shape; laps = laps; span = span; lanes = lanes; results = results; ran = ran }

-- how many jobs each lane ran stays where a result is taken
counts_stay : (lanes : List Lane) (k : ℕ) (lane next : Lane) → lane ≡ get_or lanes k lane → length next.results.items ≡ length lane.results.items → ran_by (set lanes k next) ≡ ran_by lanes
counts_stay lanes k lane next is left =
    map-set_same (λ (l : Lane). length l.results.items) lanes k next lane (left ∙ ap (λ (l : Lane). length l.results.items) is)

-- lanes after a result was taken
pub taken : (t : Lanes) (shape : Shape) (laps span jobs i n : ℕ) (lanes : List Lane) (lane next : Lane)
    → fields shape laps span (length lanes) (dealt (lists_of lanes) jobs) (ran_by lanes) ≡ t → 1 ≤ length lanes → n ≡ length lanes
    → lane ≡ get_or lanes (i % n) lane → next.results.items ≡ set lane.results.items (i / n) None
    → fields shape laps span (length (set lanes (i % n) next)) (dealt (lists_of (set lanes (i % n) next)) jobs) (ran_by (set lanes (i % n) next))
    ≡ fields t.shape t.laps t.span t.lanes (set t.results i None) t.ran
taken t shape laps span jobs i n lanes lane next view some size is left =
    let all = size_of lanes ∙ sym size in
    let k : i % n < length lanes = subst (λ (m : ℕ). i % n < m) size (mod-lt i (omega (arith, some, size))) in
    let lists : lists_of (set lanes (i % n) next) ≡ set (lists_of lanes) (i % n) next.results.items = map-set (λ (x : Lane). x.results.items) lanes (i % n) next in
    let here : get_or (lists_of lanes) (i % n) [] ≡ lane.results.items = list_at lanes (i % n) lane k ∙ ap (λ (x : Lane). x.results.items) (sym is) in
    let put : next.results.items ≡ set (get_or (lists_of lanes) (i % n) []) (i / n) None = left ∙ ap (λ (l : List (Option Made)). set l (i / n) None) (sym here) in
    let results : dealt (lists_of (set lanes (i % n) next)) jobs ≡ set (dealt (lists_of lanes) jobs) i None =
    ap (λ (l : List (List (Option Made))). dealt l jobs) (lists ∙ ap (λ (m : ℕ). set (lists_of lanes) (i % m) next.results.items) (sym all))
    ∙ dealt_set (lists_of lanes) jobs i next.results.items (omega (arith, some, size_of lanes))
    (put ∙ ap (λ (m : ℕ). set (get_or (lists_of lanes) (i % m) []) (i / m) None) (sym all)) in
    let counts = counts_stay lanes (i % n) lane next is (ap (λ (l : List (Option Made)). length l) left ∙ length-set lane.results.items (i / n) None) in
    ap (λ (m : ℕ). fields shape laps span m (dealt (lists_of (set lanes (i % n) next)) jobs) (ran_by (set lanes (i % n) next))) (length-set lanes (i % n) next)
    ∙ ap (λ (l : List (Option Made)). fields shape laps span (length lanes) l (ran_by (set lanes (i % n) next))) results
    ∙ ap (fields shape laps span (length lanes) (set (dealt (lists_of lanes) jobs) i None)) counts ∙ ap (λ (v : Lanes). fields v.shape v.laps v.span v.lanes (set v.results i None) v.ran) view
