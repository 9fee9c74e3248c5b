-- How an address is met at one count more, and that its meetings are its visits.
use Rattle.std.proofs.Common.{◌≡◌, ℕ, zero, suc, ◌+◌, ◌-◌, ◌≤◌, ◌==◌, ◌||◌, Bool, true, false, if◌then◌else◌, List, [], ◌∷◌, ◌++◌, length, slice_index, refl, sym, ap, ◌∙◌, subst, arith, add-one, add-zero, zero-add, Some}
use Rattle.std.specs.List.{filter, list_any, range_with_len}
use Rattle.std.proofs.lemmas.Bool.Decides.{nat_tests}
use Rattle.std.proofs.lemmas.List.{append-nil, length_push, get_or-append-add}
use Rattle.std.proofs.lemmas.List.Elements.{filter-append}
use Rattle.std.proofs.lemmas.List.Folds.{list_any-append}
use Rattle.asc_run.specs.Visits.{Course, goes_on_at}
use Rattle.asc_inspect.specs.declared.meetings.Meetings.{Meetings}
use Rattle.asc_inspect.specs.Visited.{IsVisit, visits_before}
use Rattle.asc_inspect.specs.Profile.{AreItsVisits, MeetingsAreVisits, comes_back, counts_at, meetings, met_again, no_meetings}

-- one number more
range-more : (a n : ℕ) → range_with_len a (suc n) ≡ range_with_len a n ++ (a + n) ∷ []
range-more a zero = ap (λ x. x ∷ []) (sym (add-zero a))
range-more a (suc n) =
    let sum : (a + 1) + n ≡ a + suc n = omega arith in
    ap (λ l. a ∷ l) (range-more (a + 1) n) ∙ ap (λ x. a ∷ (range_with_len (a + 1) n ++ x ∷ [])) sum

-- a number, where it passes
abbrev only : (passes : Bool) → ℕ → List ℕ
only passes n = if passes then n ∷ [] else []

-- one count more
counts-more : (address : ℕ) (run : Course) (n : ℕ) → counts_at address run (n + 1) ≡ counts_at address run n ++ only (goes_on_at (Some address) (run n)) n
counts-more address run n =
    let p : ℕ → Bool = λ count. goes_on_at (Some address) (run count) in
    let more : range_with_len 0 (n + 1) ≡ range_with_len 0 n ++ n ∷ [] = ap (range_with_len 0) (add-one n) ∙ range-more 0 n ∙ ap (λ x. range_with_len 0 n ++ x ∷ []) (zero-add n) in
    ap (filter p) more ∙ filter-append p (range_with_len 0 n) (n ∷ [])

-- the meetings that these counts are
abbrev of_counts : Course → List ℕ → Meetings
of_counts run counts = record {
  times = length counts;
  first = slice_index counts 0;
  last = slice_index counts (length counts - 1);
  back = list_any (comes_back run) counts;
}

same_meetings : (a b : Meetings) → a.times ≡ b.times → a.first ≡ b.first → a.last ≡ b.last → a.back ≡ b.back → a ≡ b
same_meetings a b times first last back =
    ap (λ x. let m : Meetings = record { times = x; first = a.first; last = a.last; back = a.back } in m) times
    ∙ ap (λ x. let m : Meetings = record { times = b.times; first = x; last = a.last; back = a.back } in m) first
    ∙ ap (λ x. let m : Meetings = record { times = b.times; first = b.first; last = x; back = a.back } in m) last
    ∙ ap (λ x. let m : Meetings = record { times = b.times; first = b.first; last = b.last; back = x } in m) back

first-more : (counts : List ℕ) (n : ℕ) → slice_index (counts ++ n ∷ []) 0 ≡ (if length counts == 0 then n else slice_index counts 0)
first-more [] n = refl
first-more (x ∷ counts) n = grind (arith, nat_tests)

last-more : (counts : List ℕ) (n : ℕ) → slice_index (counts ++ n ∷ []) (length (counts ++ n ∷ []) - 1) ≡ n
last-more counts n =
    let long : length (counts ++ n ∷ []) - 1 ≡ length counts + 0 = omega (arith, length_push counts n) in
    ap (slice_index (counts ++ n ∷ [])) long ∙ get_or-append-add counts (n ∷ []) 0 0

or-false : (b : Bool) → (b || false) ≡ b
or-false true = refl
or-false false = refl

meetings-push : (run : Course) (counts : List ℕ) (n : ℕ) → of_counts run (counts ++ n ∷ []) ≡ met_again n (comes_back run n) (of_counts run counts)
meetings-push run counts n = same_meetings _ _ (length_push counts n) (first-more counts n) (last-more counts n)
    (list_any-append (comes_back run) counts (n ∷ []) ∙ ap (λ b. list_any (comes_back run) counts || b) (or-false (comes_back run n)))

of_counts-more : (passes : Bool) (run : Course) (counts : List ℕ) (n : ℕ)
    → of_counts run (counts ++ only passes n) ≡ (if passes then met_again n (comes_back run n) (of_counts run counts) else of_counts run counts)
of_counts-more true run counts n = meetings-push run counts n
of_counts-more false run counts n = ap (of_counts run) (append-nil counts)

-- the meetings of an address, one count more
pub meetings-more : (address : ℕ) (run : Course) (n : ℕ) → meetings address run (n + 1)
    ≡ (if goes_on_at (Some address) (run n) then met_again n (comes_back run n) (meetings address run n) else meetings address run n)
unfolding meetings
meetings-more address run n =
    ap (of_counts run) (counts-more address run n) ∙ of_counts-more (goes_on_at (Some address) (run n)) run (counts_at address run n) n

pub meetings-none : (address : ℕ) (run : Course) → meetings address run 0 ≡ no_meetings
unfolding meetings
meetings-none address run = refl

-- further counts at which the run is not there
pub meetings-off : (address : ℕ) (run : Course) (n m : ℕ) → ((k : ℕ) → n ≤ k → goes_on_at (Some address) (run k) ≡ false) → meetings address run (n + m) ≡ meetings address run n
meetings-off address run n zero off = let same : n + 0 ≡ n = omega arith in ap (meetings address run) same
meetings-off address run n (suc m) off =
    let sum : n + suc m ≡ (n + m) + 1 = omega arith in
    ap (meetings address run) sum ∙ meetings-more address run (n + m)
    ∙ ap (λ b. if b then met_again (n + m) (comes_back run (n + m)) (meetings address run (n + m)) else meetings address run (n + m)) (off (n + m) (omega arith))
    ∙ meetings-off address run n m off

-- ---- they are its visits

visits-more : (address : ℕ) (run : Course) (n : ℕ)
    → visits_before address run (n + 1) ≡ visits_before address run n + (if goes_on_at (Some address) (run n) then 1 else 0)
unfolding visits_before
visits-more address run n = ap (visits_before address run) (add-one n)

first-visit : (address : ℕ) (run : Course) (n : ℕ) (none : Bool) (m : Meetings) → (m.times == 0) ≡ none → goes_on_at (Some address) (run n) ≡ true → AreItsVisits address run n m
    → IsVisit address 1 run (if none then n else m.first)
first-visit address run n true m none stands are =
    let no : m.times ≡ 0 = grind (arith, nat_tests) in record { stands = stands; times = omega (arith, no, are.times) }
first-visit address run n false m some stands are = are.first (grind (arith, nat_tests))

visits-met : (address : ℕ) (run : Course) (n : ℕ) (there : Bool) (m : Meetings) → goes_on_at (Some address) (run n) ≡ there → AreItsVisits address run n m
    → AreItsVisits address run (n + 1) (if there then met_again n (comes_back run n) m else m)
visits-met address run n true m there are = record {
  times = omega (arith, are.times, visits-more address run n ∙ ap (λ b. visits_before address run n + (if b then 1 else 0)) there);
  first = λ _. first-visit address run n (m.times == 0) m refl there are;
  last = λ _. record { stands = there; times = omega (arith, are.times) };
}
visits-met address run n false m there are = record {
  times = omega (arith, are.times, visits-more address run n ∙ ap (λ b. visits_before address run n + (if b then 1 else 0)) there);
  first = are.first;
  last = are.last;
}

pub meetings_are_visits : MeetingsAreVisits
unfolding visits_before
meetings_are_visits address run zero = subst (AreItsVisits address run 0) (sym (meetings-none address run))
    (record { times = refl; first = λ some. absurd (omega arith); last = λ some. absurd (omega arith) })
meetings_are_visits address run (suc n) =
    subst (λ k. AreItsVisits address run k (meetings address run k)) (add-one n)
    (subst (AreItsVisits address run (n + 1)) (sym (meetings-more address run n))
    (visits-met address run n (goes_on_at (Some address) (run n)) (meetings address run n) refl (meetings_are_visits address run n)))
