-- The candidate that is found in a table.
use Rattle.std.proofs.Common.{◌≡◌, ℕ, zero, suc, ◌+◌, ◌^◌, ◌<◌, Bool, true, false, ◌&&◌, List, [], ◌∷◌, filter, fold, Option, Some, None, if◌then◌else◌, refl, sym, ◌∙◌, subst, arith}
use Rattle.asc_seek.specs.declared.heads.Head.{Head}
use Rattle.asc_seek.specs.declared.seeker.Seeking.{Seeking}
use Rattle.asc_seek.specs.Heads.{AreEarlier, comes_before}
use Rattle.asc_seek.specs.Inside.{MayFollow, first_candidate}
use Rattle.asc_seek.specs.Seek.{Seek, candidate_behind, first_with, heads_in, is_behind, is_candidate}

-- it may be tried, and was met before a count
pub record IsFound (s : Seeking) (count : ℕ) (h : Head) : Type 0 where
  pub candidate : is_candidate s h ≡ true
  pub early : h.last < count

abbrev pub AllFound : (s : Seeking) (count : ℕ) → Option Head → Type 0
AllFound s count found = (h : Head) → found ≡ Some h → IsFound s count h

some_same : {g h : Head} → Some g ≡ Some h → g ≡ h
some_same is = cc

either : (s : Seeking) (count : ℕ) (b : Bool) (g h : Head) → IsFound s count g → IsFound s count h
    → IsFound s count (if b then g else h)
either s count true g h a b = a
either s count false g h a b = b

with_found : (s : Seeking) (count : ℕ) (so_far : Option Head) (h : Head) → AllFound s count so_far → IsFound s count h
    → IsFound s count (first_with so_far h)
with_found s count None h all f = f
with_found s count (Some other) h all f = either s count (comes_before h other) h other f (all other refl)

-- where a head may be tried and comes behind, the first of it and of another is found
taken : (s : Seeking) (count : ℕ) (a b : Bool) (g h : Head) (so_far : Option Head) → AllFound s count so_far
    → (a ≡ true → IsFound s count g) → (if a && b then Some g else so_far) ≡ Some h → IsFound s count h
taken s count true true g h so_far all f is = subst (IsFound s count) (some_same is) (f refl)
taken s count true false g h so_far all f is = all h is
taken s count false b g h so_far all f is = all h is

first_found : (s : Seeking) (tried so_far : Option Head) (count : ℕ) (h : Head) → AllFound s count so_far → h.last < count
    → AllFound s count (first_candidate s tried so_far (Some h))
first_found s tried so_far count h all early g is =
    taken s count (is_candidate s h) (is_behind tried h) (first_with so_far h) g so_far all
    (λ may. with_found s count so_far h all (record { candidate = may; early = early })) is

fold_found : (s : Seeking) (tried so_far : Option Head) (count : ℕ) (table : List (Option Head)) → AllFound s count so_far
    → AreEarlier count table → AllFound s count (fold (first_candidate s tried) so_far table)
fold_found s tried so_far count [] all early = all
fold_found s tried so_far count (None ∷ rest) all early = fold_found s tried so_far count rest all (λ k. early (suc k))
fold_found s tried so_far count (Some h ∷ rest) all early =
    fold_found s tried (first_candidate s tried so_far (Some h)) count rest
    (first_found s tried so_far count h all (early zero h refl)) (λ k. early (suc k))

-- the first of the candidates is found slot by slot
module _ (s : Seeking) (tried : Option Head) where
  abbrev may : Head → Bool
  may h = is_candidate s h && is_behind tried h

  abbrev taking : Option Head → Head → Option Head
  taking first h = Some (first_with first h)

  one_more : (b : Bool) (first : Option Head) (h : Head) (rest : List Head)
      → fold taking first (if b then h ∷ filter may rest else filter may rest) ≡ fold taking (if b then taking first h else first) (filter may rest)
  one_more true first h rest = refl
  one_more false first h rest = refl

  by_slots : (first : Option Head) (table : List (Option Head))
      → fold taking first (filter may (heads_in table)) ≡ fold (first_candidate s tried) first table
  by_slots first [] = refl
  by_slots first (None ∷ rest) = by_slots first rest
  by_slots first (Some h ∷ rest) =
      one_more (may h) first h (heads_in rest) ∙ by_slots (first_candidate s tried first (Some h)) rest

pub candidate_behind-is : (s : Seeking) (tried : Option Head) (table : List (Option Head))
    → candidate_behind s tried table ≡ fold (first_candidate s tried) None table
candidate_behind-is s tried table = by_slots s tried None table

found : (s : Seeking) (tried : Option Head) (count : ℕ) (table : List (Option Head)) (h : Head) → AreEarlier count table
    → candidate_behind s tried table ≡ Some h → IsFound s count h
found s tried count table h early is =
    fold_found s tried None count table (λ g e. absurd (cc)) early h (sym (candidate_behind-is s tried table) ∙ is)

pub MayFollow-candidate_behind : (m : Seek) (tried next : Option Head) → AreEarlier (2 ^ 41 + 1) m.table
    → next ≡ candidate_behind m.seeking tried m.table → MayFollow m next
MayFollow-candidate_behind m tried None early is = tt
MayFollow-candidate_behind m tried (Some h) early is =
    let h = found m.seeking tried (2 ^ 41 + 1) m.table h early (sym is) in (h.candidate, omega (arith, h.early))
