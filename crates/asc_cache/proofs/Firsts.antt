-- Readers of which one after another is asked.
use Rattle.std.proofs.Common.{◌≡◌, ℕ, zero, suc, ◌<◌, Bool, true, false, List, [], ◌∷◌, length, fold, get_or, set, Option, Some, None, refl, ap, sym, ◌∙◌, subst, arith, IfNone, IfSome}
use Rattle.std.specs.Prelude.{All, nat_le, if◌then◌else◌}
use Rattle.std.proofs.lemmas.Bool.{lt-leb}
use Rattle.std.proofs.lemmas.List.Elements.{All-head, All-tail}
use Rattle.std.specs.Option.{option_or}
use Rattle.asc_model.specs.State.{State}
use Rattle.asc_model.specs.Entry.{Entry, IsTrueEntry}
use Rattle.asc_traj.specs.Content.{longest, longer_of, matches}
use Rattle.asc_cache.specs.Cache.{ShardReader, IsLater, found_by, first_found}
use Rattle.asc_cache.proofs.Fronts.{prefix_self}
use Rattle.asc_cache.proofs.Rows.{pick, any_default}

pub no-first : (s : State) (left : ℕ) (xs : List ShardReader) → ((k : ℕ) (d : ShardReader) → k < length xs → found_by s left (get_or xs k d) ≡ None) → first_found s left xs ≡ None
no-first s left [] h = refl
no-first s left (x ∷ xs) h =
    ap (λ o. option_or o (first_found s left xs)) (h 0 x (omega arith)) ∙ no-first s left xs (λ k d small. h (suc k) d (omega arith))

pub one-first : (s : State) (left n : ℕ) (xs : List ShardReader) (i : ℕ) → i < length xs → ((d : ShardReader) → found_by s left (get_or xs i d) ≡ Some n)
    → ((k : ℕ) (d : ShardReader) → k < i → found_by s left (get_or xs k d) ≡ None) → first_found s left xs ≡ Some n
one-first s left n [] i room here before = absurd (let x : ⊥ = omega arith in x)
one-first s left n (x ∷ xs) zero room here before = ap (λ o. option_or o (first_found s left xs)) (here x)
one-first s left n (x ∷ xs) (suc i) room here before =
    ap (λ o. option_or o (first_found s left xs)) (before 0 x (omega arith)) ∙ one-first s left n xs i (omega arith) here (λ k d small. before (suc k) d (omega arith))

pub is-first : (s : State) (left : ℕ) (m : ℕ) (xs : List ShardReader) (r : Option ℕ) → length xs ≡ m
    → IfNone r ((k : ℕ) (d : ShardReader) → k < m → found_by s left (get_or xs k d) ≡ None)
    → IfSome r (λ n. (i : ℕ) × (i < m) × ((d : ShardReader) → found_by s left (get_or xs i d) ≡ Some n)
    × ((k : ℕ) (d : ShardReader) → k < i → found_by s left (get_or xs k d) ≡ None))
    → r ≡ first_found s left xs
is-first s left m xs None same none some = sym (no-first s left xs (λ k d small. none k d (omega (arith, same))))
is-first s left m xs (Some n) same none some = sym (one-first s left n xs some.0 (omega (arith, same, some.1)) some.2 some.3)

pub unchanged : (x y : ShardReader) → x ≡ y → IsLater x y
unchanged x y e = subst (IsLater x) e (record { shard = refl; capacity = refl; seen = prefix_self x.seen })

-- ---- within no steps

too-long : (fits le : Bool) (n : ℕ) → le ≡ false → (if fits then (if le then Some n else None) else None) ≡ None
too-long true true n e = absurd (cc)
too-long true false n e = refl
too-long false le n e = refl

-- no entry has 0 steps
pub none-within : (held : List Entry) (s : State) → All IsTrueEntry held → longest held s 0 ≡ None
none-within [] s are = refl
none-within (e ∷ held) s are =
    let some = (All-head IsTrueEntry e held are).entry.steps in
    ap (λ best. fold (λ (best : Option ℕ) (e : Entry). if matches s e then longer_of 0 best e.steps else best) best held)
    (too-long (matches s e) (nat_le e.steps 0) e.steps (lt-leb e.steps 0 (omega (arith, some))))
    ∙ none-within held s (All-tail IsTrueEntry e held are)

-- ---- one after another

-- one of them is a later one
pub one-later : (xs : List ShardReader) (i : ℕ) (e y : ShardReader) → i < length xs → IsLater (get_or xs i e) y → (k : ℕ) (d : ShardReader) → IsLater (get_or xs k d) (get_or (set xs i y) k d)
one-later xs i e y room later k d =
    pick xs i k y d (IsLater (get_or xs k d)) room
    (λ same. subst (λ r. IsLater r y) (sym (ap (λ n. get_or xs n d) same ∙ any_default xs i d e room)) later)
    (λ n. unchanged (get_or xs k d) (get_or xs k d) refl)
