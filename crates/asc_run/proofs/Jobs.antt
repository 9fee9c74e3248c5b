-- The jobs of a visit: the targets, each once for each kind.
use Rattle.std.proofs.Common.{zero, suc, inl, inr, append-nil, ◌≡◌, ◌<◌, ◌≤◌, ◌+◌, ◌-◌, ℕ, Bool, true, false, List, [], ◌∷◌, ◌++◌, length, get_or, map, refl, sym, ap, ◌∙◌, arith, append_assoc, if◌then◌else◌}
use Rattle.std.specs.Prelude.{max, nat_lt}
use Rattle.std.specs.List.{flat_map, range_with_len}
use Rattle.std.proofs.lemmas.Bool.{cases_lt}
use Rattle.std.proofs.lemmas.List.{flat_map_more}
use Rattle.std.proofs.lemmas.List.FromFn.{length-range_with_len, get_or-range_with_len}
use Rattle.asc_guess.specs.declared.kind.Kind.{Kind}
use Rattle.asc_guess.specs.declared.kind.Kind.TheVariants.{Last, Stride}
use Rattle.asc_guess.specs.Guess.{targets_of, Task}
use Rattle.asc_find.specs.declared.guessing.Guessing.{Guessing}
use Rattle.asc_find.specs.Serial.{kinds_of}
use Rattle.asc_run.specs.SerialInside.{tasks_for}

range-same : (a b n m : ℕ) → 0 < n → range_with_len a n ≡ range_with_len b m → (a ≡ b) × (n ≡ m)
range-same a b n m some e =
    let l : n ≡ m = sym (length-range_with_len a n) ∙ ap length e ∙ length-range_with_len b m in
    let h : a + 0 ≡ b + 0 = sym (get_or-range_with_len a n 0 0 some) ∙ ap (λ xs. get_or xs 0 0) e ∙ get_or-range_with_len b m 0 0 (omega arith) in
    (omega arith, l)

targets-by : (none : Bool) (a b n m : ℕ) → 0 < n → range_with_len a n ≡ (if none then [] else range_with_len b m) → (a ≡ b) × (n ≡ m)
targets-by true a b n m some e = let l : n ≡ 0 = sym (length-range_with_len a n) ∙ ap length e in absurd (let x : ⊥ = omega arith in x)
targets-by false a b n m some e = range-same a b n m some e

-- where there are targets, these are they
pub targets-are : (issued number ahead start n : ℕ) → range_with_len start n ≡ targets_of issued number ahead → 0 < n → (start ≡ max issued number + 1) × (n ≡ number + ahead - max issued number)
targets-are issued number ahead start n e some = targets-by (nat_lt number 2) start (max issued number + 1) n (number + ahead - max issued number) some e

-- there are at most as many as visits ahead
pub due-few : (issued number ahead start end : ℕ) → range_with_len start (end - start) ≡ targets_of issued number ahead → end - start ≤ ahead
due-few issued number ahead start end e = elim (cases_lt 0 (end - start)) [
  | inl h ↦ let t = targets-are issued number ahead start (end - start) e h in omega (arith, t.1)
  | inr h ↦ omega arith
]

-- and none is further ahead
pub due-near : (issued number ahead start end : ℕ) → range_with_len start (end - start) ≡ targets_of issued number ahead → start < end → (number ≤ start) × (end ≤ number + ahead + 1)
due-near issued number ahead start end e h =
    let some : 0 < end - start = omega arith in
    let t = targets-are issued number ahead start (end - start) e some in
    (omega (arith, t.0), omega (arith, t.0, t.1))

range-suc : (a n j : ℕ) → a + n ≡ j → range_with_len a (suc n) ≡ range_with_len a n ++ j ∷ []
range-suc a zero j e = let h : a ≡ j = omega arith in ap (λ x. x ∷ []) h
range-suc a (suc n) j e = ap (λ xs. a ∷ xs) (range-suc (a + 1) n j (omega arith))

range-more : (a n m j : ℕ) → m ≡ suc n → a + n ≡ j → range_with_len a m ≡ range_with_len a n ++ j ∷ []
range-more a n m j f e = ap (range_with_len a) f ∙ range-suc a n j e

-- one target more
tasks-more : (g : Guessing) (number start n m target : ℕ) → m ≡ suc n → start + n ≡ target → tasks_for g number start m ≡ tasks_for g number start n ++ map (λ kind. (kind, target - number)) (kinds_of g)
tasks-more g number start n m target h e =
    let f = λ (target : ℕ). map (λ (kind : Kind). let task : Task = (kind, target - number) in task) (kinds_of g) in
    ap (flat_map f) (range-more start n m target h e) ∙ sym (flat_map_more f [] (range_with_len start n) target)

-- a task where it is on
abbrev pub one_if : Bool → Task → List Task
one_if on task = if on then task ∷ [] else []

kinds-map : (last stride : Bool) (ahead : ℕ) → map (λ kind. (kind, ahead)) ((if last then Last ∷ [] else []) ++ (if stride then Stride ∷ [] else [])) ≡ one_if last (Last, ahead) ++ one_if stride (Stride, ahead)
kinds-map true true ahead = refl
kinds-map true false ahead = refl
kinds-map false true ahead = refl
kinds-map false false ahead = refl

pub pushed-on : (on : Bool) (xs ys : List Task) (x : Task) → on ≡ true → ys ≡ xs ++ x ∷ [] → ys ≡ xs ++ one_if on x
pushed-on on xs ys x e h = h ∙ ap (λ b. xs ++ one_if b x) (sym e)

pub pushed-off : (on : Bool) (xs ys : List Task) (x : Task) → on ≡ false → ys ≡ xs → ys ≡ xs ++ one_if on x
pushed-off on xs ys x e h = h ∙ sym (append-nil xs) ∙ ap (λ b. xs ++ one_if b x) (sym e)

-- the tasks of one target more
pub jobs-more : (g : Guessing) (number start target : ℕ) (xs ys zs : List Task) → start ≤ target → xs ≡ tasks_for g number start (target - start) → ys ≡ xs ++ one_if g.last (Last, target - number) → zs ≡ ys ++ one_if g.stride (Stride, target - number)
    → zs ≡ tasks_for g number start (target + 1 - start)
jobs-more g number start target xs ys zs l p q r =
    let m = tasks-more g number start (target - start) (target + 1 - start) target (omega arith) (omega arith) in
    let k = kinds-map g.last g.stride (target - number) in
    r ∙ ap (λ z. z ++ one_if g.stride (Stride, target - number)) (q ∙ ap (λ z. z ++ one_if g.last (Last, target - number)) p)
    ∙ append_assoc (tasks_for g number start (target - start)) (one_if g.last (Last, target - number)) (one_if g.stride (Stride, target - number))
    ∙ ap (λ z. tasks_for g number start (target - start) ++ z) (sym k) ∙ sym m
