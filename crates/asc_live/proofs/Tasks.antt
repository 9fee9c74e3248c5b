-- How many jobs a visit makes: the targets, each once for each kind.
use Rattle.std.proofs.Common.{◌≡◌, ◌≤◌, ◌+◌, ◌-◌, ◌*◌, ℕ, zero, suc, Bool, true, false, [], ◌∷◌, ◌++◌, length, map, ap, ◌∙◌, arith, if◌then◌else◌}
use Rattle.std.specs.Prelude.{max, nat_lt}
use Rattle.std.specs.List.{flat_map, range_with_len}
use Rattle.std.proofs.lemmas.List.{length-append, length-map}
use Rattle.asc_model.specs.State.{State}
use Rattle.asc_guess.specs.declared.kind.Kind.{Kind}
use Rattle.asc_guess.specs.declared.kind.Kind.TheVariants.{Last, Stride}
use Rattle.asc_guess.specs.Guess.{Task}
use Rattle.asc_find.specs.declared.guessing.Guessing.{Guessing}
use Rattle.asc_find.specs.Serial.{kinds_of, tasks_of}
use Rattle.asc_run.specs.SerialInside.{tasks_for}
use Rattle.asc_live.specs.Due.{Due, jobs_of}

pub range-more : (a n j : ℕ) → a + n ≡ j → range_with_len a (n + 1) ≡ range_with_len a n ++ j ∷ []
range-more a zero j e = ap (λ x. x ∷ []) (let f : a ≡ j = omega (arith, e) in f)
range-more a (suc n) j e = ap (range_with_len a) (let s : suc n + 1 ≡ suc (n + 1) = omega arith in s) ∙ ap (λ xs. a ∷ xs) (range-more (a + 1) n j (omega (arith, e)))

abbrev task_at : (target number : ℕ) → Kind → Task
task_at target number kind = (kind, target - number)

abbrev job_of : (prev last : State) → Task → Due
job_of prev last task = record { prev = prev; last = last; ahead = task.1; kind = task.0 }

-- at most two kinds
kinds-by : (a b : Bool) → length ((if a then Last ∷ [] else []) ++ (if b then Stride ∷ [] else [])) ≤ 2
kinds-by true true = omega arith
kinds-by true false = omega arith
kinds-by false true = omega arith
kinds-by false false = omega arith

pub kinds-few : (g : Guessing) → length (kinds_of g) ≤ 2
kinds-few g = kinds-by g.last g.stride

pub twice : (k n : ℕ) → k ≤ 2 → k * n ≤ 2 * n
twice zero n h = omega arith
twice (suc zero) n h = omega arith
twice (suc (suc zero)) n h = omega arith
twice (suc (suc (suc k))) n h = absurd (let x : ⊥ = omega (arith, h) in x)

times-more : (k n : ℕ) → k + k * n ≡ k * suc n
times-more k n = grind arith

tasks-length : (g : Guessing) (number start n : ℕ) → length (tasks_for g number start n) ≡ length (kinds_of g) * n
tasks-length g number start zero = omega arith
tasks-length g number start (suc n) =
    let f = task_at start number in
    length-append (map f (kinds_of g)) (tasks_for g number (start + 1) n)
    ∙ ap (λ m. m + length (tasks_for g number (start + 1) n)) (length-map (kinds_of g) f)
    ∙ ap (λ m. length (kinds_of g) + m) (tasks-length g number (start + 1) n)
    ∙ times-more (length (kinds_of g)) n

-- how many jobs these targets make
pub jobs-length : (prev last : State) (g : Guessing) (number start n : ℕ) → length (jobs_of prev last (tasks_for g number start n)) ≡ length (kinds_of g) * n
jobs-length prev last g number start n = length-map (tasks_for g number start n) (job_of prev last) ∙ tasks-length g number start n

visit-by : (none : Bool) (prev last : State) (g : Guessing) (number start n : ℕ)
    → length (jobs_of prev last (flat_map (λ target. map (λ (kind : Kind). (kind, target - number)) (kinds_of g)) (if none then [] else range_with_len start n))) ≡ length (kinds_of g) * (if none then 0 else n)
visit-by true prev last g number start n = omega arith
visit-by false prev last g number start n = jobs-length prev last g number start n

-- how many jobs a visit makes
pub visit-length : (prev last : State) (g : Guessing) (issued number : ℕ)
    → length (jobs_of prev last (tasks_of g issued number)) ≡ length (kinds_of g) * (if nat_lt number 2 then 0 else number + g.ahead - max issued number)
visit-length prev last g issued number = visit-by (nat_lt number 2) prev last g number (max issued number + 1) (number + g.ahead - max issued number)
