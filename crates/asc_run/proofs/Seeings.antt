-- How many guesses are due at visits, one after another.
use Rattle.std.proofs.Common.{◌≡◌, ◌≤◌, ◌+◌, ◌-◌, ◌*◌, ℕ, zero, suc, Bool, true, false, List, [], ◌∷◌, length, Option, refl, sym, ap, ◌∙◌, subst, arith}
use Rattle.std.proofs.lemmas.Bool.{le-ltb, ne_eqb}
use Rattle.asc_find.specs.declared.guessing.Guessing.{Guessing}
use Rattle.asc_model.specs.State.{State}
use Rattle.asc_find.specs.Finder.{Aid, Jumps, Plan}
use Rattle.asc_find.specs.Serial.{kinds_of}
use Rattle.asc_run.specs.Visits.{Visit, jumps_of, with_landing}
use Rattle.asc_run.specs.Helped.{Helped, Lands}
use Rattle.asc_find.specs.Helper.{Plans, newly_guessed, guesses_at, seen, Sees}
use Rattle.asc_run.specs.Walk.{IsRaisedBy, jumps}
use Rattle.asc_run.specs.Guessed.{guesses_until, SeesAll}

-- from the third visit on one more visit is guessed at each
pub newly-later : (ahead n : ℕ) → 2 ≤ n → newly_guessed ahead (n + 1) ≡ 1
newly-later ahead n h = rw (le-ltb (n + 1) 2 (omega (arith, h)), ne_eqb (n + 1) 2 (λ e. omega (arith, h, e))) refl

until-above : (g : Guessing) (n : ℕ) → 2 ≤ n → guesses_until g n ≡ length (kinds_of g) * (g.ahead + n - 2)
until-above g n h = rw (le-ltb n 2 h) refl

one-more : (k a : ℕ) → k * (a + 1) ≡ k * a + k * 1
one-more k a = grind arith

-- one visit more
pub guesses_until-more : (g : Guessing) (n : ℕ) → guesses_until g (n + 1) ≡ guesses_until g n + guesses_at g (n + 1)
guesses_until-more g zero = omega arith
guesses_until-more g (suc zero) =
    let e : g.ahead + 2 - 2 ≡ g.ahead = omega arith in
    ap (λ m. length (kinds_of g) * m) e ∙ (let z : length (kinds_of g) * g.ahead ≡ 0 + length (kinds_of g) * g.ahead = omega arith in z)
guesses_until-more g (suc (suc m)) =
    let n : ℕ = suc (suc m) in
    let sum : g.ahead + (n + 1) - 2 ≡ (g.ahead + n - 2) + 1 = omega arith in
    until-above g (n + 1) (omega arith) ∙ ap (λ x. length (kinds_of g) * x) sum ∙ one-more (length (kinds_of g)) (g.ahead + n - 2)
    ∙ (λ i. sym (until-above g n (omega arith)) i + length (kinds_of g) * sym (newly-later g.ahead n (omega arith)) i)

-- no visit yet
pub SeesAll-none : (p : Plan) → SeesAll 0 p p
SeesAll-none p = λ g told same. (told, omega arith)

-- a walk that was not visited saw all
pub unvisited : (asked given hits : ℕ) (p : Plan) → jumps asked given hits ≡ jumps 0 0 0 → SeesAll asked p p
unvisited asked given hits p is = subst (λ (t : Jumps). SeesAll t.asked p p) (sym is) (SeesAll-none p)

one-visit : (before : ℕ) (old now new : Plan) → old.refused ≤ now.refused → now.refused ≤ new.refused → Sees (before + 1) now new → SeesAll before old now → SeesAll (before + 1) old new
one-visit before old now new earlier later sees all g told same =
    let was = all g told (omega (arith, same, earlier, later)) in
    let is = sees (seen before g) was.0 refl (omega (arith, same, earlier, later)) in
    let a = was.1 in let b = is.1 in let more = guesses_until-more g before in
    (is.0, omega (arith, a, b, more))

-- ---- visits are counted

jumps_of-asked : (visits : List Visit) (t : Jumps) → (jumps_of visits t).asked ≡ t.asked + length visits
jumps_of-asked [] t = omega arith
jumps_of-asked (v ∷ before) t = let e = jumps_of-asked before t in omega (arith, e)

-- a walk counts as many as there were
pub visits-asked : (visits : List Visit) (walk first last : Jumps) → last ≡ jumps_of visits first → IsRaisedBy walk first last → walk.asked ≡ length visits
visits-asked visits walk first last is raised =
    let all = jumps_of-asked visits first in
    omega (arith, all, ap (λ (t : Jumps). t.asked) is, ap (λ (t : Jumps). t.asked) raised)

-- a landing more
pub SeesAll-more : (is : Bool) (c : ℕ) (r : Option ℕ) (before number : ℕ) (s : State) (left : ℕ) (old : Plan) (now new : Aid) → Lands is before s left r now new → (is ≡ true → Sees (before + 1) now.plan new.plan)
    → Helped (with_landing is c r []) now new → number ≡ before + length (with_landing is c r []) → Plans before old now.plan → SeesAll before old now.plan → SeesAll number old new.plan
SeesAll-more true c r before number s left old now new lands sees helped is_number plans all =
    subst (λ n. SeesAll n old new.plan) (sym is_number) (one-visit before old now.plan new.plan plans.refused helped.plans.refused (sees refl) all)
SeesAll-more false c r before number s left old now new lands sees helped is_number plans all =
    let same : number ≡ before = omega (arith, is_number) in
    subst (λ n. SeesAll n old new.plan) (sym same) (subst (SeesAll before old) (sym lands.1) all)
