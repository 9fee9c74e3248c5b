-- Lists of jobs that rise by ticket, and lists of views.
use Rattle.std.proofs.Common.{◌≡◌, ◌≢◌, ℕ, Bool, zero, suc, ◌+◌, ◌<◌, ◌≤◌, true, false, true≢false, [], ◌∷◌, ◌++◌, List, length, filter, cond, set, eqb, ◌||◌, sym, refl, ap, ◌∙◌, ⊎_elim, arith, eq-eqb, ne_eqb}
use lib.Dec.{ltb}
use mathlib.Core.Option.{some, some-ne-none, some-injective}
use lib.ListN.{get_elem?}
use Rattle.std.proofs.lemmas.Bool.{lt-ltb, le-ltb, cases_eq}
use Rattle.asc_jobs.specs.declared.job.Job.{Job}
use Rattle.asc_jobs.specs.declared.hand.Hand.{Hand}
use Rattle.asc_jobs.specs.Hands.{insert_job, merge_jobs}
use Rattle.asc_jobs.specs.JobRule.{all_parts, CountUp, taken_by, AreOwned}

abbrev pub Each : (Job → Type 0) → List Job → Type 0
Each P [] = Unit {0}
Each P (x ∷ xs) = P x × Each P xs

pub each : (P Q : Job → Type 0) → ((x : Job) → P x → Q x) → (xs : List Job) → Each P xs → Each Q xs
each P Q f [] h = tt
each P Q f (x ∷ xs) h = (f x h.0, each P Q f xs h.1)

pub agree : (p q : Job → Bool) (xs : List Job) → Each (λ x. p x ≡ q x) xs → filter p xs ≡ filter q xs
agree p q [] h = refl
agree p q (x ∷ xs) h = rw (h.0, agree p q xs h.1) refl

-- the tickets of a list that counts up from n
pub numbered_range : (n : ℕ) (xs : List Job) → CountUp n xs → Each (λ x. (n ≤ x.ticket) × (x.ticket < n + length xs)) xs
numbered_range n [] h = tt
numbered_range n (x ∷ xs) h = (
  (omega (arith, h.0), omega (arith, h.0)),
  each (λ y. (n + 1 ≤ y.ticket) × (y.ticket < n + 1 + length xs)) (λ y. (n ≤ y.ticket) × (y.ticket < n + length (x ∷ xs))) (λ y k. (omega (arith, k.0), omega (arith, k.1))) xs (numbered_range (n + 1) xs h.1),
)

pub numbered_front : (n : ℕ) (xs ys : List Job) → CountUp n (xs ++ ys) → CountUp n xs
numbered_front n [] ys h = tt
numbered_front n (x ∷ xs) ys h = (h.0, numbered_front (n + 1) xs ys h.1)

pub numbered_next : (n : ℕ) (xs : List Job) (y : Job) (ys : List Job) → CountUp n (xs ++ y ∷ ys) → y.ticket ≡ n + length xs
numbered_next n [] y ys h = omega (arith, h.0)
numbered_next n (x ∷ xs) y ys h = omega (arith, numbered_next (n + 1) xs y ys h.1)

pub numbered_more : (n : ℕ) (xs : List Job) (y : Job) → CountUp n xs → y.ticket ≡ n + length xs → CountUp n (xs ++ y ∷ [])
numbered_more n [] y h e = (omega (arith, e), tt)
numbered_more n (x ∷ xs) y h e = (h.0, numbered_more (n + 1) xs y h.1 (omega (arith, e)))

-- a job before all others comes first
first_at : (x y : Job) (us : List Job) (b : Bool) → x.ticket < y.ticket → insert_job x us ≡ x ∷ us → insert_job x (cond b (y ∷ us) us) ≡ x ∷ cond b (y ∷ us) us
first_at x y us true h ih = rw (lt-ltb x.ticket y.ticket h) refl
first_at x y us false h ih = ih

insert_first : (x : Job) (p : Job → Bool) (xs : List Job) → Each (λ y. x.ticket < y.ticket) xs → insert_job x (filter p xs) ≡ x ∷ filter p xs
insert_first x p [] h = refl
insert_first x p (y ∷ ys) h = first_at x y (filter p ys) (p y) h.0 (insert_first x p ys h.1)

-- what comes later stays behind the first
merge_behind : (x : Job) (xs ys : List Job) → Each (λ y. x.ticket < y.ticket) ys → merge_jobs (x ∷ xs) ys ≡ x ∷ merge_jobs xs ys
merge_behind x xs [] h = refl
merge_behind x xs (y ∷ ys) h = let later : x.ticket ≤ y.ticket = omega (arith, h.0) in rw (merge_behind x xs ys h.1, le-ltb y.ticket x.ticket later) refl

each_cond : (P : Job → Type 0) (b : Bool) (x : Job) (us : List Job) → P x → Each P us → Each P (cond b (x ∷ us) us)
each_cond P true x us h k = (h, k)
each_cond P false x us h k = k

each_filter : (P : Job → Type 0) (p : Job → Bool) (xs : List Job) → Each P xs → Each P (filter p xs)
each_filter P p [] h = tt
each_filter P p (x ∷ xs) h = each_cond P (p x) x (filter p xs) h.0 (each_filter P p xs h.1)

merged_at : (x : Job) (us vs ws : List Job) (a b : Bool) → (a ≡ true → b ≡ false) → Each (λ y. x.ticket < y.ticket) vs → insert_job x ws ≡ x ∷ ws → merge_jobs us vs ≡ ws
    → merge_jobs (cond a (x ∷ us) us) (cond b (x ∷ vs) vs) ≡ cond (a || b) (x ∷ ws) ws
merged_at x us vs ws true true isnt later first ih = absurd (true≢false (isnt refl))
merged_at x us vs ws true false isnt later first ih = merge_behind x us vs later ∙ ap (λ l. x ∷ l) ih
merged_at x us vs ws false true isnt later first ih = ap (insert_job x) ih ∙ first
merged_at x us vs ws false false isnt later first ih = ih

-- two parts of a list that counts up, merged, are the part of both
pub merged : (n : ℕ) (p q r : Job → Bool) (xs : List Job) → CountUp n xs → Each (λ x. (p x ≡ true → q x ≡ false) × (r x ≡ (p x || q x))) xs → merge_jobs (filter p xs) (filter q xs) ≡ filter r xs
merged n p q r [] h e = refl
merged n p q r (x ∷ xs) h e =
    let later = each (λ y. (n + 1 ≤ y.ticket) × (y.ticket < n + 1 + length xs)) (λ y. x.ticket < y.ticket) (λ y k. omega (arith, k.0, h.0)) xs (numbered_range (n + 1) xs h.1) in
    merged_at x (filter p xs) (filter q xs) (filter r xs) (p x) (q x) e.0.0 (each_filter (λ y. x.ticket < y.ticket) q xs later) (insert_first x r xs later) (merged (n + 1) p q r xs h.1 e.1)
    ∙ ap (λ b. cond b (x ∷ filter r xs) (filter r xs)) (sym e.0.1)

pub parts_set : (views : List Hand) (pass : ℕ) (v w : Hand) → get_elem? views pass ≡ some v → all_parts (set views pass w) + v.parts ≡ all_parts views + w.parts
parts_set [] pass v w at = absurd (some-ne-none v (sym at))
parts_set (x ∷ xs) zero v w at = let e = ap (λ (y : Hand). y.parts) (some-injective x v at) in omega (arith, e)
parts_set (x ∷ xs) (suc pass) v w at = omega (arith, parts_set xs pass v w at)

pub parts_more : (views : List Hand) (w : Hand) → all_parts (views ++ w ∷ []) ≡ all_parts views + w.parts
parts_more [] w = omega arith
parts_more (x ∷ xs) w = omega (arith, parts_more xs w)

parts_of : (views : List Hand) (pass : ℕ) (v : Hand) → get_elem? views pass ≡ some v → v.parts ≤ all_parts views
parts_of [] pass v at = absurd (some-ne-none v (sym at))
parts_of (x ∷ xs) zero v at = let e = ap (λ (y : Hand). y.parts) (some-injective x v at) in omega (arith, e)
parts_of (x ∷ xs) (suc pass) v at = omega (arith, parts_of xs pass v at)

-- where one view has all parts, the others have none
pub alone : (views : List Hand) (pass : ℕ) (v : Hand) → get_elem? views pass ≡ some v → all_parts views ≡ v.parts → (j : ℕ) (u : Hand) → j ≢ pass → get_elem? views j ≡ some u → u.parts ≡ 0
alone [] pass v at e j u other there = absurd (some-ne-none v (sym at))
alone (x ∷ xs) zero v at e zero u other there = absurd (other refl)
alone (x ∷ xs) zero v at e (suc j) u other there = let k = ap (λ (y : Hand). y.parts) (some-injective x v at) in omega (arith, k, e, parts_of xs j u there)
alone (x ∷ xs) (suc pass) v at e zero u other there = let k = ap (λ (y : Hand). y.parts) (some-injective x u there) in omega (arith, k, e, parts_of xs pass v at)
alone (x ∷ xs) (suc pass) v at e (suc j) u other there = let k = parts_of xs pass v at in alone xs pass v at (omega (arith, k, e)) j u (λ s. other (ap suc s)) there

pub within : (views : List Hand) (pass : ℕ) (v : Hand) → get_elem? views pass ≡ some v → pass < length views
within [] pass v at = absurd (some-ne-none v (sym at))
within (x ∷ xs) zero v at = omega arith
within (x ∷ xs) (suc pass) v at = omega (arith, within xs pass v at)

pub view_at : (views : List Hand) (pass : ℕ) → pass < length views → (v : Hand) × (get_elem? views pass ≡ some v)
view_at [] pass h = absurd (omega arith)
view_at (x ∷ xs) zero h = (x, refl)
view_at (x ∷ xs) (suc pass) h = view_at xs pass (omega arith)

pub owned_by : (n m : ℕ) (f g : ℕ → ℕ) (xs : List Job) → AreOwned n f xs → Each (λ x. f x.ticket < n → g x.ticket < m) xs → AreOwned m g xs
owned_by n m f g [] h e = tt
owned_by n m f g (x ∷ xs) h e = (e.0 h.0, owned_by n m f g xs h.1 e.1)

pub owned_more : (n : ℕ) (f : ℕ → ℕ) (xs : List Job) (x : Job) → AreOwned n f xs → f x.ticket < n → AreOwned n f (xs ++ x ∷ [])
owned_more n f [] x h k = (k, tt)
owned_more n f (y ∷ ys) x h k = (h.0, owned_more n f ys x h.1 k)

-- where no other pass has taken anything, one has taken all
not_mine : (owner : ℕ → ℕ) (pass j : ℕ) (x : Job) (xs : List Job) → owner x.ticket ≡ pass → j ≢ pass → taken_by owner j (x ∷ xs) ≡ [] → taken_by owner j xs ≡ []
not_mine owner pass j x xs is other e =
    let isnt : eqb (owner x.ticket) j ≡ false = ne_eqb (owner x.ticket) j (λ s. other (sym s ∙ is)) in
    ap (λ (b : Bool). cond b (x ∷ taken_by owner j xs) (taken_by owner j xs)) (sym isnt) ∙ e

no_cons : (x : Job) (xs : List Job) → x ∷ xs ≡ [] → ⊥
no_cons x xs e = cc

own_head : (owner : ℕ → ℕ) (x : Job) (xs : List Job) → taken_by owner (owner x.ticket) (x ∷ xs) ≡ [] → ⊥
own_head owner x xs e =
    let does : eqb (owner x.ticket) (owner x.ticket) ≡ true = eq-eqb (owner x.ticket) (owner x.ticket) refl in
    no_cons x (taken_by owner (owner x.ticket) xs) (ap (λ (b : Bool). cond b (x ∷ taken_by owner (owner x.ticket) xs) (taken_by owner (owner x.ticket) xs)) (sym does) ∙ e)

pub whole : (n : ℕ) (owner : ℕ → ℕ) (pass : ℕ) (xs : List Job) → AreOwned n owner xs → ((j : ℕ) → j < n → j ≢ pass → taken_by owner j xs ≡ []) → taken_by owner pass xs ≡ xs
whole n owner pass [] h e = refl
whole n owner pass (x ∷ xs) h e =
    ⊎_elim
    (λ (is : owner x.ticket ≡ pass).
    ap (λ (b : Bool). cond b (x ∷ taken_by owner pass xs) (taken_by owner pass xs)) (eq-eqb (owner x.ticket) pass is)
    ∙ ap (λ l. x ∷ l) (whole n owner pass xs h.1 (λ j small other. not_mine owner pass j x xs is other (e j small other))))
    (λ (isnt : owner x.ticket ≡ pass → ⊥). absurd (own_head owner x xs (e (owner x.ticket) h.0 isnt)))
    (cases_eq (owner x.ticket) pass)

length_cond : (b : Bool) (x y : Job) (ys us : List Job) (n : ℕ) → length us ≡ n → suc (suc (length ys)) ≡ suc n → length (cond b (x ∷ y ∷ ys) (y ∷ us)) ≡ suc n
length_cond true x y ys us n h k = k
length_cond false x y ys us n h k = ap suc h

length_insert : (x : Job) (ys : List Job) → length (insert_job x ys) ≡ suc (length ys)
length_insert x [] = refl
length_insert x (y ∷ ys) = length_cond (ltb x.ticket y.ticket) x y ys (insert_job x ys) (suc (length ys)) (length_insert x ys) refl

-- those who count jobs cite it
pub length_merge : (xs ys : List Job) → length (merge_jobs xs ys) ≡ length xs + length ys
length_merge xs [] = omega arith
length_merge xs (y ∷ ys) = omega (arith, length_insert y (merge_jobs xs ys), length_merge xs ys)
