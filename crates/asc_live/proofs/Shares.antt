-- When the workers' share rises.
use Rattle.std.proofs.Common.{◌≡◌, ℕ, zero, suc, ◌+◌, ◌-◌, ◌*◌, ◌/◌, ◌%◌, ◌<◌, ◌==◌, ◌&&◌, not, nat_lt, sym, ap, ◌∙◌, subst, arith}
use Rattle.std.proofs.lemmas.Bool.{lt-ltb, le-ltb, ne_eqb}
use Rattle.std.proofs.lemmas.Nat.{div-mul-add, mod-mul-add}
use Rattle.std.proofs.Math.Nat.{mod-add-div', mod-lt}
use Rattle.asc_live.specs.Due.{is_for_workers}
use Rattle.asc_live.specs.Laws.{share, SharesRise}

-- a visit by its row, of two more than w, and by what it leaves
abbrev at : (w q r : ℕ) → ℕ
at w q r = q * suc (suc w) + r

-- the whole share of a visit that leaves more than 0
split : (d q r : ℕ) → at (r + d) q (suc r) * suc (r + d) ≡ (q * suc (r + d) + r) * suc (suc (r + d)) + suc d
split d q r = grind arith

share-some : (d q r : ℕ) → share (suc (r + d)) (at (r + d) q (suc r)) ≡ q * suc (r + d) + r
share-some d q r =
    let w : ℕ = suc (r + d) in
    (let e : w + 1 ≡ suc w = omega arith in ap (λ m. at (r + d) q (suc r) * w / m) e)
    ∙ ap (λ n. n / suc w) (split d q r) ∙ div-mul-add (q * w + r) (suc w) (suc d) (omega arith)

split-none : (w q : ℕ) → q * suc (suc w) * suc w ≡ q * suc w * suc (suc w) + 0
split-none w q = grind arith

share-none : (w q : ℕ) → share (suc w) (q * suc (suc w)) ≡ q * suc w
share-none w q =
    (let e : suc w + 1 ≡ suc (suc w) = omega arith in ap (λ m. q * suc (suc w) * suc w / m) e)
    ∙ ap (λ n. n / suc (suc w)) (split-none w q) ∙ div-mul-add (q * suc w) (suc (suc w)) 0 (omega arith)

left : (w q r : ℕ) → r < suc (suc w) → at w q r % (suc w + 1) ≡ r
left w q r few = (let e : suc w + 1 ≡ suc (suc w) = omega arith in ap (λ m. at w q r % m) e) ∙ mod-mul-add q (suc (suc w)) r few

-- the whole share of a visit that is not the last in its row
middle : (w q r : ℕ) → suc r < suc (suc w) → share (suc w) (at w q (suc r)) ≡ q * suc w + r
middle w q r few =
    let d : ℕ = w - r in
    let e : r + d ≡ w = omega (arith, few) in
    subst (λ w. share (suc w) (at w q (suc r)) ≡ q * suc w + r) e (share-some d q r)

last-share : (w q : ℕ) → share (suc w) (at w q (suc w)) ≡ q * suc w + w
last-share w q = middle w q w (omega arith)

row-before : (w q : ℕ) → suc q * suc (suc w) + 0 - 1 ≡ q * suc (suc w) + suc w
row-before w q = let e : suc q * suc (suc w) ≡ q * suc (suc w) + suc (suc w) = grind arith in omega (arith, e)

row-after : (w q : ℕ) → q * suc w + w < suc q * suc w
row-after w q = let e : suc q * suc w ≡ q * suc w + suc w = grind arith in omega (arith, e)

shared-at : (w q r : ℕ) → r < suc (suc w) → is_for_workers (suc w) (at w q r) ≡ not (r == 1)
shared-at w q r few = λ i. (lt-ltb 0 (suc w) (omega arith) i) && not (left w q r few i == 1)

-- at each place in a row
rises-at : (w q r : ℕ) → r < suc (suc w) → 0 < at w q r → is_for_workers (suc w) (at w q r) ≡ nat_lt (share (suc w) (at w q r - 1)) (share (suc w) (at w q r))
rises-at w zero zero few some = absurd (let x : ⊥ = omega (arith, some) in x)
rises-at w (suc q) zero few some =
    let before : at w (suc q) zero - 1 ≡ at w q (suc w) = row-before w q in
    let was : share (suc w) (at w q (suc w)) ≡ q * suc w + w = last-share w q in
    let is : share (suc w) (at w (suc q) zero) ≡ suc q * suc w = ap (share (suc w)) (let e : suc q * suc (suc w) + 0 ≡ suc q * suc (suc w) = omega arith in e) ∙ share-none w (suc q) in
    let lemma : q * suc w + w < suc q * suc w = row-after w q in
    shared-at w (suc q) zero few
    ∙ sym ((λ i. nat_lt ((ap (share (suc w)) before ∙ was) i) (is i)) ∙ lt-ltb _ _ lemma)
rises-at w q (suc zero) few some =
    let before : at w q 1 - 1 ≡ q * suc (suc w) = omega arith in
    let is : share (suc w) (at w q 1) ≡ q * suc w + 0 = middle w q 0 (omega arith) in
    shared-at w q 1 few
    ∙ sym ((λ i. nat_lt ((ap (share (suc w)) before ∙ share-none w q) i) (is i)) ∙ le-ltb _ _ (omega arith))
rises-at w q (suc (suc r)) few some =
    let before : at w q (suc (suc r)) - 1 ≡ at w q (suc r) = omega arith in
    shared-at w q (suc (suc r)) few ∙ ap not (ne_eqb (suc (suc r)) 1 (λ e. let x : ⊥ = omega (arith, e) in x))
    ∙ sym ((λ i. nat_lt ((ap (share (suc w)) before ∙ middle w q r (omega (arith, few))) i) (middle w q (suc r) few i)) ∙ lt-ltb _ _ (omega arith))

none-shared : (target : ℕ) → is_for_workers 0 target ≡ nat_lt (share 0 (target - 1)) (share 0 target)
none-shared target =
    let a : (target - 1) * 0 ≡ 0 = grind arith in
    let b : target * 0 ≡ 0 = grind arith in
    (λ i. le-ltb 0 0 (omega arith) i && not (target % 1 == 1)) ∙ sym (le-ltb 0 0 (omega arith)) ∙ sym (λ i. nat_lt (a i / 1) (b i / 1))

pub shares_rise : SharesRise
shares_rise zero target some = none-shared target
shares_rise (suc w) target some =
    let q = target / suc (suc w) in
    let r = target % suc (suc w) in
    let few : r < suc (suc w) = mod-lt target (omega arith) in
    let is : at w q r ≡ target = (let e : q * suc (suc w) + r ≡ r + q * suc (suc w) = omega arith in e) ∙ mod-add-div' target (suc (suc w)) in
    subst (λ t. is_for_workers (suc w) t ≡ nat_lt (share (suc w) (t - 1)) (share (suc w) t)) is (rises-at w q r few (subst (λ t. 0 < t) (sym is) some))
