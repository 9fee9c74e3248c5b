-- The visits of a run without workers are one list: by the oldest visit first.
use Rattle.std.proofs.Common.{◌≡◌, ◌≤◌, ◌<◌, ◌+◌, ◌-◌, ℕ, true, List, [], ◌∷◌, length, ap, ◌∙◌, sym, subst, refl, Option, Some, None, arith, inl, inr}
use Rattle.std.proofs.lemmas.Bool.{cases_lt, false≢true}
use Rattle.asc_find.specs.Finder.{Jumps}
use Rattle.asc_find.specs.Serial.{Serial, serial_reply, made_at}
use Rattle.asc_run.specs.Execution.{Progress, On, Off}
use Rattle.asc_run.specs.Visits.{Course, VisitRule, Visit, Fits, AreVisits, jumps_of}
use Rattle.asc_run.specs.Walk.{jumps}
use Rattle.asc_run.specs.Helped.{SerialAt, IsSerial}
use Rattle.asc_run.specs.SerialRun.{Numbers, serial_of}
use Rattle.asc_run.specs.Laws.{SerialVisitsAreOne, SerialRunsAreOne}
use Rattle.asc_run.proofs.VisitRules.{floor, floor_of, same_at, same_visit}

-- a visit lands behind itself
later : (limit : ℕ) (run : Course) (at : ℕ) (reply : Option ℕ) → Fits limit run at reply → at < at + elim reply [ Some n ↦ n | None ↦ 1 ]
later limit run at None fits = omega arith
later limit run at (Some n) fits = omega (arith, fits.0)

-- one machine gives one reply at a state, and goes on in one way
one_reply : (limit n : ℕ) (v u : Visit) (p : Progress) (m x y : Serial) → v.at ≡ u.at → SerialAt limit n v p m x → SerialAt limit n u p m y → (x ≡ y) × (v.reply ≡ u.reply)
one_reply limit n v u (On r) m x y e s t =
    let i : x ≡ y = s.0 ∙ sym t.0 in
    (i, s.1 ∙ ap (λ z. serial_reply z r.state (limit - v.at)) i ∙ ap (λ k. serial_reply y r.state (limit - k)) e ∙ sym t.1)
one_reply limit n v u (Off count ended last) m x y e s t = absurd s

module _ (limit : ℕ) (run : Course) (rule : VisitRule) (first : Serial) where
  -- so many visits of one machine are one list
  same_length : (vs us : List Visit) (a b : ℕ) (x y : Serial) (m n : ℕ) → AreVisits limit run rule vs a → AreVisits limit run rule us b → IsSerial limit run first vs x m → IsSerial limit run first us y n → length vs ≡ length us
      → (vs ≡ us) × ((x ≡ y) × (m ≡ n))
  same_length [] [] a b x y m n p q s t e = (refl, (s.0 ∙ sym t.0, s.1 ∙ sym t.1))
  same_length [] (u ∷ us) a b x y m n p q s t e = absurd (omega (arith, e))
  same_length (v ∷ vs) [] a b x y m n p q s t e = absurd (omega (arith, e))
  same_length (v ∷ vs) (u ∷ us) a b x y m n p q s t e =
      let l : length vs ≡ length us = omega (arith, e) in
      let i = same_length vs us v.at u.at s.0 t.0 s.1 t.1 p.0 q.0 s.2 t.2 l in
      let g = floor_of limit run rule vs v.at p.0 in
      let h = floor_of limit run rule us u.at q.0 in
      let f : floor vs ≡ floor us = ap floor i.0 in
      let below : v.at ≤ u.at = same_at (rule vs) (floor vs) u.at v.at (omega (arith, f, h.0)) g.1 (subst (λ z. rule z u.at ≡ true) (sym i.0) q.1.0) in
      let above : u.at ≤ v.at = same_at (rule us) (floor us) v.at u.at (omega (arith, f, g.0)) h.1 (subst (λ z. rule z v.at ≡ true) i.0 p.1.0) in
      let here : v.at ≡ u.at = omega arith in
      let by_visits = subst (λ z. SerialAt limit (length z + 1) u (run u.at) t.0 y) (sym i.0) t.3.0 in
      let by_machine = subst (λ z. SerialAt limit (length vs + 1) u (run u.at) z y) (sym i.1.0) by_visits in
      let by_place = subst (λ k. SerialAt limit (length vs + 1) u (run k) s.0 y) (sym here) by_machine in
      let r = one_reply limit (length vs + 1) v u (run v.at) s.0 x y here s.3.0 by_place in (
        ap (λ z. z ∷ vs) (same_visit v u here r.1) ∙ ap (λ z. u ∷ z) i.0,
        (
          r.0,
          s.3.1 ∙ ap (λ k. k + made_at (length vs + 1) s.0) i.1.1 ∙ ap (λ z. t.1 + made_at (length z + 1) s.0) i.0
              ∙ ap (λ z. t.1 + made_at (length us + 1) z) i.1.0 ∙ sym t.3.1,
        ),
      )

  -- the oldest so many of a machine's visits, behind which there is one more, before a count
  record Oldest (size before : ℕ) : Type 0 where
    visits : List Visit
    at : ℕ
    now : Serial
    made : ℕ
    size_is : length visits ≡ size
    are : AreVisits limit run rule visits at
    serial : IsSerial limit run first visits now made
    ruled : rule visits at ≡ true
    below : at < before

  oldest : (us : List Visit) (b k : ℕ) (y : Serial) (n : ℕ) → AreVisits limit run rule us b → IsSerial limit run first us y n → k < length us → Oldest k b
  oldest [] b k y n a s l = absurd (let x : ⊥ = omega arith in x)
  oldest (u ∷ us) b k y n a s l =
      let lands : u.at < b = omega (arith, later limit run u.at u.reply a.1.1.0, a.1.1.1.0) in
      elim (cases_lt k (length us)) [
        | inl h ↦ let c = oldest us u.at k s.0 s.1 a.0 s.2 h in record {
          visits = c.visits;
          at = c.at;
          now = c.now;
          made = c.made;
          size_is = c.size_is;
          are = c.are;
          serial = c.serial;
          ruled = c.ruled;
          below = omega (arith, lands, c.below);
        }
        | inr h ↦ record {
          visits = us;
          at = u.at;
          now = s.0;
          made = s.1;
          size_is = omega arith;
          are = a.0;
          serial = s.2;
          ruled = a.1.0;
          below = lands;
        }
      ]

  -- no such list has more visits than another
  no_more : (vs us : List Visit) (x y : Serial) (m n : ℕ) → AreVisits limit run rule vs limit → AreVisits limit run rule us limit → IsSerial limit run first vs x m → IsSerial limit run first us y n → length us ≤ length vs
  no_more vs us x y m n p q s t = elim (cases_lt (length vs) (length us)) [
    | inl h ↦
        let c = oldest us limit (length vs) y n q t h in
        let i = same_length vs c.visits limit c.at x c.now m c.made p c.are s c.serial (sym c.size_is) in
        let g = floor_of limit run rule vs limit p in
        let f = floor_of limit run rule c.visits c.at c.are in
        let e : floor vs ≡ floor c.visits = ap floor i.0 in
        let ruled : rule vs c.at ≡ true = subst (λ z. rule z c.at ≡ true) (sym i.0) c.ruled in
        absurd (false≢true (sym (g.1 c.at (omega (arith, e, f.0)) c.below) ∙ ruled))
    | inr h ↦ h
  ]

pub serial_visits_are_one : SerialVisitsAreOne
serial_visits_are_one limit run rule first vs us x y m n p q s t =
    let a = no_more limit run rule first vs us x y m n p q s t in
    let b = no_more limit run rule first us vs y x n m q p t s in
    same_length limit run rule first vs us limit limit x y m n p q s t (omega (arith, a, b))

abbrev numbers : (executed skipped asked hits made : ℕ) → Numbers
numbers executed skipped asked hits made =
    record { run = record { executed = executed; skipped = skipped; asked = asked; hits = hits }; made = made }

same_numbers : (a b : Numbers) → a.run.executed ≡ b.run.executed → a.run.skipped ≡ b.run.skipped → a.run.asked ≡ b.run.asked → a.run.hits ≡ b.run.hits → a.made ≡ b.made → a ≡ b
same_numbers a b e s k h m =
    ap (λ x. numbers x a.run.skipped a.run.asked a.run.hits a.made) e
    ∙ ap (λ x. numbers b.run.executed x a.run.asked a.run.hits a.made) s
    ∙ ap (λ x. numbers b.run.executed b.run.skipped x a.run.hits a.made) k
    ∙ ap (λ x. numbers b.run.executed b.run.skipped b.run.asked x a.made) h
    ∙ ap (numbers b.run.executed b.run.skipped b.run.asked b.run.hits) m

pub serial_runs_are_one : SerialRunsAreOne
serial_runs_are_one limit run rule shape guessing first a b p q =
    let i = serial_visits_are_one limit run rule (serial_of shape guessing first) p.visits q.visits p.now q.now a.made b.made p.are q.are p.serial q.serial in
    let e : jumps a.run.asked a.run.skipped a.run.hits ≡ jumps b.run.asked b.run.skipped b.run.hits = sym p.jumps ∙ ap (λ vs. jumps_of vs (jumps 0 0 0)) i.0 ∙ q.jumps in
    let skipped : a.run.skipped ≡ b.run.skipped = ap (λ (t : Jumps). t.given) e in
    let x = p.executed in
    let y = q.executed in (
      same_numbers a b (omega (arith, x, y, skipped)) skipped (ap (λ (t : Jumps). t.asked) e) (ap (λ (t : Jumps). t.hits) e) i.1.1,
      ap (λ (m : Serial). m.content) i.1.0,
    )
