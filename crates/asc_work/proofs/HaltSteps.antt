-- Each step at a halt word keeps its rule.
use Rattle.std.proofs.Common.{◌≡◌, ◌≢◌, ℕ, Bool, zero, suc, true, false, true≢false, [], ◌∷◌, List, if◌then◌else◌, set, get_or, sym, refl, ap, ◌∙◌, subst, ⊎_elim}
use mathlib.Core.Option.{some, some-ne-none, some-injective}
use lib.ListN.{get_elem?}
use Rattle.atomic_table.specs.Table.{Me, Allows, Splits, keeps, opening}
use Rattle.atomic_table.proofs.Lists.{at_longer, at_set, at_snoc, set_again}
use Rattle.asc_work.specs.declared.halter.Sight.{Sight}
use Rattle.asc_work.specs.Halting.{first_sight, new_sight, stored, loaded, IsSighted, IsThere, HaltRule}

abbrev Views : (ℕ → Sight → Type 0) → List Sight → Type 0
Views F views = (seat : ℕ) (v : Sight) → get_elem? views seat ≡ some v → F seat v

-- the views after one changes
changed : (F : ℕ → Sight → Type 0) (views : List Sight) (id : ℕ) (w : Sight) → F id w → ((j : ℕ) (u : Sight) → j ≢ id → get_elem? views j ≡ some u → F j u) → Views F (set views id w)
changed F views id w mine others j u at = ⊎_elim (λ (x : (j ≡ id) × (w ≡ u)). subst (λ (y : ℕ × Sight). F y.0 y.1) (λ i. (sym x.0 i, x.1 i)) mine)
    (λ (x : (j ≢ id) × (get_elem? views j ≡ some u)). others j u x.0 x.1) (at_set views id j w u at)

-- the halter's seat is there still
stays : (views : List Sight) (halter id : ℕ) (old new : Sight) → get_elem? views id ≡ some old → new.halts ≡ old.halts → IsThere views halter → IsThere (set views id new) halter
stays [] halter id old new at same there = absurd (some-ne-none there.0 (sym there.1))
stays (x ∷ xs) zero zero old new at same there =
    (new, refl, same ∙ ap (λ (v : Sight). v.halts) (sym (some-injective x old at) ∙ some-injective x there.0 there.1) ∙ there.2)
stays (x ∷ xs) zero (suc id) old new at same there = there
stays (x ∷ xs) (suc halter) zero old new at same there = there
stays (x ∷ xs) (suc halter) (suc id) old new at same there = stays xs halter id old new at same there

only : Views (IsSighted 0 false) (first_sight ∷ [])
only zero v at = subst (IsSighted 0 false 0) (some-injective _ v at) (record { halter_is = λ _. refl; halted_is = λ _. refl; quiet = λ _. refl })
only (suc n) v at = absurd (some-ne-none v (sym at))

pub begins : HaltRule (opening (0 ∷ []) [] first_sight)
begins = record { halter = 0; halted = false; word = refl; seats = only; there = (first_sight, refl, refl) }

-- the halter stores 1
pub stores : (slots id : ℕ) (m : Me (Unit {0}) Sight) → m.0.halts ≡ true → Allows HaltRule slots id m 0 (λ _. 1) (λ n w. (w.0 ≡ stored m.0) × (w.1 ≡ m.1))
stores slots id m mine s h homes at small =
    let fit = h.seats id m.0 at in (
      stored m.0,
      keeps,
      tt,
      record {
        halter = h.halter;
        halted = true;
        word = ap (λ (l : List ℕ). set l 0 1) h.word;
        seats = changed (IsSighted h.halter true) s.views id (stored m.0) (record { halter_is = fit.halter_is; halted_is = λ _. refl; quiet = λ e. absurd (true≢false e) })
            (λ j u other there. record { halter_is = (h.seats j u there).halter_is; halted_is = λ p. absurd (other ((h.seats j u there).halter_is p ∙ sym (fit.halter_is mine))); quiet = λ e. absurd (true≢false e) });
        there = stays s.views h.halter id m.0 (stored m.0) at refl h.there;
      },
      (refl, refl),
    )

-- a load gives 0
loads_zero : (halter id : ℕ) (v : Sight) → IsSighted halter false id v → IsSighted halter false id (loaded v 0)
loads_zero halter id v fit = record { halter_is = fit.halter_is; halted_is = fit.halted_is; quiet = fit.quiet }

-- a load gives 1
loads_one : (halter id : ℕ) (v : Sight) → IsSighted halter true id v → IsSighted halter true id (loaded v 1)
loads_one halter id v fit = record { halter_is = fit.halter_is; halted_is = fit.halted_is; quiet = λ e. absurd (true≢false e) }

loads_either : (halter id : ℕ) (v : Sight) (halted : Bool) → IsSighted halter halted id v → IsSighted halter halted id (loaded v (if halted then 1 else 0))
loads_either halter id v true fit = loads_one halter id v fit
loads_either halter id v false fit = loads_zero halter id v fit

pub loads : (slots id : ℕ) (m : Me (Unit {0}) Sight) → Allows HaltRule slots id m 0 (λ n. n) (λ n w. (w.0 ≡ loaded m.0 n) × (w.1 ≡ m.1))
loads slots id m s h homes at small =
    let word : ℕ = if h.halted then 1 else 0 in
    let P : List ℕ → Type 0 = λ l. set l 0 (get_or l 0 0) ≡ word ∷ [] in
    let Q : List ℕ → Type 0 = λ l. loaded m.0 word ≡ loaded m.0 (get_or l 0 0) in (
      loaded m.0 word,
      keeps,
      tt,
      record {
        halter = h.halter;
        halted = h.halted;
        word = subst P (sym h.word) refl;
        seats = changed (IsSighted h.halter h.halted) s.views id (loaded m.0 word) (loads_either h.halter id m.0 h.halted (h.seats id m.0 at)) (λ j u other there. h.seats j u there);
        there = stays s.views h.halter id m.0 (loaded m.0 word) at refl h.there;
      },
      (subst Q (sym h.word) refl, refl),
    )

-- a flag's seat is split off
pub splits : (id : ℕ) (v : Sight) → Splits HaltRule id v v new_sight
splits id v s h at = record {
  halter = h.halter;
  halted = h.halted;
  word = h.word;
  seats = λ j u there.
      ⊎_elim (λ old. h.seats j u (ap (λ (l : List Sight). get_elem? l j) (sym (set_again s.views id v at)) ∙ old))
      (λ (new : new_sight ≡ u). subst (IsSighted h.halter h.halted j) new (record { halter_is = λ p. absurd (true≢false (sym p)); halted_is = λ p. absurd (true≢false (sym p)); quiet = λ _. refl }))
      (at_snoc (set s.views id v) new_sight u j there);
  there = let kept = stays s.views h.halter id v v at refl h.there in (kept.0, at_longer (set s.views id v) (new_sight ∷ []) h.halter kept.0 kept.1, kept.2);
}
