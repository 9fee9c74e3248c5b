-- What is found in the index is the longest match of the entries that are held.
use Rattle.std.proofs.Common.{◌≡◌, ℕ, zero, suc, ◌<◌, ◌≤◌, ◌&&◌, Bool, true, false, List, [], ◌∷◌, length, fold, Option, None, Some, refl, sym, ap, subst, ◌∙◌, inl, inr, arith}
use Rattle.std.specs.Prelude.{All, IfNone, IfSome, nat_le, nat_lt, if◌then◌else◌}
use Rattle.std.proofs.lemmas.Bool.{or_parts, and_parts, and_from, cases_Bool, cases_lt, false≢true, false_from_ne_true, le-leb, leb-true, lt-ltb, ltb-true}
use Rattle.std.proofs.lemmas.List.{get_or_default}
use Rattle.std.proofs.lemmas.List.Elements.{All-get_or, All-head, All-tail, All-weaker}
use Rattle.asc_model.specs.State.{State}
use Rattle.asc_model.specs.Entry.{Entry, IsTrueEntry}
use Rattle.asc_traj.specs.Content.{longest, longer_of, matches}
use Rattle.asc_traj.proofs.Finding.{IsMost, step-stay, step-up}
use Rattle.asc_shard.specs.Content.{IsFound}
use Rattle.asc_shard.specs.Inside as inside
use Rattle.asc_shard.specs.Inside.{IsBest, IsIndex, no_entry, sorted_of}
use Rattle.asc_shard.proofs.Slots.{nth, sorted-length}
use Rattle.std.specs.List.{list_any}
use Rattle.asc_shard.proofs.Keeping.{any-index, any-none}

module _ (s : State) (left : ℕ) where
  -- whether an entry matches and is longer, within what is left
  abbrev is_better : ℕ → Entry → Bool
  is_better most e = matches s e && nat_le e.steps left && nat_lt most e.steps

  -- one entry more
  abbrev onto : Option ℕ → Entry → Option ℕ
  onto best e = if matches s e then longer_of left best e.steps else best

  -- where none is longer what was found stays
  fold-stay : (held : List Entry) (best : Option ℕ) (most : ℕ) → IsMost best most → All (λ e. 1 ≤ e.steps) held → list_any (is_better most) held ≡ false → fold onto best held ≡ best
  fold-stay [] best most is least none = refl
  fold-stay (e ∷ held) best most is least none =
      let parts = or_parts (is_better most e) (list_any (is_better most) held) none in
      ap (λ b. fold onto b held) (step-stay best (matches s e) left most e.steps is (All-head (λ x. 1 ≤ x.steps) e held least) parts.0)
      ∙ fold-stay held best most is (All-tail (λ x. 1 ≤ x.steps) e held least) parts.1

  -- where one has as many steps, and none has more
  fold-reach : (held : List Entry) (best : Option ℕ) (n most p : ℕ) → IsMost best n → n < most → All (λ e. 1 ≤ e.steps) held → list_any (is_better most) held ≡ false
      → p < length held → matches s (nth held p) ≡ true → (nth held p).steps ≡ most → most ≤ left → fold onto best held ≡ Some most
  fold-reach [] best n most p is lt least none within match same enough = absurd (omega arith)
  fold-reach (e ∷ held) best n most zero is lt least none within match same enough =
      let parts = or_parts (is_better most e) (list_any (is_better most) held) none in
      let better = and_from (matches s e && nat_le e.steps left) (nat_lt n e.steps)
      (and_from (matches s e) (nat_le e.steps left) match (le-leb e.steps left (omega (arith, same)))) (lt-ltb n e.steps (omega (arith, same))) in
      ap (λ b. fold onto b held) (step-up best (matches s e) left n e.steps is better ∙ ap Some same)
      ∙ fold-stay held (Some most) most refl (All-tail (λ x. 1 ≤ x.steps) e held least) parts.1
  fold-reach (e ∷ held) best n most (suc p) is lt least none within match same enough =
      let parts = or_parts (is_better most e) (list_any (is_better most) held) none in
      let rest = All-tail (λ x. 1 ≤ x.steps) e held least in
      elim (cases_Bool (is_better n e)) [
        | inl up ↦
            let fits = (and_parts (matches s e && nat_le e.steps left) (nat_lt n e.steps) up).0 in
            let most_steps : e.steps ≤ most = elim (cases_lt most e.steps) [
              | inl more ↦ absurd (false≢true (sym parts.0 ∙ and_from (matches s e && nat_le e.steps left) (nat_lt most e.steps) fits (lt-ltb most e.steps more)))
              | inr le ↦ le
            ] in
            let first = ap (λ b. fold onto b held) (step-up best (matches s e) left n e.steps is up) in
            elim (cases_lt e.steps most) [
              | inl less ↦ first ∙ fold-reach held (Some e.steps) e.steps most p refl less rest parts.1 (omega arith) match same enough
              | inr not ↦
                  let equal : e.steps ≡ most = omega arith in
                  first ∙ ap (λ k. fold onto (Some k) held) equal ∙ fold-stay held (Some most) most refl rest parts.1
            ]
        | inr stay ↦
            ap (λ b. fold onto b held) (step-stay best (matches s e) left n e.steps is (All-head (λ x. 1 ≤ x.steps) e held least) stay)
            ∙ fold-reach held best n most p is lt rest parts.1 (omega arith) match same enough
      ]

  -- ---- from the index to the entries that are held

  none-held : (held : List Entry) (slots : List ℕ) (most : ℕ) → IsIndex held slots → inside.IsMost (sorted_of held slots) s left 0 (length slots) most
      → list_any (is_better most) held ≡ false
  none-held held slots most index is =
      let at = nth (sorted_of held slots) in
      sym (any-index (is_better most) held slots index) ∙ any-none (is_better most) (sorted_of held slots) (λ i lt. false_from_ne_true (is_better most (at i)) (λ one.
      let parts = and_parts (matches s (at i) && nat_le (at i).steps left) (nat_lt most (at i).steps) one in
      let fits = and_parts (matches s (at i)) (nat_le (at i).steps left) parts.0 in
      let le = is i (omega arith) (omega (arith, sorted-length held slots)) fits.0 (leb-true (at i).steps left fits.1) in
      omega (arith, le, ltb-true most (at i).steps parts.1)))

  least-steps : (held : List Entry) → All IsTrueEntry held → All (λ e. 1 ≤ e.steps) held
  least-steps held all = All-weaker IsTrueEntry (λ e. 1 ≤ e.steps) (λ e is. is.entry.steps) held all

  pub longest-none : (held : List Entry) (slots : List ℕ) (best : Option ℕ) (most : ℕ) → IsIndex held slots → IsBest held s left best most
      → inside.IsMost (sorted_of held slots) s left 0 (length slots) most → IfNone best (longest held s left ≡ None)
  longest-none held slots None most index is all =
      let none : most ≡ 0 = is.none refl in
      fold-stay held None most none (least-steps held index.true_all) (none-held held slots most index all)
  longest-none held slots (Some p) most index is all = tt

  pub longest-some : (held : List Entry) (slots : List ℕ) (best : Option ℕ) (most : ℕ) → IsIndex held slots → IsBest held s left best most
      → inside.IsMost (sorted_of held slots) s left 0 (length slots) most → IfSome best (IsFound held s left)
  longest-some held slots None most index is all = tt
  longest-some held slots (Some p) most index is all =
      let within = is.within p refl in
      let same = is.steps_are p refl in
      let enough = is.enough in
      let truth = All-get_or IsTrueEntry held p no_entry within index.true_all in
      let least : 1 ≤ (nth held p).steps = truth.entry.steps in
      let found = fold-reach held None 0 most p refl (omega (arith, least, same)) (least-steps held index.true_all) (none-held held slots most index all) within (is.matched p refl) same enough in
      let at = λ (d : Entry). get_or_default held p d no_entry within in
      record {
        within = within;
        steps_are_longest = λ d. found ∙ ap Some (sym (ap (λ (e : Entry). e.steps) (at d) ∙ same));
        is_match = λ d. ap (matches s) (at d) ∙ is.matched p refl;
        is_within_left = λ d. subst (λ (e : Entry). e.steps ≤ left) (sym (at d)) (omega (arith, same, enough));
      }
