-- One step through a list of shared entries.
use Rattle.std.proofs.Common.{◌≡◌, ℕ, zero, suc, ◌+◌, ◌<◌, List, [], ◌∷◌, length, get_or, take, map, fold, refl, arith, add-one, Global}
use Rattle.std.specs.Arc.{arc_value}
use Rattle.std.specs.declared.sync.Arc.{Arc}

module _ {X : Type 0} where
  fold_suc : {B : Type 0} (f : B → X → B) (a : B) (xs : List (Arc X Global)) (i : ℕ) (d : Arc X Global) → i < length xs → fold f a (take (suc i) (map arc_value xs)) ≡ f (fold f a (take i (map arc_value xs))) (arc_value (get_or xs i d))
  fold_suc f a [] i d h = absurd (omega arith)
  fold_suc f a (x ∷ xs) zero d h = refl
  fold_suc f a (x ∷ xs) (suc i) d h = fold_suc f (f a (arc_value x)) xs i d (omega arith)

  pub fold_more : {B : Type 0} (f : B → X → B) (a : B) (xs : List (Arc X Global)) (i : ℕ) (d : Arc X Global) → i < length xs → fold f a (take (i + 1) (map arc_value xs)) ≡ f (fold f a (take i (map arc_value xs))) (arc_value (get_or xs i d))
  fold_more f a xs i d h = rw add-one (fold_suc f a xs i d h)
