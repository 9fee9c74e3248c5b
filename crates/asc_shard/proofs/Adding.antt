-- No two entries of a content are the same, and adding keeps that.
use Rattle.asc_shard.proofs.Keeping.{equal-same, same-equal}
use Rattle.asc_shard.proofs.Orders.{all_total}
use Rattle.std.proofs.lemmas.Cmp.{tied_back}
use Rattle.std.proofs.Common.{◌≡◌, false, List, [], ◌∷◌, ◌++◌, map, refl, sym, ◌∙◌, Global}
use Rattle.std.specs.Arc.{arc_value}
use Rattle.std.specs.declared.sync.Arc.{Arc}
use Rattle.std.specs.List.{list_any, remove}
use Rattle.std.proofs.lemmas.Bool.{false≢true, false_from_ne_true, or_parts, or_from}
use Rattle.std.proofs.lemmas.List.{map_push}
use Rattle.std.proofs.lemmas.List.Folds.{list_any-append}
use Rattle.asc_model.specs.Entry.{Entry}
use Rattle.asc_shard.specs.Content.{is_same_entry, AreApart}

-- which of two entries is first does not matter
other-way : (a b : Entry) → is_same_entry a b ≡ false → is_same_entry b a ≡ false
other-way a b apart = false_from_ne_true (is_same_entry b a) (λ same. false≢true (sym apart ∙ equal-same a b (tied_back all_total a b (same-equal b a same))))

-- ---- entries that are apart

-- one more, which none of them is
apart-more : (held : List Entry) (e : Entry) → AreApart held → list_any (is_same_entry e) held ≡ false → AreApart (held ++ e ∷ [])
apart-more [] e apart new = (refl, tt)
apart-more (x ∷ held) e apart new =
    let parts = or_parts (is_same_entry e x) (list_any (is_same_entry e) held) new in (
      list_any-append (is_same_entry x) held (e ∷ [])
          ∙ or_from (list_any (is_same_entry x) held) (list_any (is_same_entry x) (e ∷ [])) apart.0
          (or_from (is_same_entry x e) false (other-way e x parts.0) refl),
      apart-more held e apart.1 parts.1,
    )

-- the same of shared entries
pub apart-pushed : (xs : List (Arc Entry Global)) (x : Arc Entry Global) → AreApart (map arc_value xs)
    → list_any (is_same_entry (arc_value x)) (map arc_value xs) ≡ false → AreApart (map arc_value (xs ++ x ∷ []))
apart-pushed xs x apart new =
    rw (map_push arc_value xs x) (apart-more (map arc_value xs) (arc_value x) apart new)

-- without the first of them
pub apart-without : (xs : List (Arc Entry Global)) → AreApart (map arc_value xs) → AreApart (map arc_value (remove xs 0))
apart-without [] apart = apart
apart-without (x ∷ xs) apart = apart.1
