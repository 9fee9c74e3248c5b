-- The index: its order, and what it has of the entries that are held.
use Rattle.std.proofs.Common.{◌≡◌, ℕ, ◌<◌, ◌≤◌, true, List, length, get_or, sym, ap, subst, ◌∙◌, inl, inr, arith}
use Rattle.std.specs.Ordering.{is_le}
use Rattle.std.specs.declared.cmp.Ordering.TheVariants.{Less, Equal}
use Rattle.std.proofs.lemmas.Bool.{cases_eq}
use Rattle.std.proofs.lemmas.Cmp.{tied_itself}
use Rattle.std.proofs.lemmas.List.{get_or-map, length-map}
use Rattle.std.proofs.lemmas.List.Elements.{All-get_or}
use Rattle.asc_model.specs.Entry.{Entry}
use Rattle.asc_shard.specs.Inside.{IsIndex, by_all, by_group, by_head, by_key, by_tail, key_of, no_entry, sorted_of}
use Rattle.asc_shard.proofs.Orders.{keys_total, groups_total, all_total, self-le, then-up, then-rest}

-- the entry at an index
abbrev pub nth : List Entry → ℕ → Entry
nth xs i = get_or xs i no_entry

pub sorted-at : (held : List Entry) (slots : List ℕ) (i : ℕ) (d : ℕ) → i < length slots → nth (sorted_of held slots) i ≡ nth held (get_or slots i d)
sorted-at held slots i d lt = get_or-map (nth held) slots i d no_entry lt

pub sorted-length : (held : List Entry) (slots : List ℕ) → length (sorted_of held slots) ≡ length slots
sorted-length held slots = length-map slots (nth held)

pub position-in : (held : List Entry) (slots : List ℕ) (i : ℕ) (d : ℕ) → IsIndex held slots → i < length slots → get_or slots i d < length held
position-in held slots i d index lt = All-get_or (λ p. p < length held) slots i d lt index.within

-- ---- entries rise

pub index-up : (held : List Entry) (slots : List ℕ) → IsIndex held slots → (i j : ℕ) → 0 ≤ i → i ≤ j → j < length slots
    → is_le (by_all (nth (sorted_of held slots) i) (nth (sorted_of held slots) j)) ≡ true
index-up held slots index i j least le lt = elim (cases_eq i j) [
  | inl e ↦ subst (λ k. is_le (by_all (nth (sorted_of held slots) i) (nth (sorted_of held slots) k)) ≡ true) e (self-le all_total (nth (sorted_of held slots) i))
  | inr apart ↦ ap is_le (index.rise i j no_entry (omega (arith, apart)) (omega (arith, sorted-length held slots)))
]

pub key-up : (a b : Entry) → is_le (by_all a b) ≡ true → is_le (by_key (key_of a) (key_of b)) ≡ true
key-up a b h = then-up (by_key (key_of a) (key_of b)) (by_group a b) (then-up (by_head a b) (by_tail a b) h)

-- at one key they rise by group
keys-same : (a b : Entry) → key_of a ≡ key_of b → by_head a b ≡ by_group a b
keys-same a b e = then-rest (by_key (key_of a) (key_of b)) (by_group a b) (ap (by_key (key_of a)) (sym e) ∙ tied_itself keys_total (key_of a))

group-up : (a b : Entry) → key_of a ≡ key_of b → is_le (by_all a b) ≡ true → is_le (by_group a b) ≡ true
group-up a b e h = ap is_le (sym (keys-same a b e)) ∙ then-up (by_head a b) (by_tail a b) h

-- and in one group by bytes and steps
pub tail-up : (a b : Entry) → key_of a ≡ key_of b → by_group a b ≡ Equal → by_all a b ≡ Less → by_tail a b ≡ Less
tail-up a b e group h = sym (then-rest (by_head a b) (by_tail a b) (keys-same a b e ∙ group)) ∙ h

-- an entry is of its own group
pub group-self : (xs : List Entry) (from i : ℕ) → i ≡ from → by_group (nth xs from) (nth xs i) ≡ Equal
group-self xs from i e = ap (λ k. by_group (nth xs from) (nth xs k)) e ∙ tied_itself groups_total (nth xs from)

-- so entries of one key rise by group
pub range-up : (held : List Entry) (slots : List ℕ) (from high : ℕ) → IsIndex held slots → high ≤ length slots
    → ((i j : ℕ) → from ≤ i → i < high → from ≤ j → j < high → key_of (nth (sorted_of held slots) i) ≡ key_of (nth (sorted_of held slots) j))
    → (i j : ℕ) → from ≤ i → i ≤ j → j < high → is_le (by_group (nth (sorted_of held slots) i) (nth (sorted_of held slots) j)) ≡ true
range-up held slots from high index most keys i j least le lt =
    group-up (nth (sorted_of held slots) i) (nth (sorted_of held slots) j) (keys i j least (omega arith) (omega arith) lt)
    (index-up held slots index i j (omega arith) le (omega arith))
