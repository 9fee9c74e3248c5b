-- What a shard holds: a list of entries, the oldest first.
use Rattle.std.specs.Prelude.{◌≡◌, ℕ, ◌-◌, ◌<◌, ◌≤◌, Bool, true, false, ◌==◌, ◌&&◌, List, [], ◌∷◌, ◌++◌, All, length, drop, fold, slice_index_or, Some, if◌then◌else◌}
use Rattle.std.specs.List.{list_any}
use lib.Pointwise.{pointwise}
use Rattle.asc_model.specs.Shape.{is_same_shape}
use Rattle.asc_model.specs.State.{State}
use Rattle.asc_model.specs.Entry.{Entry, IsTrueEntry}
use Rattle.asc_traj.specs.Content.{longest, matches}
use Rattle.asc_shard.specs.declared.shard.Inserted.{Inserted}
use Rattle.asc_shard.specs.declared.shard.Inserted.TheVariants.{Known, Stored}

-- whether two entries stand for as many steps from the same states; then they are one entry, where both are true
abbrev pub is_same_entry : Entry → Entry → Bool
is_same_entry a b = is_same_shape a.shape b.shape && (a.steps == b.steps)
    && pointwise (λ x y. (x.0 == y.0) && (x.1 == y.1)) a.reads b.reads

-- the last n of a list
abbrev pub last_of : {X : Type 0} → ℕ → List X → List X
last_of n list = drop (length list - n) list

-- An entry that is held already changes nothing. Every other is put last, and where there are more than the capacity
-- the oldest goes.
abbrev pub add : (capacity : ℕ) → List Entry → Entry → List Entry
add capacity held e = if list_any (is_same_entry e) held then held else last_of capacity (held ++ e ∷ [])

-- what then is answered
abbrev pub inserted_in : List Entry → Entry → Inserted
inserted_in held e = if list_any (is_same_entry e) held then Known else Stored

-- the content that these insertions leave
abbrev pub content_of : (capacity : ℕ) → List Entry → List Entry
content_of capacity log = fold (add capacity) [] log

-- no two of these entries agree in shape, reads and steps
abbrev pub AreApart : List Entry → Type 0
AreApart [] = Unit {0}
AreApart (e ∷ held) = (list_any (is_same_entry e) held ≡ false) × AreApart held

-- what holds whenever a shard is looked at: each entry holds everywhere, and no two are the same
pub record IsContent (capacity : ℕ) (held : List Entry) : Type 0 where
  pub true_all : All IsTrueEntry held
  pub apart : AreApart held
  pub most : length held ≤ capacity

-- The entry at a position is one of the most steps within a bound that match a state.
pub record IsFound (held : List Entry) (s : State) (left i : ℕ) : Type 0 where
  pub within : i < length held
  pub steps_are_longest : (d : Entry) → longest held s left ≡ Some (slice_index_or held i d).steps
  pub is_match : (d : Entry) → matches s (slice_index_or held i d) ≡ true
  pub is_within_left : (d : Entry) → (slice_index_or held i d).steps ≤ left
