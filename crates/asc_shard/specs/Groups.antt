-- How often a look-up compares a state with held entries.
use Rattle.std.specs.Prelude.{◌≡◌, ℕ, ◌+◌, ◌^◌, ◌≤◌, Bool, true, false, ◌==◌, ◌&&◌, List, All, Contains, count_by}
use Rattle.std.specs.List.{AllPairs}
use lib.Pointwise.{pointwise}
use Rattle.asc_model.specs.Shape.{is_same_shape}
use Rattle.asc_model.specs.State.{State}
use Rattle.asc_model.specs.Entry.{Entry}
use Rattle.asc_shard.specs.Fingerprints.{may_match}

-- A group is the entries of one shape and one list of read places.
abbrev pub is_of_group : Entry → Entry → Bool
is_of_group a b = is_same_shape a.shape b.shape && pointwise (λ x y. x.0 == y.0) a.reads b.reads

-- n is at most k + 2, where 2 ^ k is at most m
abbrev pub IsFew : (n m : ℕ) → Type 0
IsFew n m = (k : ℕ) × (2 ^ k ≤ m) × (n ≤ k + 2)

-- an entry, and how often entries of its group were compared with a state
pub record Asked : Type 0 where
  pub entry : Entry
  pub probes : ℕ

-- The entry is held, the state has its fingerprint, and these are few probes for the held entries of its group.
pub record IsAsked (held : List Entry) (s : State) (a : Asked) : Type 0 where
  pub is_held : Contains held a.entry
  pub has_print : may_match s a.entry ≡ true
  pub is_few : IsFew a.probes (count_by (is_of_group a.entry) held)

-- so each of these is, and no two are of one group
pub record AreAsked (held : List Entry) (s : State) (asked : List Asked) : Type 0 where
  pub each : All (IsAsked held s) asked
  pub apart : AllPairs (λ a b. is_of_group a.entry b.entry ≡ false) asked
