-- The word by which one halter asks its flags to stop.
use Rattle.std.specs.Prelude.{◌≡◌, ◌+◌, ◌==◌, ℕ, Bool, true, false, List, [], ◌∷◌, length, All, if◌then◌else◌}
use mathlib.Core.Option.{some}
use lib.ListN.{get_elem?}
use Rattle.atomic_table.specs.Seated.{TableId}
use Rattle.atomic_table.specs.Table.{State}
use Rattle.asc_outside.specs.Outside.{one_more}
use Rattle.asc_work.specs.declared.halter.Sight.{Sight}

-- a halter: its word, and whether it has asked to stop
pub record Halter : Type 0 where
  pub word : TableId
  pub halted : Bool

-- a flag: its word, how often it was asked, and how many of its answers were yes, up to 2^64 - 1
pub record Flag : Type 0 where
  pub word : TableId
  pub asks : ℕ
  pub count : ℕ

-- a halter that has not asked to stop, and so many flags of its word that were not asked
pub record AreOpened (flags : ℕ) (halter : Halter) (made : List Flag) : Type 0 where
  pub running : halter.halted ≡ false
  pub number : length made ≡ flags
  pub each : All (λ f. f ≡ record { word = halter.word; asks = 0; count = 0 }) made

-- a flag after an answer
abbrev pub flag_after : Flag → (answer : Bool) → Flag
flag_after f answer = record { word = f.word; asks = f.asks + 1; count = if answer then one_more f.count else f.count }

-- what a seat at the word knows
abbrev pub sight : (halts halted : Bool) → (asks count : ℕ) → Sight
sight halts halted asks count = record { halts = halts; halted = halted; asks = asks; count = count }

-- the halter's seat at first, and a flag's
abbrev pub first_sight : Sight
first_sight = sight true false 0 0

abbrev pub new_sight : Sight
new_sight = sight false false 0 0

-- a seat after it stored 1
abbrev pub stored : Sight → Sight
stored v = sight v.halts true v.asks v.count

-- a seat after a load that gave n
abbrev pub loaded : Sight → (n : ℕ) → Sight
loaded v n = sight v.halts v.halted (v.asks + 1) (if n == 1 then one_more v.count else v.count)

-- What the seat of a number knows is so: one seat alone is the halter's and knows whether it has asked to stop, and
-- until then no seat has answered yes.
pub record IsSighted (halter : ℕ) (halted : Bool) (seat : ℕ) (v : Sight) : Type 0 where
  pub halter_is : v.halts ≡ true → seat ≡ halter
  pub halted_is : v.halts ≡ true → v.halted ≡ halted
  pub quiet : halted ≡ false → v.count ≡ 0

-- the seat of this number is a halter's
abbrev pub IsThere : List Sight → (seat : ℕ) → Type 0
IsThere views seat = (v : Sight) × (get_elem? views seat ≡ some v) × (v.halts ≡ true)

-- The rule of the word: it is 1 where the halter has asked to stop, and else 0. There is one halter: the seat of this
-- number is a halter's, and no other is.
pub record HaltRule (s : State (Unit {0}) Sight) : Type 0 where
  pub halter : ℕ
  pub halted : Bool
  pub word : s.words ≡ (if halted then 1 else 0) ∷ []
  pub seats : (seat : ℕ) (v : Sight) → get_elem? s.views seat ≡ some v → IsSighted halter halted seat v
  pub there : IsThere s.views halter
