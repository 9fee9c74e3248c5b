-- Jumps, which are plain runs.
use Rattle.std.specs.Prelude.{◌≡◌, ℕ, ◌≤◌, Option, Some, None}
use Rattle.asc_model.specs.State.{State}
use Rattle.asc_model.specs.Step.{Went}
use Rattle.asc_model.specs.Plain.{plain}

-- from one state to another are n plain steps, at least 1 and at most left
pub record JumpsBy (n left : ℕ) (old new : State) : Type 0 where
  pub least : 1 ≤ n
  pub most : n ≤ left
  pub goes : plain n old ≡ Went new

-- what a reply does to the state of which a jump was asked
abbrev pub IsJump : Option ℕ → (left : ℕ) → (old new : State) → Type 0
IsJump None left old new = new ≡ old
IsJump (Some n) left old new = JumpsBy n left old new
