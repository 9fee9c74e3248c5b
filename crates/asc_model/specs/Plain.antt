-- Plain steps, one after another.
use Rattle.std.specs.Prelude.{ℕ, zero, suc}
use Rattle.asc_model.specs.State.{State}
use Rattle.asc_model.specs.Step.{Next, Went, Call, Faulted, next}

-- n steps of a state, or where they end before that
unfoldable pub plain : ℕ → State → Next
plain zero s = Went s
plain (suc n) s = elim (next s) [ Went after ↦ plain n after | Call ↦ Call | Faulted fault ↦ Faulted fault ]
