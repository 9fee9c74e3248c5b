-- Where a trace of steps ends, and why.
use Rattle.std.specs.Prelude.{◌≡◌, ℕ, zero, suc, ◌+◌, ◌<◌, Bool, false, ◌==◌, ◌++◌, length, nat_lt, count_by, Option, Some, None, if◌then◌else◌}
use Rattle.std.specs.List.{range_with_len}
use Rattle.std.specs.Option.{option_or}
use Rattle.asc_model.specs.declared.limits.TheConstants.{STEP_ROOM}
use Rattle.asc_model.specs.declared.why.Why.{Why}
use Rattle.asc_model.specs.declared.why.Why.TheVariants as whys
use Rattle.asc_model.specs.State.{State}
use Rattle.asc_model.specs.Machine.{view_of}
use Rattle.asc_model.specs.Step.{Next, Went, Call, Faulted, next}
use Rattle.asc_model.specs.Plain.{plain}
use Rattle.asc_model.specs.Places.{places_from}
use Rattle.asc_model.specs.DependencyVector.{is_among, first_reads, written_in}

-- the bounds of a trace
pub record Bounds : Type 0 where
  -- a lap is a step that leads to this pc, and the trace ends after so many of them, at least 1
  pub pc : ℕ
  pub laps : ℕ
  -- how many steps it takes at most
  pub span : ℕ
  -- how many places it may touch
  pub cap : ℕ

-- whether steps lead to a state with this pc
abbrev pub leads_to : ℕ → Next → Bool
leads_to pc (Went now) = (view_of now).pc == pc
leads_to pc Call = false
leads_to pc (Faulted fault) = false

-- how many of the first n steps lead to this pc
abbrev pub laps_in : ℕ → (n : ℕ) → State → ℕ
laps_in pc n s = count_by (λ k. leads_to pc (plain k s)) (range_with_len 1 n)

-- how many places n steps touch
abbrev pub touched_in : ℕ → State → ℕ
touched_in n s =
    count_by (λ place. is_among place (first_reads n s ++ written_in n s)) (places_from 0 (length s.bytes))

-- The first of these that holds after n steps of a start: so many laps were made; so many steps were taken; there might
-- be no room for a step.
abbrev pub bound_met : Bounds → ℕ → State → Option Why
bound_met bounds n start =
    if laps_in bounds.pc n start == bounds.laps then Some whys.Lap
    else (if n == bounds.span then Some whys.Span
    else (if nat_lt bounds.cap (touched_in n start + STEP_ROOM) then Some whys.Room
    else None))

-- why there is no next step
abbrev pub why_no_step : Next → Option Why
why_no_step (Went after) = None
why_no_step Call = Some whys.Call
why_no_step (Faulted fault) = Some (whys.Fault fault)

-- why a trace of a start ends after n steps, which lead to now; none where it goes on
abbrev pub why_after : Bounds → ℕ → (start now : State) → Option Why
why_after bounds n start now = option_or (bound_met bounds n start) (why_no_step (next now))

-- nothing ends a trace of a start before n steps
abbrev pub GoesOn : Bounds → State → ℕ → Type 0
GoesOn bounds start n = (k : ℕ) (now : State) → k < n → plain k start ≡ Went now
    → why_after bounds k start now ≡ None

-- A trace of a start reaches n steps, and ends there for this reason, which is the first that stands: it does so after
-- these steps, and before them none does.
pub record IsReach (bounds : Bounds) (start : State) (n : ℕ) (why : Why) : Type 0 where
  pub now : State
  pub goes : plain n start ≡ Went now
  pub ends : why_after bounds n start now ≡ Some why
  pub least : GoesOn bounds start n

-- from a state that k steps of a start led to, over at most n more: after how many steps of the start a trace ends
unfoldable pub reach_from : Bounds → (start : State) → (k n : ℕ) → (now : State) → ℕ
reach_from bounds start k zero now = k
reach_from bounds start k (suc n) now = elim (why_after bounds k start now) [
  | Some why ↦ k
  | None ↦ elim (next now) [
    | Went after ↦ reach_from bounds start (k + 1) n after
    | Call ↦ k
    | Faulted fault ↦ k
  ]
]

-- how many steps a trace of a start takes: over each state in turn, up to the first after which it ends
abbrev pub reach_of : Bounds → State → ℕ
reach_of bounds start = reach_from bounds start 0 bounds.span start
