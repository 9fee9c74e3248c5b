-- Faults as cases in order.
use Rattle.std.specs.Prelude.{Bool, List, [], ◌∷◌, Option, Some, None, if◌then◌else◌}

-- a fault, and whether it stands
pub record Case (Fault : Type 0) : Type 0 where
  pub stands : Bool
  pub fault : Fault

infix 5 ◌if◌
abbrev pub ◌if◌ : {Fault : Type 0} → Fault → Bool → Case Fault
fault if stands = record { stands = stands; fault = fault }

-- the fault of the first case that stands
abbrev pub first_fault : {Fault : Type 0} → List (Case Fault) → Option Fault
first_fault [] = None
first_fault (first ∷ cases) = if first.stands then Some first.fault else first_fault cases
