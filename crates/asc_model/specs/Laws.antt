-- The laws that tie states, their machines and their steps to one another.
use Rattle.std.specs.Prelude.{◌≡◌, ℕ, ◌+◌, ◌<◌, ◌≤◌, true, false, Some, None, List, [], All, AllPairs, length, ◌≢◌, slice_index, ◌||◌}
use Rattle.asc_model.specs.declared.version.Version.{Version}
use Rattle.asc_model.specs.declared.fault.Fault.{Fault}
use Rattle.asc_model.specs.Shape.{Shape}
use Rattle.asc_model.specs.State.{State, IsState}
use Rattle.asc_model.specs.Machine.{Machine, IsMachine, view_of, state_of}
use Rattle.asc_model.specs.Step.{Went, Call, Faulted, fetch, next}
use Rattle.asc_model.specs.Instruction.{Row, fits, operands, table, decode}
use Rattle.asc_model.specs.Places.{places_read, places_written, writes, bytes_after}
use Rattle.asc_model.specs.Plain.{plain}
use Rattle.asc_model.specs.DependencyVector.{is_among, first_reads, written_in}
use Rattle.asc_model.specs.Entry.{Entry, IsTrueEntry, entry_of}
use Rattle.asc_model.specs.Join.{join_of}
use Rattle.asc_model.specs.declared.why.Why.{Why}
use Rattle.asc_model.specs.Reach.{Bounds, IsReach, reach_of}

-- The machine of a state is one of its shape, and the state is the one of that shape and machine: they determine it.
abbrev pub ViewsDetermineStates : Type 0
ViewsDetermineStates = (s : State) → IsState s
    → IsMachine s.shape (view_of s) × (state_of s.shape (view_of s) ≡ s)

-- The state of a machine is a state, and the machine is the one of that state: its state determines it.
abbrev pub StatesDetermineViews : Type 0
StatesDetermineViews =
    (shape : Shape) (m : Machine) → IsMachine shape m
    → IsState (state_of shape m) × (view_of (state_of shape m) ≡ m)

-- a place that is not one of these has the byte that it had
abbrev pub KeepsOthers : List ℕ → (before after : State) → Type 0
KeepsOthers places before after = (place : ℕ) → All (λ written. written ≢ place) places
    → slice_index after.bytes place ≡ slice_index before.bytes place

-- what the writes of a state's step come to, in each case of the step
pub record WritesOfStep (s : State) : Type 0 where
  -- the next state is this one with the writes put into its bytes
  pub goes : (after : State) → next s ≡ Went after → after ≡ record s { bytes = bytes_after s.bytes (writes s) }
  -- a place that is not written keeps its byte
  pub others : (after : State) → next s ≡ Went after → KeepsOthers (places_written s) s after
  -- a guest call and a fault write nothing
  pub calls : next s ≡ Call → writes s ≡ []
  pub fails : (fault : Fault) → next s ≡ Faulted fault → writes s ≡ []

-- A step changes the bytes of its state by what it writes, and by nothing else.
abbrev pub StepWritesBytes : Type 0
StepWritesBytes = (s : State) → IsState s → WritesOfStep s

-- A step leads from a state to a state of the same shape.
abbrev pub StepsKeepStates : Type 0
StepsKeepStates = (s after : State) → IsState s → next s ≡ Went after → IsState after × (after.shape ≡ s.shape)

-- the places that a step reads and those that it writes are places of its state
pub record TouchesPlaces (s : State) : Type 0 where
  pub read : All (λ place. place < length s.bytes) (places_read s)
  pub written : All (λ place. place < length s.bytes) (places_written s)

-- A step reads and writes places of its state alone.
abbrev pub StepsTouchPlaces : Type 0
StepsTouchPlaces = (s : State) → IsState s → TouchesPlaces s

-- Plain steps that reach a state, and then plain steps of that state, are as many plain steps in one go.
abbrev pub PlainStepsJoin : Type 0
PlainStepsJoin = (m n : ℕ) (s between : State) → plain m s ≡ Went between → plain (m + n) s ≡ plain n between

-- Plain steps lead from a state to a state of the same shape.
abbrev pub PlainStepsKeepStates : Type 0
PlainStepsKeepStates = (n : ℕ) (s after : State) → IsState s → plain n s ≡ Went after
    → IsState after × (after.shape ≡ s.shape)

-- no word is for both rows
abbrev pub ShareNoWord : Row → Row → Type 0
ShareNoWord a b = (word : ℕ) → fits a.pattern word ≡ true → fits b.pattern word ≡ true → ⊥

-- No word is for two rows of a table, so its order is of no account.
abbrev pub RowsDiffer : Type 0
RowsDiffer = (version : Version) → AllPairs ShareNoWord (table version)

-- A word that fits a row of the table decodes to that row's instruction, and one that fits none to none.
pub record DecodesByRows (version : Version) : Type 0 where
  pub some : All (λ row. (word : ℕ) → fits row.pattern word ≡ true
      → decode version word ≡ Some (operands row.format row.op word)) (table version)
  pub none : (word : ℕ) → All (λ row. fits row.pattern word ≡ false) (table version) → decode version word ≡ None

abbrev pub DecodeIsTheTable : Type 0
DecodeIsTheTable = (version : Version) → DecodesByRows version

-- ---- registers

-- Two lists have the same places of the pc and of registers.
abbrev pub HaveSameRegisters : List ℕ → List ℕ → Type 0
HaveSameRegisters a b = (place : ℕ) → place < 128 → is_among place a ≡ is_among place b

pub record RegistersAlike (s t : State) : Type 0 where
  pub read : HaveSameRegisters (places_read s) (places_read t)
  pub written : HaveSameRegisters (places_written s) (places_written t)

-- Which registers a step reads and writes depends on its fetched word alone, where it goes on: it is the same in two
-- states of one version whose steps fetch the same word.
abbrev pub RegistersFollowWords : Type 0
RegistersFollowWords = (s t after other : State) → t.shape.version ≡ s.shape.version
    → fetch t.shape (view_of t) ≡ fetch s.shape (view_of s) → next s ≡ Went after → next t ≡ Went other
    → RegistersAlike s t

-- after k steps of a state its next step goes on, from this state
pub record GoesOnAfter (k : ℕ) (s now : State) : Type 0 where
  pub reached : plain k s ≡ Went now
  pub after : State
  pub goes : next now ≡ Went after

-- Of the pc and the registers the step after n steps of a state reads only what these read first or write. It writes only
-- what they write.
pub record TouchesNoNewRegister (n : ℕ) (s now : State) : Type 0 where
  pub read : (place : ℕ) → place < 128 → is_among place (places_read now) ≡ true
      → (is_among place (first_reads n s) || is_among place (written_in n s)) ≡ true
  pub written : (place : ℕ) → place < 128 → is_among place (places_written now) ≡ true
      → is_among place (written_in n s) ≡ true

-- A step carried out before in a trace, on the same word, touches no new register.
abbrev pub RepeatedWordsTouchNoNewRegister : Type 0
RepeatedWordsTouchNoNewRegister = (k n : ℕ) (s then now : State) → IsState s → k < n
    → GoesOnAfter k s then → GoesOnAfter n s now
    → fetch then.shape (view_of then) ≡ fetch now.shape (view_of now) → TouchesNoNewRegister n s now

-- ---- frames

-- each of these places has the same byte in both states
abbrev pub AgreeOn : List ℕ → State → State → Type 0
AgreeOn places s t = All (λ place. slice_index s.bytes place ≡ slice_index t.bytes place) places

-- After steps that lead from s to after and from t to other: these have the same bytes on the places written, and each
-- other place has the byte that it had before them.
pub record GoesAlike (written : List ℕ) (s after t other : State) : Type 0 where
  pub agree : AgreeOn written after other
  pub kept : KeepsOthers written s after
  pub other_kept : KeepsOthers written t other

-- one step of two states alike: the same places are read, and the same bytes are written at the same places
pub record StepsAlike (s t : State) : Type 0 where
  pub read : places_read t ≡ places_read s
  pub writes : writes t ≡ writes s
  pub goes : (after : State) → next s ≡ Went after
      → (other : State) × (next t ≡ Went other) × GoesAlike (places_written s) s after t other
  pub calls : next s ≡ Call → next t ≡ Call
  pub fails : (fault : Fault) → next s ≡ Faulted fault → next t ≡ Faulted fault

-- States of one shape that agree on the places that a step of one reads step alike.
abbrev pub OneStepFrame : Type 0
OneStepFrame = (s t : State) → IsState s → IsState t → t.shape ≡ s.shape → AgreeOn (places_read s) s t
    → StepsAlike s t

-- n steps of two states alike: the same places are read first, and the same are written
pub record PlainStepsAlike (n : ℕ) (s after t : State) : Type 0 where
  pub other : State
  pub goes : plain n t ≡ Went other
  pub alike : GoesAlike (written_in n s) s after t other
  pub read : first_reads n t ≡ first_reads n s
  pub written : written_in n t ≡ written_in n s

-- States of one shape that agree on the places that n steps of one read first take these steps alike.
abbrev pub ManyStepsFrame : Type 0
ManyStepsFrame = (n : ℕ) (s after t : State) → IsState s → IsState t → t.shape ≡ s.shape
    → plain n s ≡ Went after → AgreeOn (first_reads n s) s t → PlainStepsAlike n s after t

-- ---- entries and traces

-- The entry of steps of a state, at least 1, holds everywhere and is its own.
abbrev pub EntriesAreTrue : Type 0
EntriesAreTrue = (n : ℕ) (s : State) (e : Entry) → IsState s → 1 ≤ n → entry_of n s ≡ Some e → IsTrueEntry e

-- Two entries that each hold everywhere and are their own are joined into one that is so too.
abbrev pub JoinsAreTrue : Type 0
JoinsAreTrue = (a b e : Entry) → IsTrueEntry a → IsTrueEntry b → join_of a b ≡ Some e → IsTrueEntry e

-- A trace ends in at most one way: after one number of steps, for one reason.
abbrev pub ReachesAreOne : Type 0
ReachesAreOne = (bounds : Bounds) (start : State) (m n : ℕ) (why other : Why)
    → IsReach bounds start m why → IsReach bounds start n other → (m ≡ n) × (why ≡ other)

-- A trace that ends after n steps, by what a reach is, takes as many as are computed.
abbrev pub ReachesAreComputed : Type 0
ReachesAreComputed = (bounds : Bounds) (start : State) (n : ℕ) (why : Why) → IsReach bounds start n why
    → reach_of bounds start ≡ n
