-- The way to three visits one after another, and how it ends.
use Rattle.std.proofs.Common.{◌≡◌, ◌≤◌, ℕ, [], Option, Some, None, refl, sym, ◌∙◌, arith}
use Rattle.asc_model.specs.State.{State}
use Rattle.std.specs.Arc.{arc_value}
use Rattle.std.specs.Option.{IfSome, MatchOption}
use Rattle.std.proofs.lemmas.Option.{IfSome_then}
use Rattle.asc_model.specs.Shape.{Shape}
use Rattle.asc_model.specs.Reach.{Bounds}
use Rattle.asc_run.proofs.Few.{entry_of-shape}
use Rattle.asc_calls.specs.World.{Outside, World, world_in}
use Rattle.asc_guess.specs.declared.kind.Kind.{Kind}
use Rattle.asc_guess.specs.declared.kind.Kind.TheVariants as kinds
use Rattle.asc_guess.specs.Guess.{guess_of}
use Rattle.asc_words.specs.declared.line.RunLine.{RunLine}
use Rattle.asc_run.specs.declared.process.Process.{Process}
use Rattle.asc_run.specs.Walk.{HasNotBegun}
use Rattle.asc_inspect.specs.declared.answer.Answer.{Answer}
use Rattle.asc_inspect.specs.declared.answer.Answer.TheVariants as answers
use Rattle.asc_inspect.specs.declared.answer.Reached.TheVariants as reached
use Rattle.asc_inspect.specs.declared.request.Visit.{Visit}
use Rattle.asc_inspect.specs.declared.lap.Lap.{Lap}
use Rattle.asc_inspect.specs.Visited.{IsLap}
use Rattle.asc_inspect.specs.Missed.{EndsMisses, StopsShort}
use Rattle.asc_inspect.specs.Standing.{IsOnWay}
use Rattle.asc_inspect.proofs.Visits.{on-way-first}

-- a guess has the shape of the last state
pub guess-shape : (kind : Kind) (ahead : ℕ) (prev last : State) → (guess_of kind ahead prev last).shape ≡ last.shape
guess-shape kinds.Last ahead prev last = refl
guess-shape kinds.Stride ahead prev last = refl

-- an entry has the shape of the state that was traced
pub lap-shape : (bounds : Bounds) (s : State) (lap : Lap) (shape : Shape) → IsLap bounds s lap → s.shape ≡ shape → IfSome lap.entry (λ entry. (arc_value entry).shape ≡ shape)
lap-shape bounds s lap shape is same = IfSome_then lap.entry (if-there lap.entry (is.steps ≡ 0) _ is.entry) (λ entry has. (entry_of-shape is.steps s (arc_value entry) has.1).0 ∙ same)
  where
    if-there : {X : Type 0} (o : Option X) (P : Type 0) (Q : X → Type 0) → MatchOption o P Q → IfSome o Q
    if-there (Some x) P Q h = h
    if-there None P Q h = tt

-- a program that has not begun is on its way
pub first-way : (address : ℕ) (process : Process) (o : Outside) → HasNotBegun process.count process.calls
    → IsOnWay address 0 [] (world_in process.state process.calls o) (world_in process.state process.calls o) process.count
first-way address process o start = on-way-first address (world_in process.state process.calls o) process.count 0 start.going start.brk start.none refl

-- it stopped short of that visit, and so of a later one
pub stops-earlier : (limit : ℕ) (at visit : Visit) (start now : World) (count : ℕ) (answer : Answer) → at.pc ≡ visit.pc → at.number ≤ visit.number
    → StopsShort limit at start now count answer → StopsShort limit visit start now count answer
stops-earlier limit at visit start now count (answers.Ended ended (reached.Visits visits)) same most short =
    ((let before = short.0 in omega (arith, before, most)), rw (sym same) short.1)
stops-earlier limit at visit start now count answers.Memory same most short = tt
stops-earlier limit at visit start now count (answers.Ended ended (reached.Steps steps)) same most short = absurd short
stops-earlier limit at visit start now count (answers.Image fault) same most short = absurd short
stops-earlier limit at visit start now count answers.Shown same most short = absurd short
stops-earlier limit at visit start now count answers.NoStep same most short = absurd short
stops-earlier limit at visit start now count answers.Usage same most short = absurd short
stops-earlier limit at visit start now count answers.TooLong same most short = absurd short
stops-earlier limit at visit start now count answers.StoreFault same most short = absurd short
stops-earlier limit at visit start now count answers.OutFault same most short = absurd short

-- it stopped short, and that is the answer
pub ends-short : (line : RunLine) (visit : Visit) (start now : World) (count : ℕ) (answer : Answer) → StopsShort line.limit visit start now count answer
    → EndsMisses line visit start now.left now.steps answer
ends-short line visit start now count (answers.Ended ended (reached.Visits visits)) short =
    record { now = now; count = count; before = short.0; ends = short.1; same_left = refl; same_steps = refl }
ends-short line visit start now count answers.Memory short = tt
ends-short line visit start now count (answers.Ended ended (reached.Steps steps)) short = absurd short
ends-short line visit start now count (answers.Image fault) short = absurd short
ends-short line visit start now count answers.Shown short = absurd short
ends-short line visit start now count answers.NoStep short = absurd short
ends-short line visit start now count answers.Usage short = absurd short
ends-short line visit start now count answers.TooLong short = absurd short
ends-short line visit start now count answers.StoreFault short = absurd short
ends-short line visit start now count answers.OutFault short = absurd short
