-- One attempt at a step of a tracer.
use Rattle.std.proofs.Common.{◌≡◌, ℕ, ◌-◌, ◌≤◌, Bool, true, false, if◌then◌else◌, List, [], length, take, Option, Some, None, IsSome, refl, sym, ap, arith}
use Rattle.std.proofs.lemmas.Bool.{false≢true}
use Rattle.std.proofs.lemmas.List.{length-take}
use Rattle.std.proofs.lemmas.Bool.Decides.{nat_tests}
use Rattle.asc_model.specs.declared.limits.TheConstants.{STEP_ROOM}
use Rattle.asc_model.specs.declared.status.Status.{Status}
use Rattle.asc_model.specs.declared.why.Why.{Why}
use Rattle.asc_model.specs.State.{State, IsState}
use Rattle.asc_model.specs.Step.{Next, Went, Call, Faulted, next}
use Rattle.asc_model.specs.Places.{places_read, writes}
use Rattle.asc_model.specs.Reach.{why_no_step}
use Rattle.asc_model.proofs.LawsHold.{step_writes_bytes}
use Rattle.asc_model.proofs.Shapes.{is_same_shape-same}
use Rattle.asc_shape.specs.Face.{Face, Marks, Untold, Told, room_of, face_after_reads, face_after_puts}
use Rattle.asc_step.specs.Step.{face_after, stepped_of}
use Rattle.asc_depvec.specs.Tracer.{IsTracing, Tracing, face_of, undone, touched_of}
use Rattle.asc_depvec.proofs.Limits.{limits_stay}
use Rattle.asc_depvec.proofs.UndoneReads.{reads_are_undone}
use Rattle.asc_traj.specs.Inside.{why_of}

abbrev statuses_of : Marks → List Status
statuses_of Untold = []
statuses_of (Told cap statuses touched) = statuses

-- a tracer is known from its shape, its cap and its face
pub same_tracing : (a b : Tracing) → a.shape ≡ b.shape → a.cap ≡ b.cap → face_of a ≡ face_of b → a ≡ b
same_tracing a b shape cap face =
    let statuses : a.statuses ≡ b.statuses = ap (λ (f : Face). statuses_of f.marks) face in
    let touched : a.touched ≡ b.touched = ap (λ (f : Face). touched_of f.marks) face in
    λ i. record { shape = shape i; cap = cap i; state = (face i).state; statuses = statuses i; touched = touched i }

-- an attempt keeps shape and cap
pub limits-step : (t later : Tracing) → STEP_ROOM ≤ room_of (face_of t).marks → face_of later ≡ face_after (face_of t) → (later.shape ≡ t.shape) × (later.cap ≡ t.cap)
limits-step t later room face = limits_stay t later (places_read t.state) (writes t.state) (omega (arith, room)) face

none_touched : (f : Face) → face_after_puts (face_after_reads f []) [] ≡ f
unfolding face_after_puts face_after_reads
none_touched f = refl

-- a tracer of which code sees the same is the same
pub unchanged : (t later : Tracing) → STEP_ROOM ≤ room_of (face_of t).marks → face_of later ≡ face_of t → later ≡ t
unchanged t later room face = grind (arith, nat_tests, limits_stay, none_touched, same_tracing)

no_puts : (f : Face) (cells : List (ℕ × ℕ)) → cells ≡ [] → face_after_puts f cells ≡ f
unfolding face_after_puts
no_puts f cells e = ap (face_after_puts f) e

-- an attempt that ends writes nothing
no_writes : (s : State) → IsState s → IsSome (why_no_step (next s)) → writes s ≡ []
no_writes s good ends = by_next (next s) refl ends
  where
    by_next : (n : Next) → next s ≡ n → IsSome (why_no_step n) → writes s ≡ []
    by_next (Went after) e ends = absurd (cc)
    by_next Call e ends = (step_writes_bytes s good).calls e
    by_next (Faulted fault) e ends = (step_writes_bytes s good).fails fault e

-- and its reads are taken back
pub back-face : (t later : Tracing) → IsState t.state → IsSome (why_no_step (next t.state)) → face_of later ≡ face_after (face_of t)
    → face_of (undone later (length t.touched)) ≡ face_of t
back-face t later good ends face = grind (arith, nat_tests, no_puts, no_writes, reads_are_undone)

-- no fewer places are touched after it
pub back-count : (t later : Tracing) → IsState t.state → IsSome (why_no_step (next t.state)) → face_of later ≡ face_after (face_of t) → length t.touched ≤ length later.touched
back-count t later good ends face =
    let back : take (length t.touched) later.touched ≡ t.touched = ap (λ (f : Face). touched_of f.marks) (back-face t later good ends face) in
    let size : length (take (length t.touched) later.touched) ≡ length t.touched = ap (λ (list : List (ℕ × ℕ)). length list) back in
    omega (arith, size, length-take (length t.touched) later.touched)

-- the room of a tracer
pub room-told : (t : Tracing) → IsTracing t → room_of (face_of t).marks ≡ t.cap - length t.touched
room-told t is = ap (λ (b : Bool). (if b then t.cap else 0) - length t.touched) (is_same_shape-same t.state.shape t.shape is.same)

-- what an answer says of the next step
pub why_of-stepped : (n : Next) → why_of (stepped_of n) ≡ why_no_step n
why_of-stepped (Went after) = refl
why_of-stepped Call = refl
why_of-stepped (Faulted fault) = refl

-- an answer and a reason, where the answer is no, by what the answer is
pub went_on : (answer : Bool) (why : Why) (o : Option Why) → (if answer then None else Some why) ≡ o → answer ≡ true → None ≡ o
went_on true why o e is = e
went_on false why o e is = absurd (false≢true is)

pub ended : (answer : Bool) (why : Why) (o : Option Why) → (if answer then None else Some why) ≡ o → answer ≡ false → Some why ≡ o
ended true why o e is = absurd (false≢true (sym is))
ended false why o e is = grind (arith, nat_tests)
