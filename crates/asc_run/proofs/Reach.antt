-- How far a program has come: the start, one turn more, and the end.
use Rattle.std.proofs.Common.{◌≡◌, ℕ, zero, suc, ◌+◌, ◌-◌, ◌<◌, ◌≤◌, List, ◌++◌, Option, Some, None, false, refl, sym, ap, ◌∙◌, subst, arith, add-one, zero-add, suc-add}
use Rattle.std.proofs.lemmas.List.{append_assoc}
use Rattle.asc_model.specs.State.{State}
use Rattle.asc_model.specs.Step.{Went}
use Rattle.asc_model.specs.Plain.{plain}
use Rattle.asc_model.proofs.PlainSteps.{plain-none, plain-last}
use Rattle.asc_outside.specs.Outside.{Given, given_after}
use Rattle.asc_outside.proofs.Streams.{given_after-nil, given_after-given_after, Takes-nil, Takes-append}
use Rattle.asc_calls.specs.GuestCall.{Io, nothing, then_io, Device, guest_call}
use Rattle.asc_calls.specs.World.{CallState, DeviceFaults, Outside, World, world, DoesIo, MayCome, KnowsEnd}
use Rattle.asc_calls.specs.Serving.{IsCutShort}
use Rattle.asc_run.specs.declared.walk.Ended.{Ended}
use Rattle.asc_run.specs.declared.walk.Ended.TheVariants.{Limit}
use Rattle.asc_run.specs.Execution.{Position, Progress, On, Off, next_progress, progress, progress_after_step, run_of, first_position, exec}
use Rattle.asc_run.specs.Turn.{position_in, IsAt, Turns, TurnFails}
use Rattle.asc_run.specs.Visits.{Course}
use Rattle.asc_run.specs.Walk.{Follows, StopsAt}
use Rattle.asc_run.specs.Way.{Reaches}
use Rattle.asc_run.proofs.Shapes.{plain-shape}
use Rattle.asc_run.proofs.Growth.{begins_at_call}

-- devices that stay took and were given nothing
pub DoesIo-nothing : (o : Outside) → DoesIo o o nothing
DoesIo-nothing o = record { taken = Takes-nil o.left; out = sym (given_after-nil o.out); err = sym (given_after-nil o.err) }

-- one io after another
pub DoesIo-then_io : (a b c : Outside) (x y : Io) → DoesIo a b x → DoesIo b c y → DoesIo a c (then_io x y)
DoesIo-then_io a b c x y p q = record {
  taken = Takes-append a.left b.left c.left x.taken y.taken p.taken q.taken;
  out = q.out ∙ ap (λ g. given_after g y.out) p.out ∙ given_after-given_after a.out x.out y.out;
  err = q.err ∙ ap (λ g. given_after g y.err) p.err ∙ given_after-given_after a.err x.err y.err;
}

-- where a run goes on at a count in a state, Q gives Q'
abbrev pub Leads : (Q Q' : Course → Type 0) → State → (n : ℕ) → Type 0
Leads Q Q' s n = (run : Course) (r : Position) → r.state ≡ s → run n ≡ On r → Q run → Q' run

-- the same, where the run goes on as plain steps from that state do
abbrev pub LeadsAlong : (Q Q' : Course → Type 0) → State → (n : ℕ) → Type 0
LeadsAlong Q Q' s n = (run : Course) (r : Position) → r.state ≡ s → run n ≡ On r → ((k : ℕ) (after : State) → plain k s ≡ Went after → run (n + k) ≡ On (record r { state = after })) → Q run → Q' run

-- the same, where the run has ended one step later
abbrev pub IsOff : Progress → Type 0
IsOff (On position) = ⊥
IsOff (Off count ended last) = Unit {0}

abbrev pub LeadsToEnd : (Q Q' : Course → Type 0) → State → (n : ℕ) → Type 0
LeadsToEnd Q Q' s n = (run : Course) (r : Position) → r.state ≡ s → run n ≡ On r → ((m : ℕ) → n < m → IsOff (run m)) → Q run → Q' run

-- a program that has not begun
pub Reaches-start : (Q : Course → Type 0) (w : World) → ((run : Course) → Q run) → KnowsEnd w → w.calls.brk ≡ w.calls.low → Reaches Q w.calls.low w.calls.high w.state w w 0 0
unfolding progress
Reaches-start Q w says known brk = record {
  io = nothing;
  does = DoesIo-nothing w.outside;
  run = λ rest _. ap (λ b. On (record { state = w.state; brk = b; left = rest; io = nothing })) (sym brk);
  says = λ rest _. says _;
  known = known;
  same_low = refl;
  same_high = refl;
  shape = refl;
  steps = omega arith;
}

-- one step more
progress-next_progress : (low high n m : ℕ) (r : Position) (p : Progress) → m ≡ n + 1 → progress low high r n ≡ p → progress low high r m ≡ next_progress low high n p
unfolding progress
progress-next_progress low high n m r p e h = rw (e, add-one) (ap (λ q. next_progress low high n q) h)

-- what is taken first comes first
first_position-then_io : (low : ℕ) (start : State) (x y : Io) (rest : List ℕ) → first_position start low ((then_io x y).taken ++ rest) ≡ first_position start low (x.taken ++ (y.taken ++ rest))
first_position-then_io low start x y rest = ap (λ left. first_position start low left) (append_assoc x.taken y.taken rest)

-- one turn more, from where a program has come: plain execution comes to where the turn does
progress-turn : (Q : Course → Type 0) (low high : ℕ) (start : State) (old now new : World) (n m d k : ℕ) (ended : Option Ended) (r : Reaches Q low high start old now n k) (t : Turns now new n d ended)
    → m ≡ n + 1 → (rest : List ℕ) → MayCome new rest
    → IsAt ended d (position_in new rest (then_io r.io t.io)) (progress low high (first_position start low ((then_io r.io t.io).taken ++ rest)) m)
progress-turn Q low high start old now new n m d k ended r t e rest may =
    let before = progress-next_progress low high n m (first_position start low (r.io.taken ++ (t.io.taken ++ rest))) _ e (r.run (t.io.taken ++ rest) (t.came rest may)) in
    let same : progress low high (first_position start low ((then_io r.io t.io).taken ++ rest)) m ≡ next_progress now.calls.low now.calls.high n (On (position_in now (t.io.taken ++ rest) r.io)) =
    rw (first_position-then_io low start r.io t.io rest, r.same_low, r.same_high) before in
    subst (λ p. IsAt ended d (position_in new rest (then_io r.io t.io)) p) (sym same) (t.turn r.io rest may)

-- a turn after which the program goes on
pub Reaches-turn : (Q : Course → Type 0) (low high : ℕ) (start : State) (old now new : World) (n d k : ℕ) → Reaches Q low high start old now n k → Turns now new n d None
    → Reaches Q low high start old new d k
Reaches-turn Q low high start old now new n d k r t = record {
  io = then_io r.io t.io;
  does = DoesIo-then_io old.outside now.outside new.outside r.io t.io r.does t.does;
  run = λ rest may. progress-turn Q low high start old now new n d d k None r t (t.one refl) rest may;
  says = λ rest may. subst (λ p. Q (progress low high p)) (sym (first_position-then_io low start r.io t.io rest)) (r.says (t.io.taken ++ rest) (t.came rest may));
  known = t.known r.known;
  same_low = t.low ∙ r.same_low;
  same_high = t.high ∙ r.same_high;
  shape = t.shape ∙ r.shape;
  steps = omega (arith, t.one refl, t.steps, r.steps);
}

-- more that holds of the run
pub Reaches-says : (Q Q' : Course → Type 0) (low high : ℕ) (start : State) (old now : World) (n k : ℕ) → Reaches Q low high start old now n k → Leads Q Q' now.state n → Reaches Q' low high start old now n k
Reaches-says Q Q' low high start old now n k r more = record {
  io = r.io;
  does = r.does;
  run = r.run;
  says = λ rest may. more _ _ refl (r.run rest may) (r.says rest may);
  known = r.known;
  same_low = r.same_low;
  same_high = r.same_high;
  shape = r.shape;
  steps = r.steps;
}

-- a jump of m plain steps
progress-jump : (low high : ℕ) (start : Position) (n m : ℕ) (r : Position) (after : State) → progress low high start n ≡ On r → plain m r.state ≡ Went after
    → progress low high start (m + n) ≡ On (record r { state = after })
unfolding progress
progress-jump low high start n zero r after at h =
    rw zero-add (at ∙ ap (λ s. On (record r { state = s })) (plain-none r.state after h))
progress-jump low high start n (suc m) r after at h =
    let last = plain-last m r.state after h in
    rw suc-add (ap (next_progress low high (m + n)) (progress-jump low high start n m r last.0 at last.1)
    ∙ ap (progress_after_step low high (m + n) (record r { state = last.0 })) last.2)

-- more that holds of the run, as plain steps go on from here
pub Reaches-along : (Q Q' : Course → Type 0) (low high : ℕ) (start : State) (old now : World) (n k : ℕ) → Reaches Q low high start old now n k → LeadsAlong Q Q' now.state n → Reaches Q' low high start old now n k
Reaches-along Q Q' low high start old now n k r more = record {
  io = r.io;
  does = r.does;
  run = r.run;
  says = λ rest may. more _ _ refl (r.run rest may) (λ j after h.
      let sum : n + j ≡ j + n = omega arith in
      ap (progress low high (first_position start low (r.io.taken ++ rest))) sum
      ∙ progress-jump low high (first_position start low (r.io.taken ++ rest)) n j _ after (r.run rest may) h) (r.says rest may);
  known = r.known;
  same_low = r.same_low;
  same_high = r.same_high;
  shape = r.shape;
  steps = r.steps;
}

pub Reaches-jump : (Q Q' : Course → Type 0) (low high : ℕ) (start : State) (old : World) (s t : State) (calls : CallState) (left : Option (List ℕ)) (out err : Given) (steps : ℕ) (faults : DeviceFaults) (n m k : ℕ)
    → Reaches Q low high start old (world s calls left out err steps faults) n k → plain m s ≡ Went t → Leads Q Q' s n
    → Reaches Q' low high start old (world t calls left out err steps faults) (n + m) (k + m)
Reaches-jump Q Q' low high start old s t calls left out err steps faults n m k r h more = record {
  io = r.io;
  does = record { taken = r.does.taken; out = r.does.out; err = r.does.err };
  run = λ rest may.
      let sum : n + m ≡ m + n = omega arith in
      ap (progress low high (first_position start low (r.io.taken ++ rest))) sum
      ∙ progress-jump low high (first_position start low (r.io.taken ++ rest)) n m _ t (r.run rest may) h;
  says = λ rest may. more _ _ refl (r.run rest may) (r.says rest may);
  known = r.known;
  same_low = r.same_low;
  same_high = r.same_high;
  shape = plain-shape m s t h ∙ r.shape;
  steps = omega (arith, r.steps);
}

-- m plain steps, which are counted
pub Reaches-steps : (Q : Course → Type 0) (low high : ℕ) (start : State) (old : World) (s t : State) (calls : CallState) (left : Option (List ℕ)) (out err : Given) (steps : ℕ) (faults : DeviceFaults) (n m k : ℕ)
    → Reaches Q low high start old (world s calls left out err steps faults) n k → plain m s ≡ Went t
    → Reaches Q low high start old (world t calls left out err (steps + m) faults) (n + m) k
Reaches-steps Q low high start old s t calls left out err steps faults n m k r h = record {
  io = r.io;
  does = record { taken = r.does.taken; out = r.does.out; err = r.does.err };
  run = λ rest may.
      let sum : n + m ≡ m + n = omega arith in
      ap (progress low high (first_position start low (r.io.taken ++ rest))) sum
      ∙ progress-jump low high (first_position start low (r.io.taken ++ rest)) n m _ t (r.run rest may) h;
  says = r.says;
  known = r.known;
  same_low = r.same_low;
  same_high = r.same_high;
  shape = plain-shape m s t h ∙ r.shape;
  steps = omega (arith, r.steps);
}

-- a run that has ended stays so
progress-off : (low high : ℕ) (r : Position) (n k count : ℕ) (ended : Ended) (last : Position) → progress low high r n ≡ Off count ended last → progress low high r (k + n) ≡ Off count ended last
unfolding progress
progress-off low high r n zero count ended last h = rw zero-add h
progress-off low high r n (suc k) count ended last h = rw suc-add (ap (λ q. next_progress low high (k + n) q) (progress-off low high r n k count ended last h))

progress-later : (low high : ℕ) (r : Position) (n m count : ℕ) (ended : Ended) (last : Position) → n ≤ m → progress low high r n ≡ Off count ended last → progress low high r m ≡ Off count ended last
progress-later low high r n m count ended last le h =
    let e : m ≡ (m - n) + n = omega arith in
    rw e (progress-off low high r n (m - n) count ended last h)

-- the run of an ended program
run_of-IsAt : (limit count : ℕ) (r : Position) (p : Progress) (ended : Ended) → IsAt (Some ended) count r p → run_of limit p ≡ record { ended = ended; count = count; io = r.io }
run_of-IsAt limit count r p ended h =
    ap (λ q. run_of limit q) h.1 ∙ ap (λ a. record { ended = ended; count = count; io = a }) h.2

-- a run that has ended after n steps is not going on later
later-off : (low high : ℕ) (r : Position) (n m count : ℕ) (ended : Ended) (last : Position) → n ≤ m → progress low high r n ≡ Off count ended last → IsOff (progress low high r m)
later-off low high r n m count ended last le h = subst IsOff (sym (progress-later low high r n m count ended last le h)) tt

-- a turn that ends the program below its limit
pub Follows-turn : (Q Q' : Course → Type 0) (limit : ℕ) (old now new : World) (n d k : ℕ) (ended : Ended) → Reaches Q old.calls.low old.calls.high old.state old now n k → n < limit → Turns now new n d (Some ended) → LeadsToEnd Q Q' now.state n
    → Follows limit Q' old new d k ended
unfolding exec
Follows-turn Q Q' limit old now new n d k ended r below t more = record {
  io = then_io r.io t.io;
  does = DoesIo-then_io old.outside now.outside new.outside r.io t.io r.does t.does;
  run = λ rest may.
      let at = progress-turn Q old.calls.low old.calls.high old.state old now new n (n + 1) d k (Some ended) r t refl rest may in
      run_of-IsAt limit d (position_in new rest (then_io r.io t.io)) _ ended
      (at.0, progress-later old.calls.low old.calls.high _ (n + 1) limit d ended at.0 (omega arith) at.1, at.2);
  says = λ rest may.
      let at = progress-turn Q old.calls.low old.calls.high old.state old now new n (n + 1) d k (Some ended) r t refl rest may in
      let first = first_position-then_io old.calls.low old.state r.io t.io rest in
      subst (λ p. Q' (progress old.calls.low old.calls.high p)) (sym first)
      (more _ _ refl (r.run (t.io.taken ++ rest) (t.came rest may))
      (λ m le. later-off old.calls.low old.calls.high _ (n + 1) m d ended at.0 (omega arith)
      (ap (λ p. progress old.calls.low old.calls.high p (n + 1)) (sym first) ∙ at.1))
      (r.says (t.io.taken ++ rest) (t.came rest may)));
  known = t.known r.known;
  steps = omega (arith, t.steps, r.steps);
}

-- a program that goes on at its limit
pub Follows-limit : (Q Q' : Course → Type 0) (limit : ℕ) (old now : World) (n k : ℕ) → Reaches Q old.calls.low old.calls.high old.state old now n k → n ≡ limit → ((run : Course) → Q run → Q' run)
    → Follows limit Q' old now n k Limit
unfolding exec
Follows-limit Q Q' limit old now n k r e more = record {
  io = r.io;
  does = r.does;
  run = λ rest may.
      ap (λ m. exec m old.calls.low old.calls.high old.state (r.io.taken ++ rest)) (sym e)
      ∙ ap (λ p. run_of n p) (r.run rest may);
  says = λ rest may. more _ (r.says rest may);
  known = r.known;
  steps = r.steps;
}

-- a program that has not begun, and has found no end of its input
pub Reaches-first_position : (Q : Course → Type 0) (w : World) (n : ℕ) → ((run : Course) → Q run) → w.calls.ended ≡ false → w.calls.brk ≡ w.calls.low → n ≡ 0 → Reaches Q w.calls.low w.calls.high w.state w w n 0
Reaches-first_position Q w n says going brk none = rw none (Reaches-start Q w says (λ known. absurd (cc)) brk)

-- a program that goes on below its limit until a device fails in a call, which counts no step
pub StopsAt-fails : (Q Q' : Course → Type 0) (limit : ℕ) (old now new : World) (n k : ℕ) (device : Device) → Reaches Q old.calls.low old.calls.high old.state old now n k → n < limit → TurnFails now new device → Leads Q Q' now.state n
    → StopsAt limit Q' old new n k device
unfolding exec
StopsAt-fails Q Q' limit old now new n k device r below t more =
    let cut : (rest : List ℕ) → MayCome new rest → IsCutShort device t.done (guest_call old.calls.low old.calls.high now.state now.calls.brk (t.done.taken ++ rest)) = λ rest may.
    subst (λ low. IsCutShort device t.done (guest_call low old.calls.high now.state now.calls.brk (t.done.taken ++ rest))) r.same_low
    (subst (λ high. IsCutShort device t.done (guest_call now.calls.low high now.state now.calls.brk (t.done.taken ++ rest))) r.same_high (t.call rest may)) in
    record {
      below = below;
      io = r.io;
      done = t.done;
      does = DoesIo-then_io old.outside now.outside new.outside r.io t.done r.does t.does;
      run = λ rest may. ap (λ p. run_of n p) (r.run (t.done.taken ++ rest) (t.came rest may));
      says = λ rest may. more _ _ refl (r.run (t.done.taken ++ rest) (t.came rest may)) (r.says (t.done.taken ++ rest) (t.came rest may));
      call = λ rest may. record {
        position = position_in now (t.done.taken ++ rest) r.io;
        stands = r.run (t.done.taken ++ rest) (t.came rest may);
        asks = t.asks;
        call = cut rest may;
      };
      begins = λ rest may. begins_at_call old.calls.low old.calls.high (first_position old.state old.calls.low (r.io.taken ++ (t.done.taken ++ rest))) n limit below
          (position_in now (t.done.taken ++ rest) r.io) (r.run (t.done.taken ++ rest) (t.came rest may)) t.asks device t.done (cut rest may);
      known = t.known r.known;
      steps = omega (arith, t.steps, r.steps);
    }
