-- The visits of a run by what is recognised, and the steps of which an address is chosen.
use Rattle.std.proofs.Common.{◌≡◌, ◌≤◌, ◌<◌, ◌+◌, ◌-◌, ℕ, Bool, true, false, ◌&&◌, nat_le, List, [], ◌∷◌, ◌++◌, length, length-append, slice_index_or, Option, Some, None, refl, sym, ap, ◌∙◌, subst, arith, add-one, inl, inr}
use Rattle.std.proofs.lemmas.Bool.{cases_lt}
use Rattle.std.proofs.lemmas.Bool.Decides.{nat_tests}
use Rattle.std.proofs.lemmas.List.{get_or_append_left, get_or-append-add}
use Rattle.asc_model.specs.State.{State}
use Rattle.asc_model.specs.Machine.{view_of}
use Rattle.asc_model.specs.Step.{Went}
use Rattle.asc_model.specs.Plain.{plain}
use Rattle.asc_calls.specs.GuestCall.{Device}
use Rattle.asc_calls.specs.World.{CallState, DeviceFaults, World, world}
use Rattle.asc_outside.specs.Outside.{Given}
use Rattle.asc_guess.specs.Choice.{chosen_address}
use Rattle.asc_run.specs.declared.recognised.Recognised.{Recognised}
use Rattle.asc_run.specs.declared.recognised.Recognised.TheVariants as recognised
use Rattle.asc_run.specs.declared.walk.Ended.{Ended}
use Rattle.asc_run.specs.Execution.{Progress, Position, On, Off, device_of}
use Rattle.asc_run.specs.Turn.{Turns, TurnFails}
use Rattle.asc_run.specs.Visits.{Course, Visit, IsVisitedFrom, HasNoVisit, goes_on_at, visit_rule, pair_at, profile_of}
use Rattle.asc_run.specs.Helped.{HasVisits}
use Rattle.asc_find.specs.Finder.{Aid}
use Rattle.asc_run.specs.Way.{Reaches, ComesUnvisited}
use Rattle.asc_run.specs.Walk.{GoesHelped, StopsAt}
use Rattle.asc_run.proofs.Reach.{IsOff, Leads, Reaches-first_position, Reaches-says, Reaches-steps, Follows-turn, StopsAt-fails}
use Rattle.asc_run.proofs.VisitRules.{goes_on_at-off}
use Rattle.asc_run.proofs.Landings.{Helped-none}

-- no count is below 0
none_below : (n : ℕ) → n ≡ 0 → (rule : ℕ → Bool) → HasNoVisit rule 0 n
none_below n none rule count _ below = absurd (let no : ⊥ = omega (arith, below, none) in no)

no_address : (p : Progress) → goes_on_at None p ≡ false
no_address (On position) = refl
no_address (Off count ended last) = refl

-- a program that has not begun has come nowhere, where no address is recognised, and where this one is
pub comes-nowhere : (limit : ℕ) (r : Recognised) (w : World) (n : ℕ) → r ≡ recognised.Nowhere → w.calls.ended ≡ false → w.calls.brk ≡ w.calls.low → n ≡ 0 → ComesUnvisited limit (visit_rule r) None w w n
comes-nowhere limit r w n is going brk none = rw is
    (Reaches-first_position (λ run. IsVisitedFrom limit n None (visit_rule recognised.Nowhere run) run) w n (λ run. record { none = none_below n none _; later = λ _ count _ _. sym (no_address (run count)) }) going brk none)

pub comes-at : (limit address : ℕ) (r : Recognised) (w : World) (n : ℕ) → r ≡ recognised.At address → w.calls.ended ≡ false → w.calls.brk ≡ w.calls.low → n ≡ 0 → ComesUnvisited limit (visit_rule r) (Some address) w w n
comes-at limit address r w n is going brk none = rw is
    (Reaches-first_position (λ run. IsVisitedFrom limit n (Some address) (visit_rule (recognised.At address) run) run) w n (λ run. record { none = none_below n none _; later = λ _ _ _ _. refl }) going brk none)

-- a count of which the address is noted is no visit
first_count : (profile least : ℕ) (run : Course) (visits : List Visit) (count : ℕ) → count < profile → visit_rule (recognised.Chosen profile least) run visits count ≡ false
first_count profile least run visits count below =
    let early : nat_le profile count ≡ false = grind (arith, nat_tests) in
    ap (λ b. b && goes_on_at (chosen_address (profile_of run profile) least) (run count)) early

no_and : (b c : Bool) → c ≡ false → (b && c) ≡ false
no_and true c is = is
no_and false c is = refl

-- where a run has ended there is no visit
ended_count : (profile least : ℕ) (run : Course) (visits : List Visit) (count : ℕ) → IsOff (run count) → visit_rule (recognised.Chosen profile least) run visits count ≡ false
ended_count profile least run visits count off = no_and (nat_le profile count) _ (goes_on_at-off (chosen_address (profile_of run profile) least) (run count) off)

-- one address more
profile_of-more : (run : Course) (n : ℕ) (r : Position) (s : State) → r.state ≡ s → run n ≡ On r → profile_of run (n + 1) ≡ profile_of run n ++ ((view_of s).pc, n) ∷ []
unfolding profile_of
profile_of-more run n r s is at =
    ap (profile_of run) (add-one n) ∙ ap (λ p. profile_of run n ++ pair_at n p) at ∙ ap (λ (t : State). profile_of run n ++ ((view_of t).pc, n) ∷ []) is

pub noted-more : (notes after : List (ℕ × ℕ)) (n pc : ℕ) (s : State) → after ≡ notes ++ (pc, n) ∷ [] → pc ≡ (view_of s).pc → Leads (λ run. notes ≡ profile_of run n) (λ run. after ≡ profile_of run (n + 1)) s n
noted-more notes after n pc s is pc_is run r same at so_far =
    is ∙ ap (λ l. l ++ (pc, n) ∷ []) so_far ∙ ap (λ p. profile_of run n ++ (p, n) ∷ []) pc_is ∙ sym (profile_of-more run n r s same at)

-- one address more is noted, and plain steps are taken that are counted
pub noted-plain : (notes after : List (ℕ × ℕ)) (pc : ℕ) (low high : ℕ) (start : State) (old : World) (s t : State) (calls calls' : CallState) (left : Option (List ℕ)) (out err : Given) (steps steps' : ℕ) (faults : DeviceFaults) (n n' : ℕ)
    → after ≡ notes ++ (pc, n) ∷ [] → pc ≡ (view_of s).pc → calls' ≡ calls → steps' ≡ steps + (n' - n) → n ≤ n' → plain (n' - n) s ≡ Went t
    → Reaches (λ run. notes ≡ profile_of run n) low high start old (world s calls left out err steps faults) n 0
    → Reaches (λ run. after ≡ profile_of run (n + 1)) low high start old (world t calls' left out err steps' faults) n' 0
noted-plain notes after pc low high start old s t calls calls' left out err steps steps' faults n n' is pc_is same counted grows goes way =
    let sum : n + (n' - n) ≡ n' = omega arith in
    let more = Reaches-says _ _ low high start old (world s calls left out err steps faults) n 0 way (noted-more notes after n pc s is pc_is) in
    rw (same, counted) (subst (λ m. Reaches (λ run. after ≡ profile_of run (n + 1)) low high start old (world t calls left out err (steps + (n' - n)) faults) m 0) sum
    (Reaches-steps _ low high start old s t calls left out err steps faults n (n' - n) 0 more goes))

-- so much is noted of as many counts
pub noted-counts : (after : List (ℕ × ℕ)) (low high : ℕ) (start : State) (old now : World) (m d : ℕ) → m ≡ d → Reaches (λ run. after ≡ profile_of run m) low high start old now d 0
    → Reaches (λ run. after ≡ profile_of run d) low high start old now d 0
noted-counts after low high start old now m d same way = subst (λ k. Reaches (λ run. after ≡ profile_of run k) low high start old now d 0) same way

-- nothing is noted of no count
pub noted-none : (w : World) (n : ℕ) (notes : List (ℕ × ℕ)) → notes ≡ [] → w.calls.ended ≡ false → w.calls.brk ≡ w.calls.low → n ≡ 0
    → Reaches (λ run. notes ≡ profile_of run n) w.calls.low w.calls.high w.state w w n 0
unfolding profile_of
noted-none w n notes is going brk none =
    Reaches-first_position (λ run. notes ≡ profile_of run n) w n (λ run. is ∙ ap (profile_of run) (sym none)) going brk none

-- each note has its count
abbrev pub AreNumbered : List (ℕ × ℕ) → Type 0
AreNumbered notes = (k : ℕ) (d : ℕ × ℕ) → k < length notes → (slice_index_or notes k d).1 ≡ k

pub numbered-none : (notes : List (ℕ × ℕ)) → notes ≡ [] → AreNumbered notes
numbered-none notes is k d below = absurd (let no : ⊥ = omega (arith, below, ap length is) in no)

pub numbered-more : (notes after : List (ℕ × ℕ)) (pc n : ℕ) → after ≡ notes ++ (pc, n) ∷ [] → length notes ≡ n → AreNumbered notes → AreNumbered after
numbered-more notes after pc n is long so_far = subst AreNumbered (sym is) (λ k d below. elim (cases_lt k (length notes)) [
  | inl x ↦ ap (λ p. p.1) (get_or_append_left notes ((pc, n) ∷ []) d k x) ∙ so_far k d x
  | inr x ↦
      let last : k ≡ length notes + 0 = omega (arith, length-more notes (pc, n), below) in
      ap (λ i. (slice_index_or (notes ++ (pc, n) ∷ []) i d).1) last ∙ ap (λ p. p.1) (get_or-append-add notes ((pc, n) ∷ []) 0 d) ∙ omega (arith, long, last)
])
  where
    length-more : (xs : List (ℕ × ℕ)) (x : ℕ × ℕ) → length (xs ++ x ∷ []) ≡ length xs + 1
    length-more xs x = length-append xs (x ∷ [])

pub long-more : (notes after : List (ℕ × ℕ)) (pair : ℕ × ℕ) (n m : ℕ) → after ≡ notes ++ pair ∷ [] → length notes ≡ n → m ≡ n + 1 → length after ≡ m
long-more notes after pair n m is long one = omega (arith, ap length is, length-append notes (pair ∷ []), long, one)

-- a turn that ends a program in its first counts
pub ends-early : (limit profile least : ℕ) (Q : Course → Type 0) (old now new : World) (n d : ℕ) (ended : Ended) (a : Aid) → n < limit → n < profile
    → Reaches Q old.calls.low old.calls.high old.state old now n 0
    → (device_of ended ≡ None → Turns now new n d (Some ended)) → ((device : Device) → device_of ended ≡ Some device → TurnFails now new device) → ((device : Device) → device_of ended ≡ Some device → d ≡ n)
    → GoesHelped limit (visit_rule (recognised.Chosen profile least)) old new a a d 0 ended
ends-early limit profile least Q old now new n d ended a below early way turn fails count = record {
  visits = [];
  helped = Helped-none a;
  goes = record {
    follows = λ h. Follows-turn Q _ limit old now new n d 0 ended way below (turn h) (λ run r e at off q. visits_none limit run (λ m _ l. elim (cases_lt m profile) [
      | inl x ↦ first_count profile least run [] m x
      | inr x ↦ ended_count profile least run [] m (off m (omega arith))
    ]));
    stops = λ device h.
        subst (λ x. StopsAt limit (HasVisits limit (visit_rule (recognised.Chosen profile least)) old.state [] a a (x + 1)) old new x 0 device) (sym (count device h))
        (StopsAt-fails Q _ limit old now new n 0 device way below (fails device h) (λ run _ _ _ q. visits_none (n + 1) run (λ m _ l. first_count profile least run [] m (omega arith))));
  };
}
  where
    visits_none : (to : ℕ) (run : Course) → HasNoVisit (visit_rule (recognised.Chosen profile least) run []) 0 to → HasVisits limit (visit_rule (recognised.Chosen profile least)) old.state [] a a to run
    visits_none to run marks = record { are = marks; serial = λ m told shape memory. (m, 0, told, refl, ((refl, refl), omega arith)) }
