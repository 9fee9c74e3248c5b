-- What is noted of a program on its way: the start, one count more, one turn more, and the end.
use Rattle.std.proofs.Common.{◌≡◌, inl, inr, ℕ, zero, suc, ◌+◌, ◌-◌, ◌*◌, ◌<◌, ◌≤◌, ◌==◌, min, nat_lt, nat_le, Bool, true, false, if◌then◌else◌, List, [], ◌∷◌, ◌++◌, length, slice_index_or, Option, Some, None, refl, sym, ap, ◌∙◌, subst, arith, add-one}
use Rattle.std.proofs.lemmas.Bool.{cases_lt}
use Rattle.std.proofs.lemmas.Bool.Decides.{nat_tests}
use Rattle.std.proofs.lemmas.List.{append-nil, length_push}
use Rattle.asc_model.specs.State.{State}
use Rattle.asc_model.specs.Machine.{view_of}
use Rattle.asc_model.specs.Step.{Went, next}
use Rattle.asc_model.specs.Plain.{plain}
use Rattle.asc_model.proofs.PlainSteps.{plain-first, plain-none}
use Rattle.asc_outside.specs.Outside.{Given}
use Rattle.asc_calls.specs.GuestCall.{Device, nothing}
use Rattle.asc_calls.specs.World.{CallState, DeviceFaults, World, world}
use Rattle.asc_run.specs.declared.walk.Ended.{Ended}
use Rattle.asc_run.specs.declared.walk.Ended.TheVariants.{Limit}
use Rattle.asc_run.specs.Execution.{Progress, Position, On, Off, device_of, progress_after_step}
use Rattle.asc_run.specs.Turn.{Turns, TurnFails}
use Rattle.asc_run.specs.Visits.{Course, goes_on_at, pair_at, profile_of}
use Rattle.asc_run.specs.Way.{Reaches}
use Rattle.asc_run.specs.Walk.{Goes, HasNotBegun, StopsAt}
use Rattle.asc_run.proofs.Growth.{then_io-nothing}
use Rattle.asc_run.proofs.Shapes.{next-shape}
use Rattle.asc_run.proofs.VisitRules.{goes_on_at-on, goes_on_at-off}
use Rattle.asc_run.proofs.Profiled.{AreNumbered, noted-more, numbered-more}
use Rattle.asc_run.proofs.Reach.{DoesIo-nothing, IsOff, Leads, Reaches-first_position, Reaches-turn, Reaches-says, Follows-turn, Follows-limit, StopsAt-fails}
use Rattle.asc_inspect.specs.declared.meetings.Meetings.{Meetings}
use Rattle.asc_inspect.specs.Profile.{IsNoted, comes_back, leads_back, meetings, met_again, no_meetings}
use Rattle.asc_inspect.proofs.Noted.{meetings-more, meetings-none, meetings-off}

-- ---- a turn that is a step

next-once : (s t : State) → plain 1 s ≡ Went t → next s ≡ Went t
next-once s t h =
    let first = plain-first 0 s t h in
    first.1 ∙ ap Went (plain-none first.0 t first.2)

pub Turns-step : (s t : State) (calls calls' : CallState) (left : Option (List ℕ)) (out err : Given) (steps steps' : ℕ) (faults : DeviceFaults) (n n' : ℕ) → calls' ≡ calls → steps' ≡ steps + (n' - n) → n' ≡ n + 1
    → plain (n' - n) s ≡ Went t → Turns (world s calls left out err steps faults) (world t calls' left out err steps' faults) n n' None
Turns-step s t calls calls' left out err steps steps' faults n n' same counted one goes =
    let once : n' - n ≡ 1 = omega (arith, one) in
    let step : next s ≡ Went t = next-once s t (ap (λ k. plain k s) (sym once) ∙ goes) in
    let devices = DoesIo-nothing (world s calls left out err steps faults).outside in
    rw same (record {
      io = nothing;
      does = record { taken = devices.taken; out = devices.out; err = devices.err };
      turn = λ first rest may. ap (progress_after_step calls.low calls.high n (record { state = s; brk = calls.brk; left = rest; io = first })) step
          ∙ ap (λ io. On (record { state = t; brk = calls.brk; left = rest; io = io })) (sym (then_io-nothing first));
      came = λ rest may. may;
      known = λ known. known;
      low = refl;
      high = refl;
      shape = next-shape s t step;
      steps = omega (arith, counted, one);
      most = omega (arith, one);
      one = λ _. one;
    })

module _ (s t : State) (calls calls' : CallState) (left : Option (List ℕ)) (out err : Given) (steps steps' : ℕ) (faults : DeviceFaults) (n n' : ℕ)
    (none : n' ≡ n) (same : calls' ≡ calls) (counted : steps' ≡ steps + (n' - n)) (goes : plain (n' - n) s ≡ Went t) where
  -- where no step was taken all is as it was
  still : world t calls' left out err steps' faults ≡ world s calls left out err steps faults
  still =
      let no : n' - n ≡ 0 = omega (arith, none) in
      let same_steps : steps' ≡ steps = omega (arith, counted, none) in
      let same_state : t ≡ s = sym (plain-none s t (ap (λ k. plain k s) (sym no) ∙ goes)) in
      ap (λ x. world x calls' left out err steps' faults) same_state ∙ ap (λ x. world s x left out err steps' faults) same
      ∙ ap (λ x. world s calls left out err x faults) same_steps

  pub Turns-still : (new : World) (d : ℕ) (ended : Option Ended) → Turns (world t calls' left out err steps' faults) new n' d ended → Turns (world s calls left out err steps faults) new n d ended
  Turns-still new d ended turn = subst (λ k. Turns (world s calls left out err steps faults) new k d ended) none (subst (λ w. Turns w new n' d ended) still turn)

  pub TurnFails-still : (new : World) (device : Device) → TurnFails (world t calls' left out err steps' faults) new device → TurnFails (world s calls left out err steps faults) new device
  TurnFails-still new device fails = subst (λ w. TurnFails w new device) still fails

-- ---- what is noted

-- what is noted of the counts below this one, and whether the run came here from no lower address
pub record IsWatched (base profile : ℕ) (table : List Meetings) (list : List (ℕ × ℕ)) (back : Bool) (n : ℕ) (run : Course) : Type 0 where
  pub noted : IsNoted base profile table list n run
  pub came : back ≡ comes_back run n

-- whether a run goes on at no higher address than this one
abbrev pub falls_to : ℕ → Progress → Bool
falls_to pc (On later) = nat_le (view_of later.state).pc pc
falls_to pc (Off count ended last) = false

-- what is noted of this count too, at which the run stands at pc
pub record IsLeft (base profile : ℕ) (table : List Meetings) (list : List (ℕ × ℕ)) (pc n : ℕ) (run : Course) : Type 0 where
  pub noted : IsNoted base profile table list (n + 1) run
  pub leads : (later : Progress) → leads_back (run n) later ≡ falls_to pc later

-- no count is noted yet
IsWatched-none : (base profile : ℕ) (table : List Meetings) (list : List (ℕ × ℕ)) (back : Bool) (n : ℕ) (run : Course) → n ≡ 0 → ((k : ℕ) → k < length table → slice_index_or table k no_meetings ≡ no_meetings)
    → list ≡ [] → back ≡ false → IsWatched base profile table list back n run
unfolding profile_of comes_back
IsWatched-none base profile table list back n run none unmet empty no_back = record {
  noted = record {
    met = λ k below. unmet k below ∙ sym (meetings-none (base + 4 * k) run) ∙ ap (meetings (base + 4 * k) run) (sym none);
    listed = (let least : 0 ≡ min profile n = omega (arith, none) in empty ∙ ap (profile_of run) least);
  };
  came = no_back ∙ ap (comes_back run) (sym none);
}

pub watched-first : (base profile : ℕ) (table : List Meetings) (list : List (ℕ × ℕ)) (back : Bool) (w : World) (n : ℕ) → HasNotBegun n w.calls → ((k : ℕ) → k < length table → slice_index_or table k no_meetings ≡ no_meetings)
    → list ≡ [] → back ≡ false → Reaches (IsWatched base profile table list back n) w.calls.low w.calls.high w.state w w n 0
watched-first base profile table list back w n start unmet empty no_back =
    Reaches-first_position (IsWatched base profile table list back n) w n (λ run. IsWatched-none base profile table list back n run start.none unmet empty no_back) start.going start.brk start.none

-- the run stands at pc
leads-from : (here later : Progress) (r : Position) (s : State) (pc : ℕ) → r.state ≡ s → pc ≡ (view_of s).pc → here ≡ On r → leads_back here later ≡ falls_to pc later
leads-from here (On later) r s pc same is at =
    ap (λ h. leads_back h (On later)) at ∙ ap (λ (t : State). nat_le (view_of later.state).pc (view_of t).pc) same ∙ ap (nat_le (view_of later.state).pc) (sym is)
leads-from here (Off count ended last) r s pc same is at = ap (λ h. leads_back h (Off count ended last)) at

-- the list, one count more
list-more : (run : Course) (list after : List (ℕ × ℕ)) (pc n profile : ℕ) (s : State) (early : Bool) → nat_lt n profile ≡ early → after ≡ list ++ (if early then (pc, n) ∷ [] else []) → pc ≡ (view_of s).pc
    → (r : Position) → r.state ≡ s → run n ≡ On r → list ≡ profile_of run (min profile n) → after ≡ profile_of run (min profile (n + 1))
list-more run list after pc n profile s true early is pc_is r same at so_far =
    let below : n < profile = grind (arith, nat_tests) in
    let here : min profile n ≡ n = omega (arith, below) in
    let more : n + 1 ≡ min profile (n + 1) = omega (arith, below) in
    noted-more list after n pc s is pc_is run r same at (so_far ∙ ap (profile_of run) here) ∙ ap (profile_of run) more
list-more run list after pc n profile s false late is pc_is r same at so_far =
    let past : profile ≤ n = grind (arith, nat_tests) in
    let more : min profile n ≡ min profile (n + 1) = omega (arith, past) in
    is ∙ append-nil list ∙ so_far ∙ ap (profile_of run) more

-- where the program stands is noted
pub noted-here : (base profile : ℕ) (table table' : List Meetings) (list list' : List (ℕ × ℕ)) (back : Bool) (pc n : ℕ) (s : State) → pc ≡ (view_of s).pc → length table' ≡ length table
    → ((k : ℕ) → k < length table → slice_index_or table' k no_meetings ≡ (if pc == base + 4 * k then met_again n back (slice_index_or table k no_meetings) else slice_index_or table k no_meetings))
    → list' ≡ list ++ (if nat_lt n profile then (pc, n) ∷ [] else []) → Leads (IsWatched base profile table list back n) (IsLeft base profile table' list' pc n) s n
noted-here base profile table table' list list' back pc n s pc_is long rows listed run r same at watched = record {
  noted = record {
    met = λ k below.
        let address = base + 4 * k in
        let here : (pc == address) ≡ goes_on_at (Some address) (run n) = ap (λ p. p == address) pc_is ∙ sym (goes_on_at-on (Some address) (run n) r s same at) in
        let before : slice_index_or table k no_meetings ≡ meetings address run n = watched.noted.met k (omega (arith, long, below)) in
        rows k (omega (arith, long, below))
        ∙ ap (λ b. if b then met_again n back (slice_index_or table k no_meetings) else slice_index_or table k no_meetings) here
        ∙ ap (λ m. if goes_on_at (Some address) (run n) then met_again n back m else m) before
        ∙ ap (λ b. if goes_on_at (Some address) (run n) then met_again n b (meetings address run n) else meetings address run n) watched.came
        ∙ sym (meetings-more address run n);
    listed = list-more run list list' pc n profile s (nat_lt n profile) refl listed pc_is r same at watched.noted.listed;
  };
  leads = λ later. leads-from (run n) later r s pc same pc_is at;
}

pub left-way : (base profile base' profile' : ℕ) (table table' : List Meetings) (list list' : List (ℕ × ℕ)) (back : Bool) (pc n : ℕ) (old now : World) → base' ≡ base → profile' ≡ profile → pc ≡ (view_of now.state).pc → length table' ≡ length table
    → ((k : ℕ) → k < length table → slice_index_or table' k no_meetings ≡ (if pc == base' + 4 * k then met_again n back (slice_index_or table k no_meetings) else slice_index_or table k no_meetings))
    → list' ≡ list ++ (if nat_lt n profile' then (pc, n) ∷ [] else []) → Reaches (IsWatched base profile table list back n) old.calls.low old.calls.high old.state old now n 0
    → Reaches (IsLeft base profile table' list' pc n) old.calls.low old.calls.high old.state old now n 0
left-way base profile base' profile' table table' list list' back pc n old now at_base at_profile pc_is long rows listed way =
    Reaches-says _ _ old.calls.low old.calls.high old.state old now n 0 way (noted-here base profile table table' list list' back pc n now.state pc_is long
    (λ k below. rows k below ∙ ap (λ b. if pc == b + 4 * k then met_again n back (slice_index_or table k no_meetings) else slice_index_or table k no_meetings) at_base)
    (listed ∙ ap (λ p. list ++ (if nat_lt n p then (pc, n) ∷ [] else [])) at_profile))

-- no address was met more often than there were counts
pub few-more : (base pc n d : ℕ) (back : Bool) (table table' : List Meetings) → d ≡ n + 1 → length table' ≡ length table → ((k : ℕ) → k < length table → slice_index_or table' k no_meetings
    ≡ (if pc == base + 4 * k then met_again n back (slice_index_or table k no_meetings) else slice_index_or table k no_meetings)) → ((k : ℕ) → k < length table → (slice_index_or table k no_meetings).times ≤ n)
    → (k : ℕ) → k < length table' → (slice_index_or table' k no_meetings).times ≤ d
few-more base pc n d back table table' one long rows few k below =
    let within : k < length table = omega (arith, long, below) in
    let row = ap (λ m. m.times) (rows k within) in
    let most = one_more (pc == base + 4 * k) (slice_index_or table k no_meetings) in
    let before = few k within in
    omega (arith, row, most, before, one)
  where
    one_more : (here : Bool) (m : Meetings) → (if here then met_again n back m else m).times ≤ m.times + 1
    one_more true m = omega arith
    one_more false m = omega arith

-- the list has a pair for each count, up to so many
long-by : (list after : List (ℕ × ℕ)) (pc n d profile : ℕ) (early : Bool) → nat_lt n profile ≡ early → d ≡ n + 1 → after ≡ list ++ (if early then (pc, n) ∷ [] else []) → length list ≡ min profile n → length after ≡ min profile d
long-by list after pc n d profile true early one is long =
    let below : n < profile = grind (arith, nat_tests) in
    omega (arith, ap length is, length_push list (pc, n), long, one, below)
long-by list after pc n d profile false late one is long =
    let past : profile ≤ n = grind (arith, nat_tests) in
    omega (arith, ap length (is ∙ append-nil list), long, one, past)

pub list-long : (list after : List (ℕ × ℕ)) (pc n d profile profile' : ℕ) → profile' ≡ profile → d ≡ n + 1 → after ≡ list ++ (if nat_lt n profile' then (pc, n) ∷ [] else []) → length list ≡ min profile n → length after ≡ min profile d
list-long list after pc n d profile profile' at_profile one is long =
    long-by list after pc n d profile (nat_lt n profile') (ap (nat_lt n) (sym at_profile)) one is long

numbered-by : (list after : List (ℕ × ℕ)) (pc n profile : ℕ) (early : Bool) → nat_lt n profile ≡ early → after ≡ list ++ (if early then (pc, n) ∷ [] else []) → length list ≡ min profile n → AreNumbered list → AreNumbered after
numbered-by list after pc n profile true early is long numbered =
    let below : n < profile = grind (arith, nat_tests) in
    numbered-more list after pc n is (omega (arith, long, below)) numbered
numbered-by list after pc n profile false late is long numbered = subst AreNumbered (sym (is ∙ append-nil list)) numbered

pub list-numbered : (list after : List (ℕ × ℕ)) (pc n profile profile' : ℕ) → profile' ≡ profile → after ≡ list ++ (if nat_lt n profile' then (pc, n) ∷ [] else []) → length list ≡ min profile n → AreNumbered list → AreNumbered after
list-numbered list after pc n profile profile' at_profile is long numbered =
    numbered-by list after pc n profile (nat_lt n profile') (ap (nat_lt n) (sym at_profile)) is long numbered

module _ (base profile : ℕ) (table : List Meetings) (list : List (ℕ × ℕ)) (pc : ℕ) (old now : World) (n : ℕ)
    (way : Reaches (IsLeft base profile table list pc n) old.calls.low old.calls.high old.state old now n 0) where
  -- a turn after which it goes on
  comes_back-next : (back : Bool) (pc' d : ℕ) (s : State) → d ≡ n + 1 → pc' ≡ (view_of s).pc → back ≡ nat_le pc' pc
      → Leads (IsLeft base profile table list pc n) (IsWatched base profile table list back d) s d
  unfolding comes_back
  comes_back-next back pc' d s one pc_is is run r same at left = record {
    noted = subst (λ k. IsNoted base profile table list k run) (sym one) left.noted;
    came = is ∙ ap (λ p. nat_le p pc) pc_is ∙ sym (ap (falls_to pc) at ∙ ap (λ (t : State). nat_le (view_of t).pc pc) same) ∙ sym (left.leads (run d))
        ∙ ap (λ k. leads_back (run n) (run k)) (one ∙ add-one n) ∙ ap (comes_back run) (sym (one ∙ add-one n));
  }

  pub watched-turn : (new : World) (back : Bool) (pc' d : ℕ) → Turns now new n d None → pc' ≡ (view_of new.state).pc → back ≡ nat_le pc' pc
      → Reaches (IsWatched base profile table list back d) old.calls.low old.calls.high old.state old new d 0
  watched-turn new back pc' d turn pc_is is =
      Reaches-says _ _ old.calls.low old.calls.high old.state old new d 0 (Reaches-turn _ old.calls.low old.calls.high old.state old now new n d 0 way turn)
      (comes_back-next back pc' d new.state (turn.one refl) pc_is is)

-- further counts at which a run has ended
profile_of-off : (run : Course) (n m : ℕ) → ((k : ℕ) → n ≤ k → IsOff (run k)) → profile_of run (n + m) ≡ profile_of run n
unfolding profile_of
profile_of-off run n zero off = let same : n + 0 ≡ n = omega arith in ap (profile_of run) same
profile_of-off run n (suc m) off =
    let sum : n + suc m ≡ suc (n + m) = omega arith in
    ap (profile_of run) sum ∙ ap (λ l. profile_of run (n + m) ++ l) (no_pair (n + m) (run (n + m)) (off (n + m) (omega arith))) ∙ append-nil (profile_of run (n + m)) ∙ profile_of-off run n m off
  where
    no_pair : (k : ℕ) (p : Progress) → IsOff p → pair_at k p ≡ []
    no_pair k (On position) x = absurd x
    no_pair k (Off count ended last) x = refl

IsNoted-off : (base profile : ℕ) (table : List Meetings) (list : List (ℕ × ℕ)) (n limit : ℕ) (run : Course) → n ≤ limit → ((k : ℕ) → n ≤ k → IsOff (run k)) → IsNoted base profile table list n run
    → IsNoted base profile table list limit run
IsNoted-off base profile table list n limit run within off noted = record {
  met = λ k below.
      let all : n + (limit - n) ≡ limit = omega (arith, within) in
      noted.met k below ∙ sym (meetings-off (base + 4 * k) run n (limit - n) (λ m past. goes_on_at-off (Some (base + 4 * k)) (run m) (off m past))) ∙ ap (meetings (base + 4 * k) run) all;
  listed = noted.listed ∙ elim (cases_lt n profile) [
    | inl early ↦
        let here : min profile n ≡ n = omega (arith, early) in
        let all : n + (min profile limit - n) ≡ min profile limit = omega (arith, early, within) in
        ap (profile_of run) here ∙ sym (profile_of-off run n (min profile limit - n) off) ∙ ap (profile_of run) all
    | inr late ↦
        let same : min profile n ≡ min profile limit = omega (arith, late, within) in
        ap (profile_of run) same
  ];
}

module _ (base profile : ℕ) (table : List Meetings) (list : List (ℕ × ℕ)) (old now : World) (n limit : ℕ) where
  -- a turn that ends it
  pub watched-end : (pc : ℕ) (new : World) (d : ℕ) (ended : Ended) → Reaches (IsLeft base profile table list pc n) old.calls.low old.calls.high old.state old now n 0 → n < limit
      → (device_of ended ≡ None → Turns now new n d (Some ended)) → ((device : Device) → device_of ended ≡ Some device → TurnFails now new device) → ((device : Device) → device_of ended ≡ Some device → d ≡ n)
      → Goes limit (IsNoted base profile table list) old new d 0 ended
  watched-end pc new d ended way below turn fails count = record {
    follows = λ h. Follows-turn _ _ limit old now new n d 0 ended way below (turn h) (λ run r e at off left.
        IsNoted-off base profile table list (n + 1) limit run (omega (arith, below)) (λ k past. off k (omega (arith, past))) left.noted);
    stops = λ device h.
        subst (λ x. StopsAt limit (IsNoted base profile table list (x + 1)) old new x 0 device) (sym (count device h))
        (StopsAt-fails _ _ limit old now new n 0 device way below (fails device h) (λ run _ _ _ left. left.noted));
  }

  -- the limit
  pub watched-limit : (back : Bool) → Reaches (IsWatched base profile table list back n) old.calls.low old.calls.high old.state old now n 0 → n ≡ limit → Goes limit (IsNoted base profile table list) old now n 0 Limit
  watched-limit back way at = record {
    follows = λ h. Follows-limit _ _ limit old now n 0 way at (λ run watched. subst (λ k. IsNoted base profile table list k run) at watched.noted);
    stops = λ device h. absurd (cc);
  }
