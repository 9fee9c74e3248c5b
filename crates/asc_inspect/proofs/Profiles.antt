-- The text of a profile is that of its run.
use Rattle.std.proofs.Common.{◌≡◌, ◌⊎◌, inl, inr, ℕ, zero, suc, ◌+◌, ◌*◌, ◌/◌, ◌<◌, if◌then◌else◌, List, [], ◌++◌, length, slice_index_or, Option, Some, None, refl, sym, ap, ◌∙◌, subst, arith, append_assoc, append-nil, add-one}
use Rattle.std.specs.Option.{option_or}
use Rattle.asc_model.specs.declared.fault.Fault.{Fault}
use Rattle.asc_calls.specs.GuestCall.{Device, Input, Out, Err}
use Rattle.asc_calls.specs.World.{World}
use Rattle.asc_guess.specs.Choice.{chosen_address}
use Rattle.asc_run.specs.declared.walk.Ended.{Ended}
use Rattle.asc_run.specs.declared.walk.Ended.TheVariants as ends
use Rattle.asc_run.specs.Execution.{device_of}
use Rattle.asc_run.specs.Visits.{Course}
use Rattle.asc_run.specs.Walk.{Follows, Goes, StopsAt}
use Rattle.asc_words.specs.declared.line.RunLine.{RunLine}
use Rattle.asc_inspect.specs.declared.meetings.Meetings.{Meetings}
use Rattle.asc_inspect.specs.declared.request.Addresses.{Addresses}
use Rattle.asc_inspect.specs.Profile.{IsNoted, ProfileFails, ShowsProfile, address_of, heading_text, is_listed, meetings, meetings_text, no_meetings, profile_text, rows_text}

-- no line yet
pub rows-none : (addresses : Addresses) (base : ℕ) (met : ℕ → Meetings) (text : List ℕ) → text ≡ text ++ rows_text addresses base 0 met
unfolding rows_text
rows-none addresses base met text = sym (append-nil text)

-- one line more
pub rows-more : (addresses : Addresses) (base k : ℕ) (met : ℕ → Meetings) (text text' first : List ℕ) (row : Meetings) → text ≡ first ++ rows_text addresses base k met
    → text' ≡ text ++ (if is_listed addresses row then meetings_text (base + 4 * k) row else []) → row ≡ met k → text' ≡ first ++ rows_text addresses base (k + 1) met
unfolding rows_text
rows-more addresses base k met text text' first row so_far put is =
    put ∙ ap (λ t. t ++ (if is_listed addresses row then meetings_text (base + 4 * k) row else [])) so_far
    ∙ append_assoc first (rows_text addresses base k met) (if is_listed addresses row then meetings_text (base + 4 * k) row else [])
    ∙ ap (λ m. first ++ (rows_text addresses base k met ++ (if is_listed addresses m then meetings_text (base + 4 * k) m else []))) is
    ∙ ap (λ n. first ++ rows_text addresses base n met) (sym (add-one k))

-- the same words have the same lines
rows-same : (addresses : Addresses) (base n : ℕ) (met met' : ℕ → Meetings) → ((k : ℕ) → k < n → met k ≡ met' k) → rows_text addresses base n met ≡ rows_text addresses base n met'
unfolding rows_text
rows-same addresses base zero met met' same = refl
rows-same addresses base (suc n) met met' same =
    ap (λ t. t ++ (if is_listed addresses (met n) then meetings_text (base + 4 * n) (met n) else [])) (rows-same addresses base n met met' (λ k below. same k (omega (arith, below))))
    ∙ ap (λ m. rows_text addresses base n met' ++ (if is_listed addresses m then meetings_text (base + 4 * n) m else [])) (same n (omega arith))

-- a device failed
pub failed-device : (ended : Ended) → (ended ≡ ends.ReadFault) ⊎ ((ended ≡ ends.WriteFault) ⊎ (ended ≡ ends.ErrFault)) → (device : Device) × (device_of ended ≡ Some device)
failed-device ended h = elim h [
  | inl is ↦ (Input, ap device_of is)
  | inr other ↦ elim other [ inl is ↦ (Out, ap device_of is) | inr is ↦ (Err, ap device_of is) ]
]

-- none did
pub sound-end : (ended : Ended) → ((code : ℕ) × (ended ≡ ends.Exit code)) ⊎ (((fault : Fault) × (ended ≡ ends.Fault fault)) ⊎ (ended ≡ ends.Limit)) → device_of ended ≡ None
sound-end ended h = elim h [
  | inl is ↦ ap device_of is.1
  | inr other ↦ elim other [ inl is ↦ ap device_of is.1 | inr is ↦ ap device_of is ]
]

-- what is said gives more
pub Follows-says : (limit : ℕ) (Q Q' : Course → Type 0) (old new : World) (count skipped : ℕ) (ended : Ended) → ((run : Course) → Q run → Q' run) → Follows limit Q old new count skipped ended
    → Follows limit Q' old new count skipped ended
Follows-says limit Q Q' old new count skipped ended more f = record {
  io = f.io;
  does = f.does;
  run = f.run;
  says = λ rest may. more _ (f.says rest may);
  known = f.known;
  steps = f.steps;
}

pub StopsAt-unsaid : (limit : ℕ) (Q : Course → Type 0) (old new : World) (count skipped : ℕ) (device : Device) → StopsAt limit Q old new count skipped device → StopsAt limit (λ run. Unit {0}) old new count skipped device
StopsAt-unsaid limit Q old new count skipped device s = record {
  below = s.below;
  io = s.io;
  done = s.done;
  does = s.does;
  run = s.run;
  says = λ _ _. tt;
  call = s.call;
  begins = s.begins;
  known = s.known;
  steps = s.steps;
}

-- a profile of what is noted is one of the run
text-of-run : (line : RunLine) (addresses : Addresses) (ended : Ended) (count base words : ℕ) (table : List Meetings) (list : List (ℕ × ℕ)) (text : List ℕ) (chosen : Option ℕ) (run : Course) → length table ≡ words
    → chosen ≡ option_or line.pc (chosen_address list line.least) → text ≡ profile_text ended count chosen addresses base (length table) (λ k. slice_index_or table k no_meetings)
    → IsNoted base line.profile table list line.limit run
    → text ≡ profile_text ended count (address_of line run) addresses base words (λ k. meetings (base + 4 * k) run line.limit)
text-of-run line addresses ended count base words table list text chosen run long choice is noted =
    is ∙ ap (λ c. profile_text ended count c addresses base (length table) (λ k. slice_index_or table k no_meetings)) (choice ∙ ap (λ l. option_or line.pc (chosen_address l line.least)) noted.listed)
    ∙ ap (λ rows. heading_text ended count (address_of line run) ++ rows)
    (rows-same addresses base (length table) (λ k. slice_index_or table k no_meetings) (λ k. meetings (base + 4 * k) run line.limit) noted.met)
    ∙ ap (λ n. profile_text ended count (address_of line run) addresses base n (λ k. meetings (base + 4 * k) run line.limit)) long

module _ (line : RunLine) (start now : World) (ended : Ended) (count base profile : ℕ) (table : List Meetings) (list : List (ℕ × ℕ)) (goes : Goes line.limit (IsNoted base profile table list) start now count 0 ended) where
  pub shows-profile : (addresses : Addresses) (base' : ℕ) (text : List ℕ) (chosen : Option ℕ) → device_of ended ≡ None → base' ≡ base → base ≡ start.state.shape.base → profile ≡ line.profile → length table ≡ start.state.shape.size / 4
      → chosen ≡ option_or line.pc (chosen_address list line.least) → text ≡ profile_text ended count chosen addresses base' (length table) (λ k. slice_index_or table k no_meetings)
      → ShowsProfile line addresses start now.left now.steps text
  shows-profile addresses base' text chosen sound same_base at_base at_profile long choice is = record {
    now = now;
    count = count;
    ended = ended;
    sound = sound;
    follows = Follows-says line.limit (IsNoted base profile table list line.limit) _ start now count 0 ended (λ run noted.
        subst (λ b. text ≡ profile_text ended count (address_of line run) addresses b (start.state.shape.size / 4) (λ k. meetings (b + 4 * k) run line.limit)) at_base
        (text-of-run line addresses ended count base (start.state.shape.size / 4) table list text chosen run long choice
        (is ∙ ap (λ b. profile_text ended count chosen addresses b (length table) (λ k. slice_index_or table k no_meetings)) same_base)
        (subst (λ p. IsNoted base p table list line.limit run) at_profile noted))) (goes.follows sound);
    same_left = refl;
    same_steps = refl;
  }

  pub profile-fails : (device : Device) → device_of ended ≡ Some device → ProfileFails line start now.left now.steps ended count
  profile-fails device failed = record {
    now = now;
    device = device;
    failed = failed;
    stops = StopsAt-unsaid line.limit _ start now count 0 device (goes.stops device failed);
    same_left = refl;
    same_steps = refl;
  }
