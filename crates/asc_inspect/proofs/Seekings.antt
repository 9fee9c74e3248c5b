-- A walk with the helper of a run without workers is that run.
use Rattle.std.proofs.Common.{◌≡◌, ℕ, ◌+◌, ◌-◌, ◌^◌, nat_lt, if◌then◌else◌, Option, Some, None, List, [], refl, sym, ap, ◌∙◌, subst, arith}
use Rattle.asc_elf.specs.Image as loader
use Rattle.asc_calls.specs.GuestCall.{Device}
use Rattle.asc_calls.specs.World.{BlamesOnly, DeviceFaults, Outside, World, faults_after}
use Rattle.asc_find.specs.Finder.{Jumps}
use Rattle.asc_find.specs.Serial.{Serial}
use Rattle.asc_run.specs.declared.walk.Ended.{Ended}
use Rattle.asc_run.specs.declared.walk.Settings.{Settings}
use Rattle.asc_run.specs.Execution.{device_of}
use Rattle.asc_run.specs.Helped.{HasVisits, IsSerial}
use Rattle.asc_run.specs.SerialHelper.{SerialHelper, aid_of, first_helper, told_machine}
use Rattle.asc_run.specs.SerialRun.{serial_of}
use Rattle.asc_run.specs.Visits.{Course, Visit, visit_rule, jumps_of}
use Rattle.asc_run.specs.Walk.{Follows, GoesFirst, GoesHelped, IsRaisedBy, Walk, device_in, new_walk, jumps, world_of}
use Rattle.asc_top.specs.Numbers.{guessing_of, recognised_by, visited_settings}
use Rattle.asc_words.specs.declared.line.RunLine.{RunLine}
use Rattle.asc_inspect.specs.Shown.{first_world}
use Rattle.asc_inspect.specs.Sought.{IsVisitedAlone, ShowsSought, SoughtFails, last_address, sought_text}
use Rattle.asc_inspect.proofs.Profiles.{Follows-says, StopsAt-unsaid}

-- ---- the machine of the helper

-- one that was never refused memory tells its machine
told : (h : SerialHelper) → h.refused ≡ 0 → told_machine h ≡ Some h.machine
told h none = ap (λ n. if nat_lt n (2 ^ 64 - 1) then Some h.machine else None) none

same-machine : (m n : Serial) (o : Option Serial) → o ≡ Some m → o ≡ Some n → m ≡ n
same-machine m n o is other = cc

-- the visits of a run are those of the machine, from before the first one on
visited-alone : (line : RunLine) (image : loader.Image) (visits : List Visit) (h : SerialHelper) (run : Course) → h.refused ≡ 0
    → HasVisits line.limit (visit_rule (recognised_by line)) image.start visits (aid_of (first_helper image.start.shape (guessing_of line))) (aid_of h) line.limit run
    → IsVisitedAlone line image.start.shape visits h.machine h.made run
visited-alone line image visits h run none has =
    let first = serial_of image.start.shape (guessing_of line) [] in
    let k = has.serial first refl refl none in
    let made : k.1 ≡ h.made = omega (arith, k.4.1) in
    record {
      are = has.are;
      serial = subst (λ (m : Serial). IsSerial line.limit run first visits m h.made) (same-machine k.0 h.machine _ k.2 (told h none))
          (subst (λ (n : ℕ). IsSerial line.limit run first visits k.0 n) made k.4.0);
    }

-- ---- a walk from the start of an image

module _ (line : RunLine) (image : loader.Image) (o new : Outside) (was now : Walk) (h h' : SerialHelper) (ended : Ended)
    (was_is : was ≡ new_walk image (visited_settings line)) (h_is : h ≡ first_helper image.start.shape (guessing_of line))
    (first : GoesFirst was now o new (aid_of h) (aid_of h') ended) (raised : IsRaisedBy now.jumps h.jumps h'.jumps) where
  abbrev start : World
  start = first_world image o

  abbrev GoesFrom : Walk → SerialHelper → Type 0
  GoesFrom walk helper =
      GoesHelped walk.settings.limit (visit_rule walk.settings.recognised) (world_of walk o) (world_of now new) (aid_of helper) (aid_of h') now.count now.jumps.given ended

  goes : GoesHelped line.limit (visit_rule (recognised_by line)) start (world_of now new) (aid_of (first_helper image.start.shape (guessing_of line))) (aid_of h') now.count now.jumps.given ended
  goes = subst (λ x. GoesFrom (new_walk image (visited_settings line)) x) h_is (subst (λ w. GoesFrom w h) was_is first.goes)

  -- the numbers of the visits are the walk's
  counted : jumps_of goes.visits (jumps 0 0 0) ≡ jumps now.jumps.asked now.jumps.given now.jumps.hits
  counted =
      let none : h.jumps ≡ jumps 0 0 0 = ap (λ (x : SerialHelper). x.jumps) h_is in
      let asked : h.jumps.asked + now.jumps.asked ≡ now.jumps.asked = omega (arith, ap (λ (t : Jumps). t.asked) none) in
      let given : h.jumps.given + now.jumps.given ≡ now.jumps.given = omega (arith, ap (λ (t : Jumps). t.given) none) in
      let hits : h.jumps.hits + now.jumps.hits ≡ now.jumps.hits = omega (arith, ap (λ (t : Jumps). t.hits) none) in
      sym goes.helped.jumps ∙ raised ∙ (λ i. jumps (asked i) (given i) (hits i))

  follows : device_of ended ≡ None → h'.refused ≡ 0
      → Follows line.limit (IsVisitedAlone line image.start.shape goes.visits h'.machine h'.made) start (world_of now new) now.count (jumps_of goes.visits (jumps 0 0 0)).given ended
  follows sound none = subst
      (λ n. Follows line.limit (IsVisitedAlone line image.start.shape goes.visits h'.machine h'.made) start (world_of now new) now.count n ended)
      (sym (ap (λ (t : Jumps). t.given) counted))
      (Follows-says line.limit _ (IsVisitedAlone line image.start.shape goes.visits h'.machine h'.made) start (world_of now new) now.count now.jumps.given ended
      (λ run has. visited-alone line image goes.visits h' run none has) (goes.goes.follows sound))

  -- its text is that of the run without workers
  pub shows-sought : (count asked given hits : ℕ) (address : Option ℕ) (text : List ℕ) → device_of ended ≡ None → h'.refused ≡ 0
      → count ≡ now.count → asked ≡ now.jumps.asked → given ≡ now.jumps.given → hits ≡ now.jumps.hits → address ≡ last_address h'.machine.prev h'.machine.last
      → text ≡ sought_text ended count address (jumps asked given hits) → ShowsSought line start new.left new.steps text
  shows-sought count asked given hits address text sound none count_is asked_is given_is hits_is address_is is = record {
    now = world_of now new;
    count = now.count;
    ended = ended;
    visits = goes.visits;
    machine = h'.machine;
    made = h'.made;
    sound = sound;
    follows = follows sound none;
    same_left = refl;
    same_steps = refl;
    is = is ∙ (λ i. sought_text ended (count_is i) (address_is i) (jumps (asked_is i) (given_is i) (hits_is i)))
        ∙ ap (λ (t : Jumps). sought_text ended now.count (last_address h'.machine.prev h'.machine.last) t) (sym counted);
  }

  -- a device failed
  pub sought-fails : (count : ℕ) → count ≡ now.count → (device : Device) → device_of ended ≡ Some device → SoughtFails line start new.left new.steps ended count
  sought-fails count count_is device failed = subst (λ n. SoughtFails line start new.left new.steps ended n) (sym count_is) (record {
    now = world_of now new;
    skipped = now.jumps.given;
    device = device;
    failed = failed;
    stops = StopsAt-unsaid line.limit _ start (world_of now new) now.count now.jumps.given device (goes.goes.stops device failed);
    same_left = refl;
    same_steps = refl;
  })

-- ---- the device that failed

module _ (was : Walk) (image : loader.Image) (settings : Settings) (ended : Ended) (old new : DeviceFaults) (was_is : was ≡ new_walk image settings) (blamed : BlamesOnly (device_in was.ended ended) old new) where
  -- it is the one of the end
  pub blames-end : BlamesOnly (device_of ended) old new
  blames-end = blamed ∙ ap (λ (w : Walk). faults_after (device_in w.ended ended) old) was_is

  -- where none did, all stays
  pub blames-none : device_of ended ≡ None → BlamesOnly None old new
  blames-none sound = blames-end ∙ ap (λ d. faults_after d old) sound
