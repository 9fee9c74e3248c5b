-- A walk that seeks its address: where its search stands at each count.
use Rattle.std.proofs.Common.{◌≡◌, ◌≢◌, inl, inr, ◌≤◌, ◌<◌, ◌+◌, ◌-◌, ℕ, zero, suc, Bool, true, false, nat_lt, if◌then◌else◌, List, [], ◌∷◌, length, Option, Some, None, refl, sym, ap, ◌∙◌, subst, arith}
use Rattle.std.proofs.lemmas.Bool.{false≢true, le-ltb, lt-ltb}
use Rattle.asc_model.specs.State.{State}
use Rattle.asc_model.specs.Step.{Went}
use Rattle.asc_model.specs.Machine.{view_of}
use Rattle.asc_model.specs.Plain.{plain}
use Rattle.asc_step.specs.Step.{Climbs, Lowers}
use Rattle.asc_seek.specs.declared.seeker.Seeking.{Seeking}
use Rattle.asc_seek.specs.declared.seeker.Service.{Service}
use Rattle.asc_seek.specs.declared.seeker.Trial.{Trial}
use Rattle.asc_seek.specs.declared.seeker.Phase.{Phase}
use Rattle.asc_seek.specs.declared.seeker.Phase.TheVariants as phase
use Rattle.asc_seek.specs.Heads.{AreEarlier, Path, head_at, heads_of, led_back, no_heads, note}
use Rattle.asc_seek.specs.Seek.{IsBehind, IsBehindIn, Seek, end_in, is_over, looked_steps, new_seek, pays, searching, seek_along, advanced, seek_visit, advanced_from, visit_in, watched_in}
use Rattle.asc_seek.proofs.Along.{AreEarlier-heads_of, AreEarlier-later, heads_of-next, heads_of-zero, profiled-same, seek_along-heads, seek_along-profiled, seek_along-same, seek_along-turn, seek_along-zero, advanced-seeking, seek_visit-is, table-seek_along, try_next-other, advanced_from-other, with_heads}
use Rattle.asc_run.specs.Execution.{Position, Progress, On, Off}
use Rattle.asc_run.specs.Sought.{NotesAlong, learning, noting, pc_in}
use Rattle.asc_run.specs.Visits.{Course, Visit, goes_on_at, is_at, landing, path_of, seek_at, stands_at, with_landing}
use Rattle.asc_run.proofs.VisitRules.{floor}
use Rattle.asc_run.proofs.Shapes.{plain-part}

-- ---- the phases

-- no visit leads to the notes of heads
visit_in-other : (s : Seeking) (at : ℕ) (reply : Option ℕ) (p : Phase) → p ≢ phase.Profile → visit_in s at reply p ≢ phase.Profile
visit_in-other s at reply phase.Profile other is = other refl
visit_in-other s at reply (phase.Trial t) other is = cc
visit_in-other s at reply (phase.Service v) other is = cc
visit_in-other s at reply (phase.Rest until) other is = cc

pub visit-other : (at : ℕ) (reply : Option ℕ) (m : Seek) → m.phase ≢ phase.Profile → (seek_visit at reply m).phase ≢ phase.Profile
visit-other at reply m other is = visit_in-other m.seeking at reply m.phase other (sym (ap (λ (x : Seek). x.phase) (seek_visit-is at reply m)) ∙ is)

visited-notes : (s : Seeking) (at : ℕ) (reply : Option ℕ) (p : Phase) → visit_in s at reply p ≡ phase.Profile → p ≡ phase.Profile
visited-notes s at reply phase.Profile is = refl
visited-notes s at reply (phase.Trial t) is = cc
visited-notes s at reply (phase.Service v) is = cc
visited-notes s at reply (phase.Rest until) is = cc

-- while heads are noted no state stands at the address
pub watched-other : (p : Phase) (s : State) → is_at (watched_in p) s ≡ true → p ≢ phase.Profile
watched-other phase.Profile s at is = absurd (false≢true at)
watched-other (phase.Trial t) s at is = cc
watched-other (phase.Service v) s at is = cc
watched-other (phase.Rest until) s at is = cc

pub goes_on_at-none : (p : Progress) → goes_on_at None p ≡ false
goes_on_at-none (On position) = refl
goes_on_at-none (Off count ended last) = refl

-- ---- the table while heads are noted

-- where heads are noted, each was met before a count
abbrev pub IsEarly : (count : ℕ) → Seek → Type 0
IsEarly count m = m.phase ≡ phase.Profile → AreEarlier count m.table

-- a table without heads has none that was met later
none-early : (count : ℕ) → AreEarlier (count + 1) no_heads
none-early count =
    let nowhere : Path = λ n. None in
    let same : count + zero + 1 ≡ count + 1 = omega arith in
    subst (λ n. AreEarlier n no_heads) same (subst (AreEarlier (count + zero + 1)) (heads_of-zero nowhere count) (AreEarlier-heads_of nowhere count zero))

-- a kept address goes on, or a search begins
early-looked : (count : ℕ) (b : Bool) (m : Seek) (v : Service)
    → IsEarly (count + 1) (if b then record m { phase = phase.Service (record v { until = count + looked_steps v.lap }) } else searching count m)
early-looked count true m v = λ notes. absurd (cc)
early-looked count false m v = λ notes. none-early count

early-turned : (count : ℕ) (over : Bool) (m : Seek) (p : Phase) → IsEarly (count + 1) m → IsEarly (count + 1) (if over then advanced_from count m p else m)
early-turned count false m p early = early
early-turned count true m phase.Profile early = λ notes. absurd (try_next-other count None m notes)
early-turned count true m (phase.Trial t) early = λ notes. absurd (advanced_from-other count m t notes)
early-turned count true m (phase.Service v) early = early-looked count (pays m.seeking count v) m v
early-turned count true m (phase.Rest until) early = λ notes. none-early count

-- a turn that begins with the notes of heads begins with none
IsEarly-turn : (count : ℕ) (m : Seek) → IsEarly (count + 1) m → IsEarly (count + 1) (advanced count m)
unfolding advanced
IsEarly-turn count m early = early-turned count (is_over count m) m m.phase early

IsEarly-learning : (is : Bool) (at bound : ℕ) (reply : Option ℕ) (m : Seek) → IsEarly bound m → IsEarly bound (learning is at reply m)
IsEarly-learning true at bound reply m early = λ notes. subst (λ (x : Seek). AreEarlier bound x.table) (sym (seek_visit-is at reply m)) (early (visited-notes m.seeking at reply m.phase (sym (ap (λ (x : Seek). x.phase) (seek_visit-is at reply m)) ∙ notes)))
IsEarly-learning false at bound reply m early = early

-- behind a turn and a landing
pub IsEarly-learnt : (is : Bool) (c c' : ℕ) (reply : Option ℕ) (m m' m'' : Seek) → m' ≡ advanced c m → m'' ≡ learning is c reply m' → c' ≡ c → IsEarly (c + 1) m → IsEarly (c' + 1) m''
IsEarly-learnt is c c' reply m m' m'' turned learnt same early =
    rw (same, learnt, turned) (IsEarly-learning is c (c + 1) reply (advanced c m) (IsEarly-turn c m early))

pub IsEarly-later : (a b : ℕ) (m : Seek) → a ≤ b → IsEarly a m → IsEarly b m
IsEarly-later a b m le early = λ notes. AreEarlier-later a b m.table le (early notes)

-- before the first step
pub IsEarly-new : (count : ℕ) (m : Seek) → m ≡ new_seek m.seeking → IsEarly (count + 1) m
IsEarly-new count m new = λ notes. subst (AreEarlier (count + 1)) (sym (ap (λ (x : Seek). x.table) new)) (none-early count)

pub behind-first : (c : ℕ) (m : Seek) → m ≡ new_seek m.seeking → IsBehind c m
behind-first c m new = subst (IsBehind c) (sym new) (omega arith)

-- ---- what is sought stays

learning-seeking : (is : Bool) (at : ℕ) (reply : Option ℕ) (m : Seek) → (learning is at reply m).seeking ≡ m.seeking
learning-seeking true at reply m = ap (λ (x : Seek). x.seeking) (seek_visit-is at reply m)
learning-seeking false at reply m = refl

pub learnt-seeking : (is : Bool) (c : ℕ) (reply : Option ℕ) (m m' m'' : Seek) → m' ≡ advanced c m → m'' ≡ learning is c reply m' → m''.seeking ≡ m.seeking
learnt-seeking is c reply m m' m'' turned learnt =
    ap (λ (x : Seek). x.seeking) learnt ∙ learning-seeking is c reply m' ∙ ap (λ (x : Seek). x.seeking) turned ∙ advanced-seeking c m

-- ---- behind a landing

-- a walk counts one visit more where there is one
pub visit-told : (is : Bool) (c : ℕ) (reply : Option ℕ) (number number' : ℕ) → number' ≡ number + length (with_landing is c reply []) → nat_lt number number' ≡ is
visit-told true c reply number number' more = lt-ltb number number' (omega arith)
visit-told false c reply number number' more = le-ltb number number' (omega arith)

-- the same landing, told otherwise
pub learnt-is : (visited is : Bool) (c : ℕ) (told reply : Option ℕ) (m' m'' : Seek) → m'' ≡ learning visited c told m' → visited ≡ is → told ≡ reply → m'' ≡ learning is c reply m'
learnt-is visited is c told reply m' m'' learnt a b = learnt ∙ ap (λ x. learning x c told m') a ∙ ap (λ x. learning is c x m') b

-- Behind a landing at a count a search may go on for so many steps: for one behind a visit, and else up to the end of its
-- phase.
pub record MayGo (is_visit : Bool) (address : Option ℕ) (c most : ℕ) (m : Seek) : Type 0 where
  pub some : 0 < most
  pub one : is_visit ≡ true → most ≡ 1
  pub early : is_visit ≡ false → c + most ≤ end_in m m.phase
  pub since : is_visit ≡ false → m.phase ≡ phase.Profile → m.since ≤ c
  pub watched : is_visit ≡ false → address ≡ watched_in m.phase

behind-since : (c : ℕ) (m : Seek) → IsBehind c m → m.phase ≡ phase.Profile → m.since ≤ c
behind-since c m behind notes = subst (λ p. IsBehindIn c m p) notes behind

may_go : (is : Bool) (c most : ℕ) (reply address : Option ℕ) (m : Seek) → 0 < most → (is ≡ true → most ≡ 1) → (is ≡ false → c + most ≤ end_in m m.phase) → IsBehind c m → address ≡ watched_in m.phase
    → MayGo is address c most (learning is c reply m)
may_go true c most reply address m some one early behind watched = record {
  some = some;
  one = one;
  early = λ none. absurd (false≢true (sym none));
  since = λ none. absurd (false≢true (sym none));
  watched = λ none. absurd (false≢true (sym none));
}
may_go false c most reply address m some one early behind watched = record {
  some = some;
  one = one;
  early = early;
  since = λ none. behind-since c m behind;
  watched = λ none. watched;
}

pub MayGo-learnt : (visited is : Bool) (c c' most : ℕ) (told address : Option ℕ) (m' m'' : Seek) → m'' ≡ learning visited c told m' → visited ≡ is → c' ≡ c → 0 < most → (visited ≡ true → most ≡ 1) → (visited ≡ false → c + most ≤ end_in m' m'.phase)
    → IsBehind c m' → address ≡ watched_in m'.phase → MayGo is address c' most m''
MayGo-learnt visited is c c' most told address m' m'' learnt a same some one early behind watched =
    rw (same, learnt) (subst (λ b. MayGo b address c most (learning visited c told m')) a (may_go visited c most told address m' some one early behind watched))

-- ---- a search behind its visits

-- where it stands at the newest landing, before its phase ends there
base : Seeking → Course → List Visit → Seek
base s run [] = new_seek s
base s run (v ∷ before) = seek_visit v.at v.reply (seek_at s run before v.at)

seek_at-base : (s : Seeking) (run : Course) (visits : List Visit) (count : ℕ) → seek_at s run visits count ≡ seek_along (path_of run) (floor visits) (count - floor visits) (base s run visits)
unfolding seek_at floor base
seek_at-base s run [] count = let e : count ≡ count - 0 = omega arith in ap (λ n. seek_along (path_of run) 0 n (new_seek s)) e
seek_at-base s run (v ∷ before) count = refl

-- at a landing it has learnt of the visit
pub seek_at-landed : (s : Seeking) (run : Course) (v : Visit) (before : List Visit) (m : Seek) → seek_at s run before v.at ≡ m → m.phase ≢ phase.Profile
    → seek_at s run (v ∷ before) (landing v) ≡ advanced (landing v) (seek_visit v.at v.reply m)
unfolding seek_at
seek_at-landed s run v before m is other =
    let path = path_of run in
    let none : landing v - landing v ≡ 0 = omega arith in
    let told = seek_visit v.at v.reply m in
    ap (λ n. seek_along path (landing v) n (seek_visit v.at v.reply (seek_at s run before v.at))) none
    ∙ ap (λ x. seek_along path (landing v) 0 (seek_visit v.at v.reply x)) is
    ∙ seek_along-zero path (landing v) told
    ∙ ap (advanced (landing v)) (profiled-same path (landing v) told told.phase (visit-other v.at v.reply m other))

pub seek_at-first : (s : Seeking) (run : Course) → seek_at s run [] 0 ≡ advanced 0 (new_seek s)
unfolding seek_at
seek_at-first s run =
    let path = path_of run in
    let none : 0 - 0 ≡ 0 = omega arith in
    seek_along-zero path 0 (new_seek s)
    ∙ ap (λ t. advanced 0 (record (new_seek s) { table = t })) (ap (heads_of path 0) none ∙ heads_of-zero path 0)

module _ (s : Seeking) (run : Course) (visits : List Visit) (c n : ℕ) (m : Seek) (behind : floor visits ≤ c) (is : seek_at s run visits c ≡ m) where
  from_base : seek_along (path_of run) (floor visits) (c - floor visits) (base s run visits) ≡ m
  from_base = sym (seek_at-base s run visits c) ∙ is

  at_later : seek_at s run visits (c + n) ≡ seek_along (path_of run) (floor visits) (c - floor visits + n) (base s run visits)
  at_later =
      let e : c + n - floor visits ≡ c - floor visits + n = omega arith in
      seek_at-base s run visits (c + n) ∙ ap (λ k. seek_along (path_of run) (floor visits) k (base s run visits)) e

  sum : floor visits + (c - floor visits) + n ≡ c + n
  sum = omega arith

  -- while an address is tried or kept
  pub seek_at-stays : m.phase ≢ phase.Profile → c + n < end_in m m.phase → seek_at s run visits (c + n) ≡ m
  seek_at-stays other early =
      let e = sum in
      at_later ∙ seek_along-same (path_of run) (floor visits) (c - floor visits) n (base s run visits) m from_base other (omega arith)

  pub seek_at-turns : m.phase ≢ phase.Profile → 0 < n → c + n ≤ end_in m m.phase → seek_at s run visits (c + n) ≡ advanced (c + n) m
  seek_at-turns other some early =
      let e = sum in
      at_later ∙ seek_along-turn (path_of run) (floor visits) (c - floor visits) n (base s run visits) m from_base other some (omega arith)
      ∙ ap (λ k. advanced k m) sum

  -- while heads are noted
  end_profile : m.phase ≡ phase.Profile → end_in m m.phase ≡ m.since + m.stretch
  end_profile notes = ap (end_in m) notes

  pub seek_at-notes : m.phase ≡ phase.Profile → c + n < end_in m m.phase → seek_at s run visits (c + n) ≡ with_heads (path_of run) (c + n) m
  seek_at-notes notes early =
      let e = sum in let f = end_profile notes in
      at_later ∙ seek_along-heads (path_of run) (floor visits) (c - floor visits) n (base s run visits) m from_base notes (omega arith)
      ∙ ap (λ k. with_heads (path_of run) k m) sum

  pub seek_at-noted : m.phase ≡ phase.Profile → 0 < n → c + n ≤ end_in m m.phase → seek_at s run visits (c + n) ≡ advanced (c + n) (with_heads (path_of run) (c + n) m)
  seek_at-noted notes some early =
      let e = sum in let f = end_profile notes in
      at_later ∙ seek_along-profiled (path_of run) (floor visits) (c - floor visits) n (base s run visits) m from_base notes some (omega arith)
      ∙ ap (λ k. advanced k (with_heads (path_of run) k m)) sum

  pub table-seek_at : m.phase ≡ phase.Profile → m.table ≡ heads_of (path_of run) m.since (c - m.since)
  table-seek_at notes =
      let e : floor visits + (c - floor visits) ≡ c = omega arith in
      table-seek_along (path_of run) (floor visits) (c - floor visits) (base s run visits) m from_base notes
      ∙ ap (λ k. heads_of (path_of run) m.since (k - m.since)) e

-- ---- the heads of a stretch that leads nowhere back before its last step

pub with_heads-next : (path : Path) (since c n : ℕ) → since ≤ c → 0 < n → ((i : ℕ) → 0 < i → i < n → head_at path (c + i) ≡ None)
    → heads_of path since (c + n - since) ≡ note (c + n) (head_at path (c + n)) (heads_of path since (c - since))
with_heads-next path since c n behind some nowhere =
    let d : ℕ = c - since in
    let k : ℕ = n - 1 in
    let steps : c + n - since ≡ d + k + 1 = omega arith in
    let count : since + d + k + 1 ≡ c + n = omega arith in
    let here : since + d ≡ c = omega arith in
    ap (heads_of path since) steps
    ∙ heads_of-next path since d k (λ i a b. ap (λ x. head_at path (x + i)) here ∙ nowhere i a (omega arith))
    ∙ ap (λ x. note x (head_at path x) (heads_of path since d)) count

-- a path where a step leads from one place to another
head_at-led : (path : Path) (c j : ℕ) (from to : Option ℕ) → path (c + j) ≡ from → path (c + suc j) ≡ to → head_at path (c + suc j) ≡ led_back from to
head_at-led path c j from to at_from at_to =
    let e : c + suc j ≡ suc (c + j) = omega arith in
    ap (head_at path) e ∙ ap (λ x. led_back x (path (suc (c + j)))) at_from ∙ ap (led_back from) (sym (ap path e) ∙ at_to)

led_back-none : (a b : ℕ) → a ≤ b → led_back (Some a) (Some b) ≡ None
led_back-none a b up = ap (λ t. if t then Some b else None) (le-ltb b a up)

led_back-some : (a b : ℕ) → b < a → led_back (Some a) (Some b) ≡ Some b
led_back-some a b down = ap (λ t. if t then Some b else None) (lt-ltb b a down)

-- where a run goes on as plain steps from a state do
abbrev pub GoesAlong : Course → State → (c : ℕ) → Position → Type 0
GoesAlong run s c r = (k : ℕ) (after : State) → plain k s ≡ Went after → run (c + k) ≡ On (record r { state = after })

module _ (run : Course) (s t : State) (c : ℕ) (r : Position) (along : GoesAlong run s c r) where
  path-at : (k : ℕ) (after : State) → plain k s ≡ Went after → path_of run (c + k) ≡ pc_in after
  path-at k after goes = ap stands_at (along k after goes)

  -- steps that do not lower the pc lead nowhere back
  nowhere-back : (n m : ℕ) → Climbs s m → plain n s ≡ Went t → (i : ℕ) → 0 < i → i < m → i ≤ n → head_at (path_of run) (c + i) ≡ None
  nowhere-back n m climbs goes zero some fewer most = absurd (omega arith)
  nowhere-back n m climbs goes (suc j) some fewer most =
      let a = plain-part j n s t (omega arith) goes in
      let b = plain-part (suc j) n s t (omega arith) goes in
      let e : suc j ≡ j + 1 = omega arith in
      head_at-led (path_of run) c j (pc_in a.0) (pc_in b.0) (path-at j a.0 a.1) (path-at (suc j) b.0 b.1)
      ∙ led_back-none (view_of a.0).pc (view_of b.0).pc (climbs j (omega arith) a.0 b.0 a.1 (ap (λ k. plain k s) (sym e) ∙ b.1))

  -- the last step lowers it
  leads-back : (n : ℕ) → Lowers s n → plain n s ≡ Went t → head_at (path_of run) (c + n) ≡ pc_in t
  leads-back zero lowers goes = absurd (let x = lowers.0 in omega arith)
  leads-back (suc j) lowers goes =
      let a = plain-part j (suc j) s t (omega arith) goes in
      let e : suc j - 1 ≡ j = omega arith in
      head_at-led (path_of run) c j (pc_in a.0) (pc_in t) (path-at j a.0 a.1) (path-at (suc j) t goes)
      ∙ led_back-some (view_of a.0).pc (view_of t).pc (lowers.1 a.0 t (ap (λ k. plain k s) e ∙ a.1) goes)

  -- of some steps, what is noted is the head at the last
  pub notes-head : (n : ℕ) (m m' : Seek) → 0 < n → plain n s ≡ Went t → NotesAlong s n (c + n) t m m'
      → ((i : ℕ) → 0 < i → i < n → head_at (path_of run) (c + i) ≡ None) × (m' ≡ noting (c + n) (head_at (path_of run) (c + n)) m)
  notes-head n m m' some goes notes = (
    λ i a b. nowhere-back n n notes.0 goes i a b (omega arith),
    elim notes.1 [
      | inl (lowers, is) ↦ is ∙ ap (λ met. noting (c + n) met m) (sym (leads-back n lowers goes))
      | inr (climbs, is) ↦ is ∙ ap (λ met. noting (c + n) met m) (sym (nowhere-back n (n + 1) climbs goes n some (omega arith) (omega arith)))
    ],
  )

-- a guest call leads from one place to another
pub head_at-call : (run : Course) (s t : State) (c : ℕ) → path_of run c ≡ pc_in s → path_of run (c + 1) ≡ pc_in t → head_at (path_of run) (c + 1) ≡ led_back (pc_in s) (pc_in t)
head_at-call run s t c at_from at_to =
    let none : c + 0 ≡ c = omega arith in
    head_at-led (path_of run) c 0 (pc_in s) (pc_in t) (ap (path_of run) none ∙ at_from) at_to
