-- What is said of a run while a walk seeks its address, one landing more.
use Rattle.std.proofs.Common.{◌≡◌, ◌≢◌, ◌⊎◌, inl, inr, ◌≤◌, ◌<◌, ◌+◌, ◌-◌, ℕ, Bool, true, false, List, [], length, Option, Some, None, refl, sym, ap, ◌∙◌, subst, arith}
use Rattle.asc_model.specs.State.{State}
use Rattle.asc_model.specs.Step.{Went}
use Rattle.asc_model.specs.Plain.{plain}
use Rattle.asc_traj.specs.Jump.{JumpsBy}
use Rattle.asc_seek.specs.declared.seeker.Seeking.{Seeking}
use Rattle.asc_seek.specs.declared.seeker.Phase.{Phase}
use Rattle.asc_seek.specs.declared.seeker.Phase.TheVariants as phase
use Rattle.asc_seek.specs.Heads.{head_at, led_back, note}
use Rattle.asc_seek.specs.Seek.{Seek, end_in, is_over, new_seek, advanced, watched_in}
use Rattle.asc_run.specs.declared.recognised.Recognised.TheVariants.{Sought}
use Rattle.asc_run.specs.Execution.{Position, On}
use Rattle.asc_run.specs.Sought.{NotesAlong, learning, noting, pc_in}
use Rattle.asc_run.specs.Visits.{Course, Passes, Visit, goes_on_at, is_at, visit_rule, path_of, seek_at, stands_at, with_landing}
use Rattle.asc_run.specs.Helped.{HasVisits, Lands}
use Rattle.asc_find.specs.Finder.{Aid}
use Rattle.asc_run.proofs.Reach.{Leads, LeadsAlong, LeadsToEnd}
use Rattle.asc_run.proofs.VisitRules.{AreVisits-later, AreVisits-step, AreVisits-jump, floor, floor_of, goes_on_at-on, goes_on_at-off, GoesPlain-on}
use Rattle.asc_run.proofs.Landings.{machine-more}
use Rattle.asc_run.proofs.Shapes.{plain-part}
use Rattle.asc_run.proofs.Seeking.{goes_on_at-none, head_at-call, notes-head, seek_at-first, seek_at-landed, seek_at-noted, seek_at-notes, seek_at-stays, seek_at-turns, table-seek_at, visit-other, watched-other, with_heads-next}

pub phase-cases : (p : Phase) → (p ≡ phase.Profile) ⊎ (p ≢ phase.Profile)
phase-cases phase.Profile = inl refl
phase-cases (phase.Trial t) = inr (λ is. cc)
phase-cases (phase.Service v) = inr (λ is. cc)
phase-cases (phase.Rest until) = inr (λ is. cc)

-- where the search stands behind a landing from which the walk does not jump: behind a visit it learnt of that
abbrev StandsBehind : Seeking → (is_visit : Bool) → List Visit → (c : ℕ) → Seek → Course → Type 0
StandsBehind s true visits c m run = (seek_at s run visits (c + 1) ≡ advanced (c + 1) m) × (m.phase ≢ phase.Profile)
StandsBehind s false visits c m run = (seek_at s run visits c ≡ m) × (is_over c m ≡ false) × (floor visits ≤ c)

-- From a landing a walk goes on for n steps, and the search from m to m': up to the end of its phase at most, and for one
-- step behind a visit. While heads are noted, none but the last leads back, and it is noted if it does. Else none but the
-- last leads to the address.
pub record Moves (is_visit : Bool) (c n : ℕ) (m m' : Seek) (run : Course) : Type 0 where
  pub some : 0 < n
  pub one : is_visit ≡ true → n ≡ 1
  pub most : is_visit ≡ false → c + n ≤ end_in m m.phase
  pub since : is_visit ≡ false → m.phase ≡ phase.Profile → m.since ≤ c
  pub nowhere : m.phase ≡ phase.Profile → (i : ℕ) → 0 < i → i < n → head_at (path_of run) (c + i) ≡ None
  pub noted : m.phase ≡ phase.Profile → m' ≡ noting (c + n) (head_at (path_of run) (c + n)) m
  pub passes : is_visit ≡ false → m.phase ≢ phase.Profile → (i : ℕ) → 0 < i → i < n → goes_on_at (watched_in m.phase) (run (c + i)) ≡ false
  pub other : m.phase ≢ phase.Profile → m' ≡ m

module _ (limit : ℕ) (s : Seeking) (start : State) where
  -- So far a walk has these visits, and its search stands behind m, whose phase may be over.
  pub record Seeks (visits : List Visit) (old now : Aid) (to : ℕ) (m : Seek) (run : Course) : Type 0 where
    pub has : HasVisits limit (visit_rule (Sought s)) start visits old now to run
    pub stands : seek_at s run visits to ≡ advanced to m

  -- the same behind a landing from which it does not jump
  pub record Landed (is_visit : Bool) (visits : List Visit) (old now : Aid) (c : ℕ) (m : Seek) (run : Course) : Type 0 where
    pub has : HasVisits limit (visit_rule (Sought s)) start visits old now (c + 1) run
    pub stands : StandsBehind s is_visit visits c m run

  -- no visit yet
  pub Seeks-first : (a : Aid) (run : Course) → Seeks [] a a 0 (new_seek s) run
  Seeks-first a run = record {
    has = record {
      are = λ count from to. absurd (omega arith);
      serial = λ m told shape memory. (m, 0, told, refl, ((refl, refl), omega arith));
    };
    stands = seek_at-first s run;
  }

  module _ (st : State) (c k : ℕ) (visits : List Visit) (old now new : Aid) (m m' : Seek) (is : Bool) (shape : st.shape ≡ start.shape) (number : k ≡ length visits) (earlier : old.plan.refused ≤ now.plan.refused) (later : now.plan.refused ≤ new.plan.refused)
      (turned : m' ≡ advanced c m) (going : is_over c m' ≡ false) (at_address : is_at (watched_in m'.phase) st ≡ is) where
    -- a count is a visit if the state stands at the address of the search
    rule-is : (run : Course) (r : Position) → r.state ≡ st → run c ≡ On r → seek_at s run visits c ≡ advanced c m → visit_rule (Sought s) run visits c ≡ is
    rule-is run r e at stands =
        ap (λ (x : Seek). goes_on_at (watched_in x.phase) (run c)) (stands ∙ sym turned) ∙ goes_on_at-on (watched_in m'.phase) (run c) r st e at ∙ at_address

    stands-landed : (b : Bool) (run : Course) → is_at (watched_in m'.phase) st ≡ b → seek_at s run visits c ≡ advanced c m → floor visits ≤ c → StandsBehind s b (with_landing b c None visits) c (learning b c None m') run
    stands-landed true run at stands behind =
        let other = watched-other m'.phase st at in
        (seek_at-landed s run (record { at = c; reply = None }) visits m' (stands ∙ sym turned) other, visit-other c None m' other)
    stands-landed false run at stands behind = (stands ∙ sym turned, going, behind)

    stands-jumped : (n : ℕ) (b : Bool) (run : Course) → is_at (watched_in m'.phase) st ≡ b → (b ≡ false → Some n ≡ None) → seek_at s run visits c ≡ advanced c m
        → seek_at s run (with_landing b c (Some n) visits) (c + n) ≡ advanced (c + n) (learning b c (Some n) m')
    stands-jumped n true run at passed stands =
        seek_at-landed s run (record { at = c; reply = Some n }) visits m' (stands ∙ sym turned) (watched-other m'.phase st at)
    stands-jumped n false run at passed stands = let none = passed refl in cc

    -- a landing from which it does not jump
    pub Seeks-step : Lands is k st (limit - c) None now new → Leads (Seeks visits old now c m) (Landed is (with_landing is c None visits) old new c (learning is c None m')) st c
    Seeks-step lands run r e at q = record {
      has = record {
        are = AreVisits-step is limit run (visit_rule (Sought s) run) visits c q.has.are (rule-is run r e at q.stands);
        serial = machine-more is limit c k run r st None visits start old now new e at shape number earlier later lands q.has.serial;
      };
      stands = stands-landed is run at_address q.stands (floor_of limit run (visit_rule (Sought s) run) visits c q.has.are).0;
    }

    -- a jump
    pub Seeks-jump : (t : State) (n : ℕ) → JumpsBy n (limit - c) st t → (is ≡ false → Some n ≡ None) → c < limit → Lands is k st (limit - c) (Some n) now new
        → Leads (Seeks visits old now c m) (Seeks (with_landing is c (Some n) visits) old new (c + n) (learning is c (Some n) m')) st c
    Seeks-jump t n jump passed below lands run r e at q =
        let most = jump.most in record {
          has = record {
            are = AreVisits-jump is limit run (visit_rule (Sought s) run) visits c n q.has.are (rule-is run r e at q.stands) passed jump.least (omega (arith, most)) (GoesPlain-on n (run c) r st t e at jump.goes);
            serial = machine-more is limit c k run r st (Some n) visits start old now new e at shape number earlier later lands q.has.serial;
          };
          stands = stands-jumped n is run at_address passed q.stands;
        }

  module _ (visits : List Visit) (old now : Aid) (c n : ℕ) (m m' : Seek) (run : Course) where
    -- none of the counts between is a visit
    more-visits : Landed false visits old now c m run → 0 < n → ((i : ℕ) → 0 < i → i < n → visit_rule (Sought s) run visits (c + i) ≡ false) → HasVisits limit (visit_rule (Sought s)) start visits old now (c + n) run
    more-visits q some none = record {
      are = AreVisits-later limit run (visit_rule (Sought s) run) visits (c + 1) (c + n) q.has.are (omega arith) (λ count from to.
          let i : ℕ = count - c in
          let sum : c + i ≡ count = omega arith in
          subst (λ x. visit_rule (Sought s) run visits x ≡ false) sum (none i (omega arith) (omega arith)));
      serial = q.has.serial;
    }

    moves-other : m.phase ≢ phase.Profile → Landed false visits old now c m run → Moves false c n m m' run → Seeks visits old now (c + n) m' run
    moves-other other q moves =
        let early = moves.most refl in
        record {
          has = more-visits q moves.some (λ i some fewer.
              ap (λ (x : Seek). goes_on_at (watched_in x.phase) (run (c + i))) (seek_at-stays s run visits c i m q.stands.2 q.stands.0 other (omega (arith, early, fewer)))
              ∙ moves.passes refl other i some fewer);
          stands = seek_at-turns s run visits c n m q.stands.2 q.stands.0 other moves.some early ∙ ap (advanced (c + n)) (sym (moves.other other));
        }

    moves-noting : m.phase ≡ phase.Profile → Landed false visits old now c m run → Moves false c n m m' run → Seeks visits old now (c + n) m' run
    moves-noting notes q moves =
        let early = moves.most refl in
        let none : watched_in m.phase ≡ None = ap watched_in notes in
        let table = with_heads-next (path_of run) m.since c n (moves.since refl notes) moves.some (moves.nowhere notes) ∙ ap (note (c + n) (head_at (path_of run) (c + n))) (sym (table-seek_at s run visits c n m q.stands.2 q.stands.0 notes)) in
        record {
          has = more-visits q moves.some (λ i some fewer.
              ap (λ (x : Seek). goes_on_at (watched_in x.phase) (run (c + i))) (seek_at-notes s run visits c i m q.stands.2 q.stands.0 notes (omega (arith, early, fewer)))
              ∙ ap (λ a. goes_on_at a (run (c + i))) none ∙ goes_on_at-none (run (c + i)));
          stands = seek_at-noted s run visits c n m q.stands.2 q.stands.0 notes moves.some early
              ∙ ap (λ t. advanced (c + n) (record m { table = t })) table
              ∙ ap (advanced (c + n)) (sym (moves.noted notes));
        }

    moves-by : (is : Bool) → Landed is visits old now c m run → Moves is c n m m' run → Seeks visits old now (c + n) m' run
    moves-by true q moves =
        let one : 1 ≡ n = sym (moves.one refl) in
        let same : m ≡ m' = sym (moves.other q.stands.1) in
        subst (λ j. Seeks visits old now (c + j) m' run) one (subst (λ x. Seeks visits old now (c + 1) x run) same (record { has = q.has; stands = q.stands.0 }))
    moves-by false q moves = elim (phase-cases m.phase) [
      | inl notes ↦ moves-noting notes q moves
      | inr other ↦ moves-other other q moves
    ]

  -- plain steps
  pub Landed-plain : (is : Bool) (st t : State) (c n : ℕ) (visits : List Visit) (old now : Aid) (m m' : Seek) (address : Option ℕ) → 0 < n → (is ≡ true → n ≡ 1) → (is ≡ false → c + n ≤ end_in m m.phase) → (is ≡ false → m.phase ≡ phase.Profile → m.since ≤ c)
      → plain n st ≡ Went t → (is ≡ false → address ≡ watched_in m.phase) → (m.phase ≢ phase.Profile → Passes address st n) → (m.phase ≡ phase.Profile → NotesAlong st n (c + n) t m m') → (m.phase ≢ phase.Profile → m' ≡ m)
      → LeadsAlong (Landed is visits old now c m) (Seeks visits old now (c + n) m') st c
  Landed-plain is st t c n visits old now m m' address some one most since goes watched passes noted other run r e at along q =
      moves-by visits old now c n m m' run is q (record {
        some = some;
        one = one;
        most = most;
        since = since;
        nowhere = λ notes. (notes-head run st t c r along n m m' some goes (noted notes)).0;
        noted = λ notes. (notes-head run st t c r along n m m' some goes (noted notes)).1;
        passes = λ none trial i more fewer.
            let reached = plain-part i n st t (omega arith) goes in
            goes_on_at-on (watched_in m.phase) (run (c + i)) (record r { state = reached.0 }) reached.0 refl (along i reached.0 reached.1)
            ∙ ap (λ a. is_at a reached.0) (sym (watched none))
            ∙ passes trial i more fewer reached.0 reached.1;
        other = other;
      })

  -- before a guest call it is noted where the run stands
  pub record Stood (is_visit : Bool) (visits : List Visit) (old now : Aid) (c : ℕ) (m : Seek) (st : State) (run : Course) : Type 0 where
    pub landed : Landed is_visit visits old now c m run
    pub from : path_of run c ≡ pc_in st

  pub Landed-stood : (is : Bool) (st : State) (c : ℕ) (visits : List Visit) (old now : Aid) (m : Seek) → Leads (Landed is visits old now c m) (Stood is visits old now c m st) st c
  Landed-stood is st c visits old now m run r e at q = record { landed = q; from = ap stands_at at ∙ ap pc_in e }

  -- a guest call after which it goes on
  pub Stood-call : (is : Bool) (st t : State) (c : ℕ) (visits : List Visit) (old now : Aid) (m m' : Seek) → (is ≡ false → c + 1 ≤ end_in m m.phase) → (is ≡ false → m.phase ≡ phase.Profile → m.since ≤ c)
      → (m.phase ≡ phase.Profile → m' ≡ noting (c + 1) (led_back (pc_in st) (pc_in t)) m) → (m.phase ≢ phase.Profile → m' ≡ m)
      → Leads (Stood is visits old now c m st) (Seeks visits old now (c + 1) m') t (c + 1)
  Stood-call is st t c visits old now m m' most since noted other run r e at q =
      moves-by visits old now c 1 m m' run is q.landed (record {
        some = omega arith;
        one = λ visit. refl;
        most = most;
        since = since;
        nowhere = λ notes i some fewer. absurd (omega arith);
        noted = λ notes. noted notes ∙ ap (λ met. noting (c + 1) met m) (sym (head_at-call run st t c q.from (ap stands_at at ∙ ap pc_in e)));
        passes = λ none trial i more fewer. absurd (omega arith);
        other = other;
      })

  -- the last step: the run has ended then, and has no visit
  pub Landed-end : (is : Bool) (st : State) (c : ℕ) (visits : List Visit) (old now : Aid) (m : Seek) → c < limit
      → LeadsToEnd (Landed is visits old now c m) (HasVisits limit (visit_rule (Sought s)) start visits old now limit) st c
  Landed-end is st c visits old now m below run r e at off q = record {
    are = AreVisits-later limit run (visit_rule (Sought s) run) visits (c + 1) limit q.has.are (omega arith) (λ count from to. goes_on_at-off (watched_in (seek_at s run visits count).phase) (run count) (off count (omega arith)));
    serial = q.has.serial;
  }
