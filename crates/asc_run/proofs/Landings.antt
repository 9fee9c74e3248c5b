-- What a helper tells, one landing more.
use Rattle.std.proofs.Common.{◌≡◌, ◌≤◌, ◌<◌, ◌+◌, ◌-◌, ℕ, Bool, true, false, List, [], ◌∷◌, ◌++◌, length, Option, Some, None, refl, sym, ap, ◌∙◌, subst, arith, append_assoc}
use Rattle.std.proofs.lemmas.List.{append-nil}
use Rattle.asc_model.specs.State.{State}
use Rattle.asc_model.specs.Step.{Went}
use Rattle.asc_model.specs.Plain.{plain}
use Rattle.asc_traj.specs.Jump.{JumpsBy}
use Rattle.asc_find.specs.Finder.{Aid, Jumps, Plan, Tells, hits_of, jumps_after, steps_given}
use Rattle.asc_find.specs.Serial.{Serial, serial_reply, visited, after_tasks, made_at}
use Rattle.asc_run.specs.Execution.{Position, Progress, On}
use Rattle.asc_run.specs.Visits.{Course, VisitRule, Visit, Passes, IsVisitedFrom, is_at, goes_on_at, with_landing, replies_of}
use Rattle.asc_run.specs.Helped.{Helped, SerialAt, Lands, KeepsMachine, HasVisits}
use Rattle.asc_run.proofs.Reach.{Leads, LeadsAlong, LeadsToEnd}
use Rattle.asc_run.proofs.Shapes.{plain-part}
use Rattle.asc_run.proofs.VisitRules.{AreVisits-later, AreVisits-step, AreVisits-jump, goes_on_at-on, goes_on_at-off, GoesPlain-on}

Tells-none : (x : Option (List (Option ℕ))) → Tells [] x x
Tells-none x ys e = (ys, e, sym (append-nil ys))

Tells-joined : (a b : List (Option ℕ)) (x y z : Option (List (Option ℕ))) → Tells a x y → Tells b y z → Tells (a ++ b) x z
Tells-joined a b x y z p q ys e =
    let g = q ys e in let f = p g.0 g.1 in
    (f.0, f.1, g.2 ∙ ap (λ l. l ++ b) f.2 ∙ append_assoc f.0 a b)

Tells-same : (a : List (Option ℕ)) (x y z : Option (List (Option ℕ))) → Tells a x y → Tells [] y z → Tells a x z
Tells-same a x y z p q ys e =
    let g = q ys e in let f = p g.0 g.1 in
    (f.0, f.1, g.2 ∙ append-nil g.0 ∙ f.2)

-- a helper that was not asked
pub Helped-none : (a : Aid) → Helped [] a a
Helped-none a = record { jumps = refl; replies = Tells-none a.replies; plans = record { made = omega arith; full = omega arith; few = omega arith; refused = omega arith; queue = refl } }

-- one landing more
pub Helped-more : (is : Bool) (c : ℕ) (r : Option ℕ) (vs : List Visit) (u v w : Aid) → Helped vs u v → Helped (with_landing is c r []) v w → Helped (with_landing is c r vs) u w
Helped-more true c r vs u v w p q = record {
  jumps = q.jumps ∙ ap (λ (t : Jumps). jumps_after t r) p.jumps;
  replies = Tells-joined (replies_of vs) (r ∷ []) u.replies v.replies w.replies p.replies q.replies;
  plans = record {
    made = let x = p.plans.made in let y = q.plans.made in omega arith;
    full = let x = p.plans.full in let y = q.plans.full in omega arith;
    few = let x = p.plans.few in let y = q.plans.few in omega arith;
    refused = let x = p.plans.refused in let y = q.plans.refused in omega arith;
    queue = q.plans.queue ∙ p.plans.queue;
  };
}
Helped-more false c r vs u v w p q = record {
  jumps = q.jumps ∙ p.jumps;
  replies = Tells-same (replies_of vs) u.replies v.replies w.replies p.replies q.replies;
  plans = record {
    made = let x = p.plans.made in let y = q.plans.made in omega arith;
    full = let x = p.plans.full in let y = q.plans.full in omega arith;
    few = let x = p.plans.few in let y = q.plans.few in omega arith;
    refused = let x = p.plans.refused in let y = q.plans.refused in omega arith;
    queue = q.plans.queue ∙ p.plans.queue;
  };
}

pub number-more : (is : Bool) (c : ℕ) (r : Option ℕ) (vs : List Visit) (m n : ℕ) → n ≡ length vs → m ≡ n + length (with_landing is c r []) → m ≡ length (with_landing is c r vs)
number-more true c r vs m n p q = omega arith
number-more false c r vs m n p q = omega arith

pub asked-more : (is : Bool) (c : ℕ) (r : Option ℕ) (v w : Aid) → Helped (with_landing is c r []) v w → w.jumps.asked ≡ v.jumps.asked + length (with_landing is c r [])
asked-more true c r v w q = ap (λ (t : Jumps). t.asked) q.jumps
asked-more false c r v w q = ap (λ (t : Jumps). t.asked) q.jumps ∙ (let e : v.jumps.asked ≡ v.jumps.asked + 0 = omega arith in e)

pub given-more : (is : Bool) (c : ℕ) (r : Option ℕ) (v w : Aid) → (is ≡ false → r ≡ None) → Helped (with_landing is c r []) v w → w.jumps.given ≡ v.jumps.given + steps_given r
given-more true c r v w n q = ap (λ (t : Jumps). t.given) q.jumps
given-more false c r v w n q = ap (λ (t : Jumps). t.given) q.jumps ∙ (let e : steps_given r ≡ 0 = ap steps_given (n refl) in omega arith)

pub hits-more : (is : Bool) (c : ℕ) (r : Option ℕ) (v w : Aid) → (is ≡ false → r ≡ None) → Helped (with_landing is c r []) v w → w.jumps.hits ≡ v.jumps.hits + hits_of r
hits-more true c r v w n q = ap (λ (t : Jumps). t.hits) q.jumps
hits-more false c r v w n q = ap (λ (t : Jumps). t.hits) q.jumps ∙ (let e : hits_of r ≡ 0 = ap hits_of (n refl) in omega arith)

pub landing-small : (is : Bool) (c : ℕ) (r : Option ℕ) → length (with_landing is c r []) ≤ 1
landing-small true c r = omega arith
landing-small false c r = omega arith

-- a machine keeps its shape
after_tasks-shape : (m : Serial) (number : ℕ) (last : Option State) (now : State) → (after_tasks m number last now).shape ≡ m.shape
after_tasks-shape m number None now = refl
after_tasks-shape m number (Some last) now = refl

visited-shape : (number : ℕ) (now : State) (m : Serial) → (visited number now m).shape ≡ m.shape
unfolding visited
visited-shape number now m = after_tasks-shape m number m.last now

at_visit : (limit c k : ℕ) (p : Progress) (r : Position) (s : State) (reply : Option ℕ) (m : Serial) (n : ℕ) → r.state ≡ s → p ≡ On r → k ≡ n → reply ≡ serial_reply (visited (k + 1) s m) s (limit - c)
    → SerialAt limit (n + 1) (record { at = c; reply = reply }) p m (visited (k + 1) s m)
at_visit limit c k p r s reply m n e at number gives =
    subst (λ x. SerialAt limit (n + 1) (record { at = c; reply = reply }) x m (visited (k + 1) s m)) (sym at)
    (ap (λ j. visited (j + 1) s m) number ∙ ap (λ t. visited (n + 1) t m) (sym e), gives ∙ ap (λ t. serial_reply (visited (k + 1) s m) t (limit - c)) (sym e))

-- the machine at one landing more
pub machine-more : (is : Bool) (limit c k : ℕ) (run : Course) (r : Position) (s : State) (reply : Option ℕ) (vs : List Visit) (start : State) (old now new : Aid) → r.state ≡ s → run c ≡ On r → s.shape ≡ start.shape → k ≡ length vs
    → old.plan.refused ≤ now.plan.refused → now.plan.refused ≤ new.plan.refused → Lands is k s (limit - c) reply now new → KeepsMachine limit start vs old now run → KeepsMachine limit start (with_landing is c reply vs) old new run
machine-more false limit c k run r s reply vs start old now new e at shape number earlier later lands keeps m told same memory =
    let memory' : now.plan.refused ≡ old.plan.refused = omega arith in
    let g = keeps m told same memory' in
    (g.0, g.1, lands.0 ∙ g.2, g.3, (g.4.0, ap (λ (p : Plan). p.made) lands.1 ∙ g.4.1))
machine-more true limit c k run r s reply vs start old now new e at shape number earlier later lands keeps m told same memory =
    let memory' : now.plan.refused ≡ old.plan.refused = omega arith in
    let memory'' : new.plan.refused ≡ now.plan.refused = omega arith in
    let g = keeps m told same memory' in
    let l = lands g.0 g.2 (shape ∙ same ∙ sym g.3) memory'' in (
      visited (k + 1) s g.0,
      g.1 + made_at (k + 1) g.0,
      l.0,
      visited-shape (k + 1) s g.0 ∙ g.3,
      ((g.0, g.1, g.4.0, (at_visit limit c k (run c) r s reply g.0 (length vs) e at number l.1.1, ap (λ n. g.1 + made_at (n + 1) g.0) number)), omega (arith, l.1.0, g.4.1)),
    )

-- ---- all that a walk says of a run

-- All that is said of a run while a walk goes on that had no visit up to a count: so far it has these visits, and from that
-- count on, below the limit, a count is a visit where the run goes on at an address, whatever the visits are.
pub record SoFar (limit : ℕ) (rule : Course → VisitRule) (address : Option ℕ) (from : ℕ) (start : State) (visits : List Visit) (old now : Aid) (to : ℕ) (run : Course) : Type 0 where
  pub has : HasVisits limit rule start visits old now to run
  pub later : (before : List Visit) (count : ℕ) → from ≤ count → count < limit → rule run before count ≡ goes_on_at address (run count)

module _ (limit : ℕ) (rule : Course → VisitRule) (address : Option ℕ) (from : ℕ) (start : State) where
  -- no visit yet
  pub SoFar-first : (a : Aid) (run : Course) → IsVisitedFrom limit from address (rule run) run → SoFar limit rule address from start [] a a from run
  SoFar-first a run ruled = record {
    has = record { are = ruled.none; serial = λ m told shape memory. (m, 0, told, refl, ((refl, refl), omega arith)) };
    later = ruled.later;
  }

  module _ (s : State) (c k : ℕ) (visits : List Visit) (old now new : Aid) (least : from ≤ c) (below : c < limit) (shape : s.shape ≡ start.shape) (number : k ≡ length visits) (earlier : old.plan.refused ≤ now.plan.refused) (later : now.plan.refused ≤ new.plan.refused) where
    -- a landing from which it does not jump
    pub SoFar-step : Lands (is_at address s) k s (limit - c) None now new
        → Leads (SoFar limit rule address from start visits old now c) (SoFar limit rule address from start (with_landing (is_at address s) c None visits) old new (c + 1)) s c
    SoFar-step lands run r e at q = record {
      has = record {
        are = AreVisits-step (is_at address s) limit run (rule run) visits c q.has.are (q.later visits c least below ∙ goes_on_at-on address (run c) r s e at);
        serial = machine-more (is_at address s) limit c k run r s None visits start old now new e at shape number earlier later lands q.has.serial;
      };
      later = q.later;
    }

    -- a jump
    pub SoFar-jump : (t : State) (n : ℕ) → JumpsBy n (limit - c) s t → (is_at address s ≡ false → Some n ≡ None) → Lands (is_at address s) k s (limit - c) (Some n) now new
        → Leads (SoFar limit rule address from start visits old now c) (SoFar limit rule address from start (with_landing (is_at address s) c (Some n) visits) old new (c + n)) s c
    SoFar-jump t n jump passed lands run r e at q =
        let most = jump.most in record {
          has = record {
            are = AreVisits-jump (is_at address s) limit run (rule run) visits c n q.has.are (q.later visits c least below ∙ goes_on_at-on address (run c) r s e at) passed jump.least (omega (arith, most))
                (GoesPlain-on n (run c) r s t e at jump.goes);
            serial = machine-more (is_at address s) limit c k run r s (Some n) visits start old now new e at shape number earlier later lands q.has.serial;
          };
          later = q.later;
        }

  -- plain steps that pass the address: no count between is a visit
  pub SoFar-passed : (s t : State) (c n : ℕ) (visits : List Visit) (old now : Aid) → from ≤ c → c + n ≤ limit → 0 < n → plain n s ≡ Went t → Passes address s n
      → LeadsAlong (SoFar limit rule address from start visits old now (c + 1)) (SoFar limit rule address from start visits old now (c + n)) s c
  SoFar-passed s t c n visits old now least within some goes passes run r e at along q = record {
    has = record {
      are = AreVisits-later limit run (rule run) visits (c + 1) (c + n) q.has.are (omega arith) (λ count from_c to.
          let k : ℕ = count - c in
          let sum : c + k ≡ count = omega arith in
          let reached = plain-part k n s t (omega arith) goes in
          let there = ap run (sym sum) ∙ along k reached.0 reached.1 in
          q.later visits count (omega arith) (omega arith) ∙ goes_on_at-on address (run count) (record r { state = reached.0 }) reached.0 refl there ∙ passes k (omega arith) (omega arith) reached.0 reached.1);
      serial = q.has.serial;
    };
    later = q.later;
  }

  -- the last step: the run has ended then, and has no visit
  pub SoFar-end : (s : State) (c : ℕ) (visits : List Visit) (old now : Aid) → from ≤ c → c < limit
      → LeadsToEnd (SoFar limit rule address from start visits old now (c + 1)) (HasVisits limit rule start visits old now limit) s c
  SoFar-end s c visits old now least below run r e at off q = record {
    are = AreVisits-later limit run (rule run) visits (c + 1) limit q.has.are (omega arith) (λ m le l. q.later visits m (omega arith) l ∙ goes_on_at-off address (run m) (off m (omega arith)));
    serial = q.has.serial;
  }
