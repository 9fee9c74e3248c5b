-- Visits that are made by a function which is handed in.
use Rattle.std.specs.Prelude.{◌≡◌, ℕ, ◌^◌, ◌<◌, ◌≤◌}
use denote.Ref.{MutBor}
use denote.Param.Members.{Shared}
use Rattle.asc_model.specs.State.{State}
use Rattle.asc_find.specs.Helper.{Plans, VisitsMachine, Sees}
use Rattle.asc_find.specs.Finder.{Aid}

-- a helper has room for the counts of one visit more, which has this number
pub record MayVisit (number : ℕ) (old : Aid) : Type 0 where
  pub few : number ≤ 2 ^ 40
  pub made : old.plan.made < 2 ^ 62
  pub full : old.plan.full < 2 ^ 62

-- At a visit of this number a helper learnt of a state, which stays as it was. It was asked for no jump.
pub record IsVisit (number : ℕ) (now left : State) (old new : Aid) : Type 0 where
  pub jumps : new.jumps ≡ old.jumps
  pub replies : new.replies ≡ old.replies
  pub plan : Plans 1 old.plan new.plan
  pub seen : Sees number old.plan new.plan
  pub stays : left ≡ now
  pub machine : VisitsMachine number now old new

-- Each call of a function with a helper, a state and a number is a visit of that number. What a helper tells is told by
-- `aid_of`.
module _ {H F : Type 0} (aid_of : H → Aid) (g : Shared F (MutBor H × (MutBor State × (ℕ × Unit {0}))) (Unit {0} × (MutBor H × (MutBor State × Unit {0})))) where
  pub record MakesVisits (f : F) : Type 0 where
    pub accepts : (h : MutBor H) (s : MutBor State) (number : ℕ) → MayVisit number (aid_of h.now)
        → g.pre f (h, (s, (number, tt)))
    pub visits : (h after : MutBor H) (s left : MutBor State) (number : ℕ) → MayVisit number (aid_of h.now)
        → g.post f (h, (s, (number, tt))) (tt, (after, (left, tt)))
        → IsVisit number s.now left.now (aid_of h.now) (aid_of after.now)
