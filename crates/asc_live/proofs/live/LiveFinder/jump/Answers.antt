-- The finder and the budget alone have changed.
use Rattle.std.proofs.Common.{ap}
use Rattle.asc_live.specs.Budget.{Budget}
use Rattle.asc_live.proofs.Seeing.{IsLive-asked}
use Rattle.asc_live.proofs.live.LiveFinder.jump.Goals as goal

pub invariant_of-self : goal.invariant_of-self
invariant_of-self g c = IsLive-asked _ c.jump-none.new.self c.look_up.new.self (ap (λ (b : Budget). b.cost) c.look_up.ensures) c.self.invariant

pub invariant_of-self-2 : goal.invariant_of-self-2
invariant_of-self-2 g c = IsLive-asked _ c.jump-found.new.self c.look_up-2.new.self (ap (λ (b : Budget). b.cost) c.look_up-2.ensures) c.self.invariant
