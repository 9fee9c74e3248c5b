use Rattle.asc_live.proofs.Meeting.{later_twice}
use Rattle.asc_live.proofs.lent.LentFinder.jump.Goals as goal

pub invariant_of-self : goal.invariant_of-self
invariant_of-self g c = later_twice g.N.Lending.lent c.self.inside.readers.readers c.jump.new.self.readers c.self.invariant c.jump.ensures.later
