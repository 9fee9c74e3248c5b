-- One call of the source leaves memory with the bytes taken, and as it was where the source fails.
use Rattle.asc_calls.proofs.Taken.{Fills-takes_in, nothing-takes_in, stays-takes_in, OnErr-any}
use Rattle.asc_calls.proofs.filling.take_once.Goals as goal

pub returns-in_err-count-clause-nothing : goal.returns-in_err-count-clause-nothing
returns-in_err-count-clause-nothing g c = let takes = c.take_in.ensures.takes in
    OnErr-any _ _ (nothing-takes_in _ _ _ _ _ _ takes.0 _ _ c.in_err-count.was takes.1)

pub returns-in_err-count-clause-stays : goal.returns-in_err-count-clause-stays
returns-in_err-count-clause-stays g c = let takes = c.take_in.ensures.takes in
    OnErr-any _ _ (stays-takes_in _ _ _ _ _ _ takes.0 _ _ c.in_err-count.was c.shape.ensures.state c.requires.within takes.1)

pub returns-clause-fills : goal.returns-clause-fills
returns-clause-fills g c = let takes = c.take_in.ensures.takes in
    Fills-takes_in _ _ _ _ _ _ _ takes.0 _ c.in_ok-count.was c.shape.ensures.state c.shape-2.ensures.state c.requires.within takes.1
