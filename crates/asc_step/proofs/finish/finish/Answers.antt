use Rattle.asc_step.proofs.Effects.{finishes_calls, finishes_break}
use Rattle.asc_step.proofs.finish.finish.Goals as goal

pub returns-in-Store : goal.returns-in-Store
returns-in-Store g c = rw c.in-Store.is (c.store.ensures c.args.rd)

pub returns-in-GuestCall : goal.returns-in-GuestCall
returns-in-GuestCall g c = rw c.in-GuestCall.is (finishes_calls _ c.args.rd)

pub returns-in-Breakpoint : goal.returns-in-Breakpoint
returns-in-Breakpoint g c = rw c.in-Breakpoint.is (finishes_break _ c.args.pc c.args.rd _ c.requires.at c.fault.ensures)
