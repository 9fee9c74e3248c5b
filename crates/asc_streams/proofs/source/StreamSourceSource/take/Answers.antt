use Rattle.std.proofs.Common.{drop, sym, subst}
use Rattle.asc_outside.specs.Outside.{Takes}
use Rattle.asc_streams.proofs.Told.{kept, taken, take_copied}
use Rattle.asc_streams.proofs.source.StreamSourceSource.take.Goals as goal

-- what was consumed is what the buffer begins with
pub returns-in-Ok-clause-taken : goal.returns-in-Ok-clause-taken
returns-in-Ok-clause-taken g c =
    let steady = g.met.R.SteadyRead.steady c.args.self.now.reader c.read.new.self in
    let done = taken _ _ _ steady c.in-Ok.ensures.bytes.0 in
    let front = take_copied c.in-Ok.count c.copy_from_slice.new.self c.read.new.buf _ (drop c.in-Ok.count c.args.into.now) c.copy_from_slice.ensures.after c.in-Ok.ensures.bound.0 in
    subst (Takes (g.R.Read.remaining c.args.self.now.reader) (g.R.Read.remaining c.read.new.self)) (sym front) done

pub returns-in-Err-clause-nothing : goal.returns-in-Err-clause-nothing
returns-in-Err-clause-nothing g c =
    kept _ _ (g.met.R.SteadyRead.steady c.args.self.now.reader c.read.new.self) c.in-Err.ensures.bytes
