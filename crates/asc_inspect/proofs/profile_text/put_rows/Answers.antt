-- No line yet, and one more.
use Rattle.std.proofs.Common.{refl}
use Rattle.asc_inspect.proofs.Profiles.{rows-more, rows-none}
use Rattle.asc_inspect.proofs.profile_text.put_rows.Goals as goal

pub loop-k-init : goal.loop-k-init
loop-k-init c = rows-none c.args.addresses c.args.base _ _

pub loop-k-preserved : goal.loop-k-preserved
loop-k-preserved c = rows-more _ _ c.loop-k.k _ _ _ _ _ c.loop-k.invariant c.in_ok-put_listed.ensures refl
