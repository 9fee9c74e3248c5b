use Rattle.std.proofs.Common.{arith, below_more}
use Rattle.asc_pages.proofs.pages.list_patched.Goals as goal

pub loop-p-preserved : goal.loop-p-preserved
loop-p-preserved c =
    let so = c.loop-p.invariant in
    let one = c.list_changed.ensures c.if-not-list_changed.false in
    record {
      first = λ q other. so.first q (one q other).0;
      dirtied = λ q other. below_more _ _ (so.dirtied q (one q other).0)
          ((one q other).1 (so.first q (one q other).0));
    }

pub returns : goal.returns
returns c few p other =
    let so = c.loop-p.invariant in
    (so.first p other, λ inside. c.in-Some.ensures.pages p inside (λ j below. so.dirtied p other j (omega arith)))
