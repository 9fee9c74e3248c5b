use Rattle.std.proofs.Common.{sym, ◌∙◌}
use Rattle.asc_traj.proofs.Finding.{found-up, found-stay, is-longer}
use Rattle.asc_traj.proofs.longest.longest_match.Goals.{then-is_longer, else-is_longer}
use Rattle.asc_traj.proofs.longest.longest_match.Goals as goal

pub loop-held-preserved : goal.loop-held-preserved
loop-held-preserved c =
    let v = c.loop-held.invariant in
    let is = c.is_longer.ensures.is in
    elim c.if-is_longer.branch [
      | then-is_longer w ↦ rw (w.best-is, w.most-is) (record {
        found = found-up c.args.state.now c.args.left c.loop-held.most c.args.entries.now c.loop-held.held-index c.held-item.result c.deref-entry.result.now _ c.loop-held-test.true (cc (c.deref-entry.ensures, c.held-item.is)) v.found v.most (sym is ∙ w.if-is_longer.true);
        most = sym w.steps-most.ensures;
        fits = is-longer c.args.state.now c.args.left c.loop-held.most c.deref-entry.result.now (sym is ∙ w.if-is_longer.true);
      })
      | else-is_longer w ↦ rw (w.best-is, w.most-is) (record {
        found = found-stay c.args.state.now c.args.left c.loop-held.most c.args.entries.now c.loop-held.held-index c.held-item.result c.deref-entry.result.now _ c.loop-held-test.true (cc (c.deref-entry.ensures, c.held-item.is)) v.found v.most c.is_longer.ensures.least (sym is ∙ w.if-is_longer.false);
        most = v.most;
        fits = v.fits;
      })
    ]
