-- One entry more.
use Rattle.std.proofs.Common.{◌≡◌, ◌∙◌, List, [], get_or, map, rules, take, sym, ap}
use Rattle.std.specs.Arc.{arc_value}
use Rattle.asc_model.specs.declared.limits.TheConstants.{MOST_ENTRIES}
use Rattle.asc_model.specs.Entry.{Entry}
use Rattle.asc_traj.proofs.Looks.{fold_more}
use Rattle.asc_shard.specs.Content.{add, content_of}
use Rattle.asc_run.specs.SerialHelper.{SerialHelper, added, first_helper}
use Rattle.asc_run.specs.SerialRun.{serial_of}
use Rattle.asc_top.proofs.run.helper_with.Goals as goal

pub loop-entry-preserved : goal.loop-entry-preserved
loop-entry-preserved c =
    let xs = c.args.first.now in
    let i = c.loop-entry.entry-index in
    let x = c.entry-item.result in
    let e = arc_value c.in_ok-try_clone.field-0 in
    let same : e ≡ arc_value (get_or xs i x) = search rules in
    let before = content_of MOST_ENTRIES (take i (map arc_value xs)) in
    let more = ap (add MOST_ENTRIES before) same ∙ sym (fold_more (add MOST_ENTRIES) [] xs i x c.loop-entry-test.true) in
    c.preload.ensures.added ∙ ap (λ (h : SerialHelper). added h e) c.loop-entry.invariant
    ∙ ap (λ (content : List Entry). record (first_helper c.args.shape c.args.guessing) { machine = serial_of c.args.shape c.args.guessing content }) more
