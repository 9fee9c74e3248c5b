-- One entry more.
use Rattle.std.proofs.Common.{◌≡◌, rules, get_or, fold, map, take, sym, ap, ◌∙◌}
use Rattle.std.specs.Arc.{arc_value}
use Rattle.asc_traj.proofs.Looks.{fold_more}
use Rattle.asc_shard.specs.Content.{add, content_of}
use Rattle.asc_cache.specs.Cache.{ShardWriter, shard_of}
use Rattle.asc_live.proofs.Opening.{one_added}
use Rattle.asc_live.proofs.shards.insert_all.Goals as goal

pub loop-entry-preserved : goal.loop-entry-preserved
loop-entry-preserved g c =
    let inv = c.loop-entry.invariant in
    let was = c.args.writer.now in let w = c.loop-entry.writer in let v = c.insert.new.self in
    let xs = c.args.entries.now in let i = c.loop-entry.entry-index in let x = c.entry-item.result in
    let e = arc_value c.in_ok-try_clone.field-0 in
    let same : e ≡ arc_value (get_or xs i x) = search rules in
    let before = fold (add was.capacity) (shard_of was).held (take i (map arc_value xs)) in
    let after = c.in_ok-insert.ensures.stored in record {
      held =
          ap (λ (w : ShardWriter). content_of w.capacity w.stored) after
          ∙ one_added w.capacity w.stored e c.in_ok-insert.field-0 c.in_ok-insert.ensures.answer
          ∙ ap (λ l. add w.capacity l e) inv.held ∙ ap (λ n. add n before e) (ap (λ (w : ShardWriter). w.capacity) inv.rest)
          ∙ ap (add was.capacity before) same ∙ sym (fold_more (add was.capacity) (shard_of was).held xs i x c.loop-entry-test.true);
      rest =
          ap (λ (x : ShardWriter). record x { stored = v.stored; refused = v.refused }) after
          ∙ ap (λ (x : ShardWriter). record x { stored = v.stored; refused = v.refused }) inv.rest;
    }
