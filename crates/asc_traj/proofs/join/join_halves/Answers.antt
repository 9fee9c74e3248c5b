-- Each turn merges one word.
use Rattle.std.proofs.Common.{ℕ, min, rules, sym, ap, subst, ◌∙◌, arith}
use Rattle.std.specs.Option.{option_or}
use Rattle.asc_traj.specs.declared.entry.Halves.{Halves}
use Rattle.asc_traj.specs.Parts.{all_cells}
use Rattle.asc_traj.specs.Joining.{byte_of}
use Rattle.asc_traj.proofs.Taking.{Rises-of}
use Rattle.asc_traj.proofs.Merging.{HasMerged, IsMerging, merge-end, merge-start, merged-on, room-after, room-before}
use Rattle.asc_traj.proofs.join.join_halves.Goals as goal

pub loop-index-init : goal.loop-index-init
loop-index-init c =
    let a = c.args.a.now in
    let b = c.args.b.now in
    let ar = c.reads-a_reads.result.now in
    let aw = c.writes-a_writes.result.now in
    let br = c.reads-b_reads.result.now in
    let bw = c.writes-b_writes.result.now in
    let joined : Halves = record { reads = c.in_ok-with_capacity.field-0; writes = c.in_ok-with_capacity-2.field-0 } in
    let index = c.min-index.ensures ∙ (λ i. min (c.next_of.ensures i) (c.first_of.ensures i)) in
    record {
      index = index;
      way = subst (λ (k : ℕ). IsMerging a b k ar aw br bw joined) (sym index)
          (merge-start a b ar aw br bw joined
          (Rises-of a.shape a.reads ar c.truth.ensures.entry.reads c.reads-a_reads.ensures.cells c.reads-a_reads.ensures.parts)
          (Rises-of a.shape a.writes aw c.truth.ensures.entry.writes c.writes-a_writes.ensures.cells c.writes-a_writes.ensures.parts)
          (Rises-of b.shape b.reads br c.truth-2.ensures.entry.reads c.reads-b_reads.ensures.cells c.reads-b_reads.ensures.parts)
          (Rises-of b.shape b.writes bw c.truth-2.ensures.entry.writes c.writes-b_writes.ensures.cells c.writes-b_writes.ensures.parts)
          c.reads-a_reads.ensures.cells c.writes-a_writes.ensures.cells c.reads-b_reads.ensures.cells c.writes-b_writes.ensures.cells
          (ap all_cells c.in_ok-with_capacity.ensures.items) (ap all_cells c.in_ok-with_capacity-2.ensures.items) (search rules)
          (omega (arith, c.in_ok-with_capacity.ensures.len, c.in_ok-with_capacity.ensures.capacity))
          (omega (arith, c.in_ok-with_capacity-2.ensures.len, c.in_ok-with_capacity-2.ensures.capacity)));
    }

pub loop-index-preserved : goal.loop-index-preserved
loop-index-preserved c =
    let old = c.loop-index in
    let after : Halves = record { reads = c.push.new.parts; writes = c.push-in-loop-index.new.parts } in
    let t = c.take_word.ensures in
    let u = c.take_word-in-loop-index.ensures in
    let v = c.take_word-in-loop-index-2.ensures in
    let w = c.take_word-in-loop-index-3.ensures in
    let way = old.invariant.way in
    let room_reads = room-after _ _ _ _ _ _ _ c.overlay-reads.result.mask c.take_word.result.0.mask c.without-unread.result.mask way.room_reads t.fewer v.fewer t.none
    (λ same. c.without-unread.ensures.none (v.none same)) c.overlay-reads.ensures.none c.push.ensures.few c.push.ensures.none in
    let room_writes = room-after _ _ _ _ _ _ _ c.overlay-writes.result.mask c.take_word-in-loop-index.result.0.mask c.take_word-in-loop-index-3.result.0.mask way.room_writes u.fewer w.fewer u.none w.none
    (λ p q. c.overlay-writes.ensures.none q p) c.push-in-loop-index.ensures.few c.push-in-loop-index.ensures.none in
    let merged : HasMerged old.index c.take_word.result.0 c.take_word-in-loop-index.result.0 c.take_word-in-loop-index-2.result.0 c.take_word-in-loop-index-3.result.0 c.overlay.result c.overlay-reads.result
    c.overlay-writes.result old.joined after = record {
      tells = c.overlay.ensures.bytes;
      picks = λ k lt. c.overlay-reads.ensures.bytes k lt ∙ ap (option_or (byte_of c.take_word.result.0 k)) (c.without-unread.ensures.bytes k lt);
      leaves = c.overlay-writes.ensures.bytes;
      pushed_reads = c.push.ensures.cells;
      pushed_writes = c.push-in-loop-index.ensures.cells;
      parts = record { reads = c.push.ensures.parts; writes = c.push-in-loop-index.ensures.parts };
    } in
    let done = merged-on way t u v w merged (omega (arith, room_reads, c.push.ensures.capacity)) (omega (arith, room_writes, c.push-in-loop-index.ensures.capacity)) in
    let index = c.min-index-in-loop-index.ensures ∙ (λ i. min (c.next_of-in-loop-index.ensures i) (c.first_of-in-loop-index.ensures i)) in
    record {
      index = index;
      way = subst (λ (k : ℕ). IsMerging c.args.a.now c.args.b.now k c.take_word.result.1.now c.take_word-in-loop-index.result.1.now c.take_word-in-loop-index-2.result.1.now c.take_word-in-loop-index-3.result.1.now after)
          (sym index) done;
    }

pub push-requires-clause-room : goal.push-requires-clause-room
push-requires-clause-room c =
    let t = c.take_word.ensures in
    let v = c.take_word-in-loop-index-2.ensures in
    room-before _ _ _ _ _ _ c.overlay-reads.result.mask c.take_word.result.0.mask c.without-unread.result.mask c.loop-index.invariant.way.room_reads t.fewer v.fewer t.none
    (λ same. c.without-unread.ensures.none (v.none same)) c.overlay-reads.ensures.none

pub push-requires-in-loop-index-clause-room : goal.push-requires-in-loop-index-clause-room
push-requires-in-loop-index-clause-room c =
    let u = c.take_word-in-loop-index.ensures in
    let w = c.take_word-in-loop-index-3.ensures in
    room-before _ _ _ _ _ _ c.overlay-writes.result.mask c.take_word-in-loop-index.result.0.mask c.take_word-in-loop-index-3.result.0.mask c.loop-index.invariant.way.room_writes u.fewer w.fewer u.none w.none
    (λ p q. c.overlay-writes.ensures.none q p)

pub returns : goal.returns
returns c = merge-end c.args.a.now c.args.b.now _ _ _ _ _ _ c.truth.ensures c.truth-2.ensures c.requires.shape c.loop-index.invariant.way c.loop-index-test.false
