-- Each turn compares one word.
use Rattle.std.proofs.Common.{ℕ, sym, subst, ◌∙◌, arith}
use Rattle.std.proofs.lemmas.Bool.Decides.{nat_tests}
use Rattle.std.proofs.lemmas.Grind.{common_steps}
use Rattle.asc_traj.proofs.Merging.{IsTelling, refused, tell-end, tell-start, told-on}
use Rattle.asc_traj.proofs.Taking.{Rises-of}
use Rattle.asc_traj.proofs.join.reads_agree.Goals as goal

pub loop-index-init : goal.loop-index-init
loop-index-init c =
    let a = c.args.a.now in
    let b = c.args.b.now in
    let ar = c.reads-a_reads.result.now in
    let aw = c.writes-a_writes.result.now in
    let br = c.reads-b_reads.result.now in
    record {
      index = c.next_of-index.ensures;
      way = subst (λ (k : ℕ). IsTelling a b k ar aw br) (sym c.next_of-index.ensures)
          (tell-start a b ar aw br
          (Rises-of a.shape a.reads ar c.truth.ensures.entry.reads c.reads-a_reads.ensures.cells c.reads-a_reads.ensures.parts)
          (Rises-of a.shape a.writes aw c.truth.ensures.entry.writes c.writes-a_writes.ensures.cells c.writes-a_writes.ensures.parts)
          (Rises-of b.shape b.reads br c.truth-2.ensures.entry.reads c.reads-b_reads.ensures.cells c.reads-b_reads.ensures.parts)
          c.reads-a_reads.ensures.cells c.writes-a_writes.ensures.cells c.reads-b_reads.ensures.cells);
    }

pub returns-then-not-meets_all : goal.returns-then-not-meets_all
returns-then-not-meets_all c =
    sym (refused c.overlay.result c.loop-index.invariant.way c.take_word.ensures c.take_word-in-loop-index.ensures c.take_word-in-loop-index-2.ensures c.overlay.ensures.bytes
    (sym c.meets_all.ensures ∙ c.if-not-meets_all.true))

pub loop-index-preserved : goal.loop-index-preserved
loop-index-preserved c = record {
  index = c.next_of-index-in-loop-index.ensures;
  way = subst (λ (k : ℕ). IsTelling c.args.a.now c.args.b.now k c.take_word.result.1.now c.take_word-in-loop-index.result.1.now c.take_word-in-loop-index-2.result.1.now)
      (sym c.next_of-index-in-loop-index.ensures)
      (told-on c.overlay.result c.loop-index.invariant.way c.take_word.ensures c.take_word-in-loop-index.ensures c.take_word-in-loop-index-2.ensures c.overlay.ensures.bytes
      (sym c.meets_all.ensures ∙ c.if-not-meets_all.false));
}

pub returns : goal.returns
returns c = sym (tell-end c.args.a.now c.args.b.now _ _ _ _ c.truth-2.ensures c.loop-index.invariant.way c.loop-index-test.false)
