use Rattle.std.proofs.Common.{◌∙◌, ℕ, ◌+◌, ◌*◌, ◌/◌, ◌%◌, ◌^◌, below_more, get_or, slice_index, take, ap, arith}
use Rattle.asc_traj.specs.Parts.{all_cells}
use Rattle.asc_traj.proofs.Parts.{part}
use Rattle.asc_shard.specs.Fingerprints.{factor, fingerprint}
use Rattle.asc_shard.proofs.Keying.{first-of-entry, print-in-more}
use Rattle.asc_shard.proofs.key.print_in.Goals as goal

pub loop-i-preserved : goal.loop-i-preserved
loop-i-preserved c =
    let parts = c.reads-parts.result.now in
    let i = c.loop-i.i in
    let p = get_or parts i (part 0 0) in
    let s = c.args.state.now in
    record {
      most = omega arith;
      low = below_more _ _ c.loop-i.invariant.low c.if-parts-i-lt512.true;
      print = c.added-print.ensures
          ∙ ap (λ (n : ℕ). (n + c.of.result * factor (p.at / 16)) % 2 ^ 64) c.loop-i.invariant.print
          ∙ ap (λ (n : ℕ). (fingerprint (λ (cell : ℕ × ℕ). slice_index s.bytes cell.0) (all_cells (take i parts)) + n * factor (p.at / 16)) % 2 ^ 64) c.of.ensures
          ∙ print-in-more s.bytes parts i (part 0 0) c.loop-i-test.true c.shape.ensures.state.bytes;
    }

pub returns-else-parts-i-lt512 : goal.returns-else-parts-i-lt512
returns-else-parts-i-lt512 c =
    let parts = c.reads-parts.result.now in
    c.loop-i.invariant.print ∙ ap (fingerprint (λ (cell : ℕ × ℕ). slice_index c.args.state.now.bytes cell.0))
    (first-of-entry c.args.entry.now parts c.loop-i.i (part 0 0) c.truth.ensures c.reads-parts.ensures.cells c.reads-parts.ensures.parts c.loop-i.invariant.most c.loop-i.invariant.low
    (λ lt. omega (arith, c.if-parts-i-lt512.false)))

pub returns-after-loop-i : goal.returns-after-loop-i
returns-after-loop-i c =
    let parts = c.reads-parts.result.now in
    c.loop-i.invariant.print ∙ ap (fingerprint (λ (cell : ℕ × ℕ). slice_index c.args.state.now.bytes cell.0))
    (first-of-entry c.args.entry.now parts c.loop-i.i (part 0 0) c.truth.ensures c.reads-parts.ensures.cells c.reads-parts.ensures.parts c.loop-i.invariant.most c.loop-i.invariant.low
    (λ lt. absurd (omega (arith, c.loop-i-test.false))))
