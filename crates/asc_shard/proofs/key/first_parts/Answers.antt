use Rattle.std.proofs.Common.{ℕ, ◌<◌, ◌≤◌, get_or, length, List, sym, subst, arith}
use Rattle.std.specs.List.Sorted.{IsStrictlyIncreasing}
use Rattle.asc_traj.proofs.Parts.{part}
use Rattle.asc_shard.specs.Inside.{places_of}
use Rattle.asc_shard.proofs.Keying.{first-of-entry, first-rise}
use Rattle.asc_shard.proofs.key.first_parts.Goals.{then-loop-count-test+else-parts-count-lt512, else-loop-count-test}
use Rattle.asc_shard.proofs.key.first_parts.Goals as goal

pub returns-clause-first : goal.returns-clause-first
returns-clause-first c =
    let parts = c.reads-parts.result.now in
    let next : c.loop-count.count < length parts → 512 ≤ (get_or parts c.loop-count.count (part 0 0)).at = λ lt. elim c.loop-count-test.branch [
      | then-loop-count-test+else-parts-count-lt512 w ↦ w.if-parts-count-lt512.false
      | else-loop-count-test w ↦ absurd (omega (arith, w.loop-count-test.false))
    ] in
    first-of-entry c.args.entry.now parts c.loop-count.count (part 0 0) c.truth.ensures c.reads-parts.ensures.cells c.reads-parts.ensures.parts c.loop-count.invariant.most c.loop-count.invariant.low next

pub returns-clause-rise : goal.returns-clause-rise
returns-clause-rise c =
    let parts = c.reads-parts.result.now in
    let next : c.loop-count.count < length parts → 512 ≤ (get_or parts c.loop-count.count (part 0 0)).at = λ lt. elim c.loop-count-test.branch [
      | then-loop-count-test+else-parts-count-lt512 w ↦ w.if-parts-count-lt512.false
      | else-loop-count-test w ↦ absurd (omega (arith, w.loop-count-test.false))
    ] in
    let first = first-of-entry c.args.entry.now parts c.loop-count.count (part 0 0) c.truth.ensures c.reads-parts.ensures.cells c.reads-parts.ensures.parts c.loop-count.invariant.most c.loop-count.invariant.low next in
    subst (λ (cells : List (ℕ × ℕ)). IsStrictlyIncreasing (places_of cells)) (sym first) (first-rise c.args.entry.now c.truth.ensures)
