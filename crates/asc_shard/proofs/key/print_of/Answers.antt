use Rattle.std.proofs.Common.{◌∙◌, ℕ, ◌+◌, ◌*◌, ◌/◌, ◌%◌, ◌^◌, get_or, ap}
use Rattle.std.proofs.lemmas.List.{take_all}
use Rattle.asc_traj.specs.Parts.{all_cells}
use Rattle.asc_traj.proofs.Parts.{part}
use Rattle.asc_shard.specs.Fingerprints.{factor, fingerprint}
use Rattle.asc_shard.proofs.Keying.{print-more}
use Rattle.asc_shard.proofs.key.print_of.Goals as goal

pub loop-part-preserved : goal.loop-part-preserved
loop-part-preserved c =
    let parts = c.args.parts.now in
    let i = c.loop-part.part-index in
    let p = get_or parts i (part 0 0) in
    c.added-print.ensures ∙ ap (λ (n : ℕ). (n + p.word * factor (p.at / 16)) % 2 ^ 64) c.loop-part.invariant
    ∙ print-more parts i (part 0 0) c.loop-part-test.true (c.requires.parts i (part 0 0) c.loop-part-test.true)

pub returns : goal.returns
returns c =
    c.loop-part.invariant ∙ ap (λ list. fingerprint (λ (cell : ℕ × ℕ). cell.1) (all_cells list)) (take_all c.loop-part.part-index c.args.parts.now c.loop-part-test.false)
