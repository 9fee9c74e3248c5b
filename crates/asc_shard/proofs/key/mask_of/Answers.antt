use Rattle.std.proofs.Common.{◌≡◌, ◌∙◌, ℕ, ◌+◌, ◌*◌, ◌/◌, ◌%◌, ◌^◌, ◌<◌, get_or, ap, arith}
use Rattle.std.proofs.lemmas.Nat.{shl_whole}
use Rattle.std.proofs.lemmas.List.{take_all}
use Rattle.asc_traj.specs.declared.part.Part.{Part}
use Rattle.asc_traj.specs.Parts.{all_cells, word_place}
use Rattle.asc_traj.proofs.Parts.{part}
use Rattle.asc_shard.proofs.Keying.{bits-one, bits-room, bits_in, mask-is}
use Rattle.asc_shard.proofs.key.mask_of.Goals as goal

-- what is shifted is not cut off
shifted : (p : Part) (low : ℕ) → p.at < 512 → low ≡ p.at % 16 → (low * 2 ^ (p.at / 16 * 4)) % 340282366920938463463374607431768211456 ≡ p.at % 16 * 2 ^ word_place p
shifted p low lt is =
    ap (λ (n : ℕ). (n * 2 ^ (p.at / 16 * 4)) % 340282366920938463463374607431768211456) is
    ∙ shl_whole (p.at % 16) 4 (p.at / 16 * 4) 128 (let small : p.at % 16 < 16 = omega arith in small) (omega (arith, lt))

pub overflow_add-mask : goal.overflow_add-mask
overflow_add-mask c =
    let parts = c.args.parts.now in
    let i = c.loop-part.part-index in
    let p = get_or parts i (part 0 0) in
    let cut = shifted p c.from.result (c.requires.places i (part 0 0) c.loop-part-test.true) c.from.ensures in
    omega (arith, c.loop-part.invariant, cut, bits-room parts i (part 0 0) c.loop-part-test.true c.requires.places c.requires.rise)

pub loop-part-preserved : goal.loop-part-preserved
loop-part-preserved c =
    let parts = c.args.parts.now in
    let i = c.loop-part.part-index in
    let p = get_or parts i (part 0 0) in
    let cut = shifted p c.from.result (c.requires.places i (part 0 0) c.loop-part-test.true) c.from.ensures in
    ap (λ (n : ℕ). c.loop-part.mask + n) cut ∙ ap (λ (n : ℕ). n + p.at % 16 * 2 ^ word_place p) c.loop-part.invariant ∙ bits-one parts i (part 0 0) c.loop-part-test.true

pub returns : goal.returns
returns c =
    let parts = c.args.parts.now in
    c.loop-part.invariant ∙ ap (λ list. bits_in (all_cells list)) (take_all c.loop-part.part-index parts c.loop-part-test.false) ∙ mask-is parts c.requires.places c.requires.rise
