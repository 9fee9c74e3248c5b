use Rattle.std.proofs.Common.{ℕ, ◌==◌, [], ◌∷◌, not, length-append, ◌*◌, ◌/◌, ◌%◌, ◌^◌, ◌<◌, length, bit_or, slice_index, ap, arith}
use Rattle.std.specs.Global.{Vec}
use Rattle.std.proofs.lemmas.List.{length-set}
use Rattle.std.proofs.lemmas.List.Elements.{All-push}
use Rattle.std.proofs.lemmas.Nat.{one_shl}
use Rattle.asc_depvec.proofs.Bits.{cond-most, has-added, live-less, live-set, or-some}
use Rattle.asc_depvec.proofs.bitmap.set_block.Goals as goal
use Rattle.asc_depvec.proofs.bitmap.set_block.Goals.{then-before-eq0, else-before-eq0}

pub returns-clause-bits : goal.returns-clause-bits
returns-clause-bits c = λ other. has-added c.args.groups.now c.args.block (1 * 2 ^ (c.args.block % 64) % 2 ^ 64) other c.requires.within (one_shl (c.args.block % 64) 64 (omega arith))

pub returns-clause-used : goal.returns-clause-used
returns-clause-used c =
    let P = λ (block : ℕ). block < length c.args.groups.now in
    rw length-set (elim c.if-before-eq0.branch [
      | then-before-eq0 w ↦ rw (w.used-is, w.push_reserved.ensures.items) (All-push P c.args.used.now.items (c.args.block / 64) c.requires.used c.requires.within)
      | else-before-eq0 w ↦ rw w.used-is c.requires.used
    ])

pub push_reserved-requires : goal.push_reserved-requires
push_reserved-requires c =
    omega (arith, live-less c.args.groups.now (c.args.block / 64) c.requires.within c.if-before-eq0.true, c.requires.few, c.requires.room, c.args.used.now.ok.0)

pub returns-clause-few : goal.returns-clause-few
returns-clause-few c =
    let groups = c.args.groups.now in
    let group = c.args.block / 64 in
    let bit = c.args.block % 64 in
    let power = 1 * 2 ^ bit % 2 ^ 64 in
    let value = bit_or (slice_index groups group) power in
    let set = live-set groups group value c.requires.within (or-some (slice_index groups group) power bit (one_shl bit 64 (omega arith))) in
    elim c.if-before-eq0.branch [
      | then-before-eq0 w ↦ grind (arith, set, ap (λ (v : Vec ℕ). v.items) w.used-is, w.push_reserved.ensures.items, length-append c.args.used.now.items (group ∷ []), w.if-before-eq0.true, c.requires.few)
      | else-before-eq0 w ↦ omega (arith, set, ap (λ (v : Vec ℕ). length v.items) w.used-is, cond-most (not (slice_index groups group == 0)), c.requires.few)
    ]
