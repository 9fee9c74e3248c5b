use Rattle.std.proofs.Common.{◌≡◌, ℕ, ◌+◌, ◌/◌, ◌%◌, ◌^◌, ◌++◌, ◌∷◌, ◌∙◌, Bool, true, false, get_or, sym, ap, arith}
use Rattle.asc_traj.specs.Parts.{cells_from, has_byte, word_place}
use Rattle.asc_traj.proofs.Parts.{cells-end, cells-next, here, part}
use Rattle.asc_traj.proofs.cells.next_cell.Goals as goal

pub returns-then-has_byte-clause-some : goal.returns-then-has_byte-clause-some
returns-then-has_byte-clause-some c =
    let parts = c.args.parts.now in
    let at = c.loop-at.at in
    let p = get_or parts (at / 4) (part 0 0) in
    let k = at % 4 in
    let rest = cells_from parts (at + 1) in
    let is : has_byte p k ≡ true = sym c.has_byte.ensures ∙ c.if-has_byte.true in
    let same : cells_from parts c.args.from ≡ (c.place.result + k, c.byte_of.result) ∷ rest =
    c.loop-at.invariant.same ∙ cells-next parts at (part 0 0) c.loop-at-test.true
    ∙ ap (λ (b : Bool). here b (word_place p + k, p.word / 256 ^ k % 256) ++ rest) is
    ∙ ap (λ (byte : ℕ). (word_place p + k, byte) ∷ rest) (sym c.byte_of.ensures)
    ∙ ap (λ (place : ℕ). (place + k, c.byte_of.result) ∷ rest) (sym c.place.ensures.place) in
    (same, omega (arith, c.loop-at.invariant.least), omega (arith, c.loop-at-test.true))

pub loop-at-preserved : goal.loop-at-preserved
loop-at-preserved c =
    let parts = c.args.parts.now in
    let at = c.loop-at.at in
    let p = get_or parts (at / 4) (part 0 0) in
    let k = at % 4 in
    let is : has_byte p k ≡ false = sym c.has_byte.ensures ∙ c.if-has_byte.false in
    record {
      least = omega (arith, c.loop-at.invariant.least);
      most = omega (arith, c.loop-at-test.true);
      same = c.loop-at.invariant.same ∙ cells-next parts at (part 0 0) c.loop-at-test.true
          ∙ ap (λ (b : Bool). here b (word_place p + k, p.word / 256 ^ k % 256) ++ cells_from parts (at + 1)) is;
    }

pub returns-clause-none : goal.returns-clause-none
returns-clause-none c = c.loop-at.invariant.same ∙ cells-end c.args.parts.now c.loop-at.at c.loop-at-test.false
