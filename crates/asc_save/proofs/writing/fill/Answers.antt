use Rattle.std.proofs.Common.{◌∙◌, arith}
use Rattle.asc_traj.specs.Parts.{cells_from}
use Rattle.asc_save.proofs.Putting.{filled_more, four_bytes}
use Rattle.asc_save.proofs.writing.fill.Goals as goal

pub loop-length-preserved : goal.loop-length-preserved
loop-length-preserved c =
    let some = c.in-Some.ensures.some in
    let inv = c.loop-length.invariant in
    let next = some.1 in
    let end = some.2 in
    let least = inv.least in
    let whole = inv.whole in
    let goes = inv.goes in
    record {
      next = end;
      least = omega arith;
      goes = λ _. omega arith;
      still = λ e. absurd (let x : ⊥ = omega arith in x);
      whole = omega arith;
      most = omega arith;
      filled = filled_more c.loop-length.room c.write_u32.new.buf c.loop-length.length c.in-Some.cell.place c.in-Some.cell.byte
          (cells_from c.args.parts.now c.args.from) (cells_from c.args.parts.now c.loop-length.next) (cells_from c.args.parts.now c.in-Some.cell.next)
          (omega arith) (c.write_u32.ensures ∙ four_bytes c.in-Some.cell.place _) some.0 inv.filled;
    }
