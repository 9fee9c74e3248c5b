use Rattle.std.proofs.Common.{◌∙◌, List, ℕ, length, slice_index, sym, ap, arith}
use Rattle.asc_shape.proofs.Snapshots.{fronted}
use Rattle.asc_shape.proofs.state.put_snapshot.Goals as goal

pub returns : goal.returns
returns c =
    let bytes = c.put_pages.new.bytes in
    let last = c.args.from.now.bytes in
    let good = c.shape.ensures.state in
    fronted c.copy_from_slice.new.self bytes last (ap (λ (l : List ℕ). length l) c.copy_from_slice.ensures.after ∙ c.front.ensures.size)
    (omega (arith, c.put_pages.ensures.size, good.length, good.shape.size.least)) (c.put_pages.ensures.size ∙ c.requires)
    (λ i below. ap (λ (l : List ℕ). slice_index l i) c.copy_from_slice.ensures.after ∙ sym (c.front.ensures.front i below))
    (λ i above inside. c.put_pages.ensures.each i (omega (arith, c.put_pages.ensures.size)) ∙ sym (c.pages.ensures i above (omega (arith, c.put_pages.ensures.size))))
