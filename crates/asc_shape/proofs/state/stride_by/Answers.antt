use Rattle.std.proofs.Common.{◌≡◌, ◌∙◌, List, ℕ, length, take, length-take, slice_index, sym, ap, arith}
use Rattle.asc_shape.proofs.Strides.{length-strided, whole_words}
use Rattle.asc_shape.proofs.Snapshots.{fronted, front_strided, behind_strided}
use Rattle.asc_shape.proofs.state.stride_by.Goals as goal

pub stride_pages-requires-clause-whole : goal.stride_pages-requires-clause-whole
stride_pages-requires-clause-whole c = let good = c.shape.ensures.state in omega (arith, good.length, whole_words c.args.prev.now.shape good.shape)

pub returns : goal.returns
returns c =
    let last = c.args.bytes.now in
    let prev = c.args.prev.now in
    let bytes = c.stride_pages.new.bytes in
    let good = c.shape.ensures.state in
    let least = good.shape.size.least in
    fronted c.copy_from_slice.new.self bytes _
    (c.copy_from_slice.auto.self ∙ (let e : length (take 136 bytes) ≡ 136 = omega (arith, length-take 136 bytes, c.stride_pages.ensures.size, good.length, least) in e))
    (omega (arith, c.stride_pages.ensures.size, good.length, least)) (c.stride_pages.ensures.size ∙ sym (length-strided c.args.ahead last prev.bytes))
    (λ i below. ap (λ (l : List ℕ). slice_index l i) c.copy_from_slice.ensures.after ∙ c.strided_front-front.ensures i below
    ∙ front_strided c.args.ahead last prev c.front.result.now i below (omega (arith, good.length, least)) c.front.ensures.front)
    (λ i above inside. c.stride_pages.ensures.each i (omega (arith, c.stride_pages.ensures.size))
    ∙ behind_strided c.args.ahead last prev c.pages.result.now i above (omega (arith, c.stride_pages.ensures.size)) c.requires
    (omega (arith, good.length, whole_words prev.shape good.shape)) c.pages.ensures)
