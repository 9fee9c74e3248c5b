use Rattle.std.proofs.Common.{◌≡◌, ◌∙◌, take, length, length-take, replicate, ap, arith}
use Rattle.asc_shape.proofs.Snapshots.{zeros_filled}
use Rattle.asc_shape.proofs.state.fill_bytes.Goals as goal

pub returns : goal.returns
returns c =
    let bytes = c.fill_pages.new.bytes in
    zeros_filled bytes c.fill.new.self (omega (arith, c.fill_pages.ensures.size)) (c.fill.ensures.after (λ y e. e) ∙ ap (λ n. replicate n 0) (let e : length (take 136 bytes) ≡ 136 = omega (arith, length-take 136 bytes, c.fill_pages.ensures.size) in e))
    c.fill_pages.ensures.zeros
    ∙ ap (λ n. replicate n 0) c.fill_pages.ensures.size
