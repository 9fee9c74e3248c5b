use Rattle.std.proofs.Common.{◌∙◌, ap, refl, slice_index, replicate}
use Rattle.std.proofs.lemmas.List.{get_or-replicate}
use Rattle.asc_model.specs.Arithmetic.{◌+w◌, ◌-w◌, product}
use Rattle.asc_shape.specs.Stride.{strided_word}
use Rattle.asc_shape.proofs.Eights.{lane_of}
use Rattle.asc_shape.proofs.lanes.strided_eight.Goals as goal

pub returns : goal.returns
returns c j within =
    lane_of (λ a b. a +w b) product (λ a b. a -w b) c.args.last c.args.prev (replicate 8 c.args.ahead) j c.fits-last.0 c.fits-prev.0 refl within
    ∙ ap (λ ahead. strided_word ahead (slice_index c.args.last j) (slice_index c.args.prev j)) (get_or-replicate 8 j c.args.ahead 0 within)
