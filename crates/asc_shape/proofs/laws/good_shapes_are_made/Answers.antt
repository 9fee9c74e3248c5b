use Rattle.asc_shape.proofs.Made.{made, good}
use Rattle.asc_shape.proofs.laws.good_shapes_are_made.Goals as goal

pub returns : goal.returns
returns c = λ shape. (good shape, made shape)
