use Rattle.std.proofs.Common.{◌∙◌, ℕ, List, sym, ap}
use Rattle.std.specs.Ordering.{nat_cmp}
use Rattle.std.specs.Cmp.Lexicographic.{slice_cmp}
use Rattle.asc_model.specs.Shape.{length_of}
use Rattle.asc_shard.specs.Inside.{bytes_at, bytes_of}
use Rattle.asc_shard.proofs.Orders.{cells-whole, rest-below}
use Rattle.asc_shard.proofs.order.compare_parts.Goals as goal

pub compare_parts_from-requires-clause-within : goal.compare_parts_from-requires-clause-within
compare_parts_from-requires-clause-within c = rest-below (length_of c.args.state.now.shape) c.args.parts.now c.count_alike.result c.requires.within

pub returns : goal.returns
returns c =
    c.compare_parts_from.ensures
    ∙ ap (λ (list : List (ℕ × ℕ)). slice_cmp nat_cmp (bytes_of list) (bytes_at c.args.state.now list)) (cells-whole c.args.parts.now c.count_alike.result)
    ∙ sym c.count_alike.ensures.rest
