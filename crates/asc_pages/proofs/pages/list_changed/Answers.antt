use Rattle.std.proofs.Common.{◌∙◌, ◌<◌, length, arith}
use Rattle.asc_pages.specs.Numbers.{place_of}
use Rattle.asc_pages.proofs.Places.{place_found}
use Rattle.asc_pages.proofs.pages.list_changed.Goals as goal

pub returns-then-place-len : goal.returns-then-place-len
returns-then-place-len c few q other =
    let found : place_of c.args.base.now c.args.p < length c.args.base.now = omega (arith, c.place.ensures) in
    (other, λ unlisted same. unlisted (place_of c.args.base.now c.args.p) found (place_found c.args.base.now c.args.p found ∙ same))
